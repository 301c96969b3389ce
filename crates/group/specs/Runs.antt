-- Runs of a group: what its units hold, what they did, and what may happen next.
use Rattle.std.specs.Prelude.{cond, ◌≡◌, ℕ, ◌≤◌, eqb, take}
use mathlib.Core.List.{List, [], ◌∷◌, ◌++◌, map, Memᴰ as Mem}
use Rattle.std.proofs.Math.Option.{Option, none, some}
use Rattle.rules.specs.Maps.{upd, at}
use Rattle.rules.specs.Message.{Message, Said, message, request, decode}
use Rattle.rules.specs.Lawful.{Bytes}
use Rattle.rules.specs.State.{Place, State}
use Rattle.rules.specs.Calls.{Result, opening, oldest, Call, sends, hears, asks, copies, takes}

-- the indices of n units
abbrev pub Index : ℕ → ℕ → Type 0
Index n i = (1 ≤ i) × (i ≤ n)

-- What a unit did: it sent this message, in this frame; or it accepted this message.
pub data Did : Type 0 where
  sent : Message → List ℕ → Did
  accepted : Message → Did

pub record Group : Type 0 where
  -- the unit of each index
  pub unit : ℕ → State
  -- every frame written so far
  pub air : List (List ℕ)
  -- what each unit did, the newest first
  pub log : ℕ → List Did
  -- what each unit has handed out by take, the oldest first; the unit itself forgets it
  pub took : ℕ → List Place

-- ---- what a call did, read off its result

-- the bytes written: as many as the k-th number handed back says
abbrev front : ℕ → Result → List ℕ
front k r = take (at r.numbers k) r.output

-- the frame written, if the call writes one
abbrev pub wrote : Call → Result → List (List ℕ)
wrote (sends d out) r = front 2 r ∷ []
wrote (hears l) r = []
wrote (asks k out) r = front 1 r ∷ []
wrote (copies x out) r = front 1 r ∷ []
wrote (takes out) r = []

-- the message in a frame, if it is a data frame
abbrev pub message_of : Option Said → List Message
message_of none = []
message_of (some (message m)) = m ∷ []
message_of (some (request r)) = []

abbrev pub message_in : List ℕ → List Message
message_in l = message_of (decode l)

abbrev pub did : Call → Result → List Did
did (sends d out) r = map (λ m. sent m (front 2 r)) (message_in (front 2 r))
did (hears l) r = map accepted (message_in l)
did (asks k out) r = []
did (copies x out) r = []
did (takes out) r = []

-- the message handed out by a call on the unit s
abbrev pub hands_out : Call → State → List Place
hands_out (sends d out) s = []
hands_out (hears l) s = []
hands_out (asks k out) s = []
hands_out (copies x out) s = []
hands_out (takes out) s = oldest s ∷ []

-- l, where the call was done
abbrev pub if_done : {A : Type 0} → Result → List A → List A
if_done r l = cond (eqb r.answer 0) l []

-- ---- events

-- unit i is now s; these frames were written, these things done, these messages handed out
unfoldable pub updated : Group → ℕ → State → List (List ℕ) → List Did → List Place → Group
updated g i s frames deeds places =
    record {
      unit = upd g.unit i s;
      air = g.air ++ frames;
      log = upd g.log i (deeds ++ g.log i);
      took = upd g.took i (g.took i ++ places);
    }

-- what may happen: data sent are bytes, and what arrives is a copy of a frame that some unit wrote
abbrev pub Proper : Group → Call → Type 0
Proper g (sends d out) = Bytes d
Proper g (hears l) = Mem l g.air
Proper g (asks k out) = Unit {0}
Proper g (copies x out) = Unit {0}
Proper g (takes out) = Unit {0}

-- the group at opening
unfoldable pub fresh : ℕ → ℕ → ℕ → (ℕ → ℕ) → Group
fresh n w cid first =
    record { unit = λ i. (opening i n w cid first).unit; air = []; log = λ i. []; took = λ i. [] }

-- Of units that answer calls as `act` says. Demand 3 is about rules' `call`; other engines serve to show what a mistake breaks.
module _ (act : State → Call → Result) where
  -- unit i is called
  unfoldable pub after : Group → ℕ → Call → Group
  after g i c =
      let r : Result = act (g.unit i) c in
      updated g i r.next (if_done r (wrote c r)) (if_done r (did c r)) (if_done r (hands_out c (g.unit i)))

  -- a group of n opened alike, after any such events, in any order
  pub data Run (n w cid : ℕ) (first : ℕ → ℕ) : Group → Type 0 where
    opens : ((i : ℕ) → Index n i → (opening i n w cid first).answer ≡ 0) → Run n w cid first (fresh n w cid first)
    then : {g : Group} → Run n w cid first g → (i : ℕ) → Index n i → (c : Call) → Proper g c → Run n w cid first (after g i c)
