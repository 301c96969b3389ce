-- Demand 3: what is promised of a group, in every state that a run leads to.
--
-- A group (Runs.antt) is n units opened alike: rules' `opening`, with the same n, W, CID and first numbers, answered 0 for each index.
-- Beside the units it has every frame written so far, a log of what each unit did, and what was taken from each.
-- A run is any sequence of rules' calls on its units, with any arguments, output too short included; but the data sent are bytes, and
-- what arrives is a copy of a frame that some unit wrote before. So frames are lost, late, repeated, reordered and resent in any way,
-- and every refusal may happen. A unit is never put back to an earlier state.
-- A message p causally precedes q (Causality.antt) where q's sender had sent or accepted p before it sent q, by its log, or where
-- a chain of such steps leads from p to q. ACK, REQ and AL have no part in this.
use Rattle.std.specs.Prelude.{true, ◌↔◌, ◌≡◌, ℕ, ◌≤◌, length, take}
use mathlib.Core.List.{List, ◌++◌, map, Memᴰ as Mem}
use Rattle.rules.specs.Message.{Message}
use Rattle.rules.specs.State.{Place, from}
use Rattle.rules.specs.Steps.{is_kept, precedes}
use Rattle.rules.specs.Calls.{call}
use Rattle.group.specs.Runs.{Index, sent, Group, Run}
use Rattle.group.specs.Causality.{Ahead, about, sent_in, Cause}

-- What a message says, sent or in a place: a place holds no CID and no BUF, a message has no slot.
pub record Content : Type 0 where
  pub src : ℕ
  pub seq : ℕ
  pub ack : List ℕ
  pub text : List ℕ

abbrev pub in_message : Message → Content
in_message m = record { src = m.src; seq = m.seq; ack = m.ack; text = m.text }

abbrev pub in_place : Place → Content
in_place p = record { src = p.src; seq = p.seq; ack = p.ack; text = p.text }

-- what unit i has confirmed, those taken included, and what it has pre-acknowledged, in the order of the unit
abbrev pub confirmed_at : Group → ℕ → List Place
confirmed_at g i = g.took i ++ (g.unit i).confirmed

abbrev pub preacked_at : Group → ℕ → List Place
preacked_at g i = confirmed_at g i ++ (g.unit i).ordered

-- ---- the clauses, of a group of n units

module _ (n : ℕ) (g : Group) where
  -- each unit has confirmed, per sender, the first so many messages sent
  abbrev pub FirstSoMany : Type 0
  FirstSoMany =
      (i k : ℕ) → Index n i → Index n k
      → let l = from k (confirmed_at g i) in
      map in_place l ≡ take (length l) (map in_message (sent_in (g.log k)))

  -- and none of anybody else
  abbrev pub OfUnits : Type 0
  OfUnits = (i : ℕ) → Index n i → (p : Place) → Mem p (confirmed_at g i) → Index n p.src

  -- each once
  abbrev pub EachOnce : Type 0
  EachOnce =
      (i : ℕ) → Index n i → (p q : Place) → Ahead p q (confirmed_at g i) → ¬ ((p.src ≡ q.src) × (p.seq ≡ q.seq))

  -- none stands before one that causally precedes it, by any chain
  abbrev pub InCausalOrder : Type 0
  InCausalOrder =
      (i : ℕ) → Index n i → (p q : Place) → Ahead p q (confirmed_at g i)
      → (a b : Message) → in_place p ≡ in_message a → in_place q ≡ in_message b → ¬ (Cause n g b a)

  -- what one unit has confirmed, every unit has pre-acknowledged
  abbrev pub PreackedByAll : Type 0
  PreackedByAll =
      (i j : ℕ) → Index n i → Index n j → (p : Place) → Mem p (confirmed_at g i) → Mem (in_place p) (map in_place (preacked_at g j))

  -- no unit has more than w of one sender's messages waiting for that
  abbrev pub FewWait : ℕ → Type 0
  FewWait w = (i k : ℕ) → Index n i → Index n k → length (from k (g.unit i).waiting) ≤ w

  -- the sender j still keeps each message that some unit i has neither sent nor accepted, its frame as first sent
  abbrev pub SenderKeeps : Type 0
  SenderKeeps =
      (i j : ℕ) → Index n i → Index n j → (m : Message) (f : List ℕ) → Mem (sent m f) (g.log j) → ¬ (Mem m (map about (g.log i)))
      → (is_kept (g.unit j) m.seq ≡ true) × ((g.unit j).kept m.seq ≡ f)

pub record Demand3 (n w : ℕ) (g : Group) : Type 0 where
  pub first_so_many : FirstSoMany n g
  pub of_units : OfUnits n g
  pub each_once : EachOnce n g
  pub in_causal_order : InCausalOrder n g
  pub preacked_by_all : PreackedByAll n g
  pub few_wait : FewWait n g w
  pub sender_keeps : SenderKeeps n g

-- The precedence test of the steps says what causality says: of messages a and b of the run, in whichever places p and q.
abbrev pub PrecedenceIsCausality : ℕ → Group → Type 0
PrecedenceIsCausality n g =
    (j k : ℕ) → Index n j → Index n k → (a b : Message) → Mem a (sent_in (g.log j)) → Mem b (sent_in (g.log k))
    → (p q : Place) → in_place p ≡ in_message a → in_place q ≡ in_message b → (precedes p q ≡ true) ↔ Cause n g a b

-- ---- the promise, proved in proofs/Theorem.antt

abbrev pub Promise : Type 0
Promise =
    (n w cid : ℕ) (first : ℕ → ℕ) (g : Group) → Run call n w cid first g → Demand3 n w g × PrecedenceIsCausality n g
