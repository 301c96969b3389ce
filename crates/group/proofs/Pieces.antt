-- A unit's calls with some pieces of its steps left open, and that the right pieces give back rules' calls.
use mathlib.Core.Bool.{Bool, cond, not}
use mathlib.Core.List.{List, [], ◌∷◌}
use mathlib.Core.Option.{Option, none, some}
use mathlib.Core.Path.{◌≡◌, refl, ap, ◌∙◌}
use Prim.Native.Nat.{ℕ, zero, suc, ◌+◌}
use lib.Dec.{eqb, leb, ltb}
use lib.ListN.{length}
use Rattle.rules.specs.Maps.{among, at, column}
use Rattle.rules.specs.Message.{Message, Said, message, request, encode, decode}
use Rattle.rules.specs.State.{Place, State, min_al, min_pal, from}
use Rattle.rules.specs.Steps.{without_oldest, with_lists, moved, outgoing, noted}
use Rattle.rules.specs.Steps as Steps
use Rattle.rules.specs.Calls.{Check, ◌⇒◌, decide, Result, refusal, written, send_checks, data_checks, Call, sends, hears, asks, copies, takes}
use Rattle.rules.specs.Calls as Calls

pub record Pieces : Type 0 where
  -- p, next in number, may be accepted
  pub known : State → Message → Bool
  -- how far from minAL on a unit sends
  pub window : State → ℕ
  -- the first number whose frame is kept
  pub kept_from : State → ℕ
  pub insert : Place → List Place → List Place
  -- the messages of a sender below this number are pre-acknowledged, and confirmed
  pub preack_below : State → ℕ → ℕ
  pub confirm_below : State → ℕ → ℕ

abbrev pub pieces : (State → Message → Bool) → (State → ℕ) → (State → ℕ) → (Place → List Place → List Place)
    → (State → ℕ → ℕ) → (State → ℕ → ℕ) → Pieces
pieces known window kept_from insert preack_below confirm_below =
    record { known = known; window = window; kept_from = kept_from; insert = insert; preack_below = preack_below; confirm_below = confirm_below }

-- minAL of the own index
abbrev pub lowest : State → ℕ
lowest s = min_al s s.me

abbrev pub right : Pieces
right = pieces Steps.known Steps.window lowest Steps.insert min_al min_pal

-- in the checks, what answers a is now this test
abbrev replaced : ℕ → Bool → List Check → List Check
replaced a t [] = []
replaced a t (c ∷ l) = cond (eqb c.answer a) ((t ⇒ a) ∷ replaced a t l) (c ∷ replaced a t l)

abbrev with_kept : State → (ℕ → List ℕ) → State
with_kept s kept =
    record {
      me = s.me;
      n = s.n;
      w = s.w;
      cid = s.cid;
      seq = s.seq;
      req = s.req;
      al = s.al;
      pal = s.pal;
      buf = s.buf;
      heard = s.heard;
      kept = kept;
      waiting = s.waiting;
      ordered = s.ordered;
      confirmed = s.confirmed;
    }

module _ (k : Pieces) where
  unfoldable pub stored : State → Message → State
  stored s p = let t : State = Steps.stored s p in with_kept t (λ x. cond (leb (k.kept_from t) x) (s.kept x) [])

  unfoldable pub preacked : State → Place → State
  preacked s p =
      with_lists s (column s.pal p.src (at p.ack)) (without_oldest p.src s.waiting) (k.insert p s.ordered) s.confirmed

  unfoldable pub preack_while : List Place → State → State
  preack_while [] s = s
  preack_while (p ∷ ps) s = cond (ltb p.seq (k.preack_below s p.src)) (preack_while ps (preacked s p)) s

  unfoldable pub preack_to : ℕ → State → State
  preack_to zero s = s
  preack_to (suc m) s = let t : State = preack_to m s in preack_while (from (suc m) t.waiting) t

  unfoldable pub confirm_while : List Place → State → State
  confirm_while [] s = s
  confirm_while (p ∷ ps) s = cond (ltb p.seq (k.confirm_below s p.src)) (confirm_while ps (moved s p)) s

  unfoldable pub accepted : State → Message → State
  accepted s p = let t : State = preack_to s.n (stored s p) in confirm_while t.ordered t

  unfoldable pub send : State → List ℕ → List ℕ → Result
  send s d out =
      let m : Message = outgoing s d in
      let f : List ℕ = encode (message m) in
      decide (replaced 15 (not (ltb s.seq (lowest s + k.window s))) (send_checks s d out)) (refusal 2 s out)
      (record { answer = 0; numbers = s.seq ∷ length f ∷ []; next = accepted (Steps.keeping s m) m; output = written out f })

  unfoldable pub arrive_data : State → Message → Result
  arrive_data s p =
      decide (replaced 10 (not (k.known s p)) (data_checks s p)) (λ a. refusal 2 (cond (among a (9 ∷ 10 ∷ 12 ∷ [])) (noted s p) s) [] a)
      (record { answer = 0; numbers = 0 ∷ 0 ∷ []; next = accepted s p; output = [] })

  abbrev arrive_said : State → Option Said → Result
  arrive_said s none = Calls.arrive_said s none
  arrive_said s (some (message p)) = arrive_data s p
  arrive_said s (some (request r)) = Calls.arrive_request s r

  abbrev pub call : State → Call → Result
  call s (sends d out) = send s d out
  call s (hears l) = arrive_said s (decode l)
  call s (asks x out) = Calls.make_request s x out
  call s (copies x out) = Calls.copy s x out
  call s (takes out) = Calls.take s out

-- ---- the right pieces

right-preack_while : (ps : List Place) (s : State) → preack_while right ps s ≡ Steps.preack_while ps s
unfolding preack_while preacked Steps.preacked
right-preack_while [] s = refl
right-preack_while (p ∷ ps) s =
    ap (λ (t : State). cond (ltb p.seq (min_al s p.src)) t s) (right-preack_while ps (Steps.preacked s p))

right-preack_to : (m : ℕ) (s : State) → preack_to right m s ≡ Steps.preack_to m s
unfolding preack_to Steps.preack_of
right-preack_to zero s = refl
right-preack_to (suc m) s =
    right-preack_while _ _ ∙ ap (λ (t : State). Steps.preack_while (from (suc m) t.waiting) t) (right-preack_to m s)

right-confirm_while : (ps : List Place) (s : State) → confirm_while right ps s ≡ Steps.confirm_while ps s
unfolding confirm_while
right-confirm_while [] s = refl
right-confirm_while (p ∷ ps) s = ap (λ (t : State). cond (ltb p.seq (min_pal s p.src)) t s) (right-confirm_while ps (moved s p))

right-accepted : (s : State) (p : Message) → accepted right s p ≡ Steps.accepted s p
unfolding accepted stored Steps.accepted Steps.stored Steps.confirm min_al
right-accepted s p =
    right-confirm_while _ _ ∙ ap (λ (t : State). Steps.confirm_while t.ordered t) (right-preack_to s.n (Steps.stored s p))

right-send : (s : State) (d out : List ℕ) → send right s d out ≡ Calls.send s d out
unfolding send Calls.send send_checks Steps.sent Steps.may_send
right-send s d out =
    let m : Message = outgoing s d in
    let f : List ℕ = encode (message m) in
    ap (λ (t : State). decide (send_checks s d out) (refusal 2 s out) (record { answer = 0; numbers = s.seq ∷ length f ∷ []; next = t; output = written out f }))
    (right-accepted (Steps.keeping s m) m)

right-arrive_data : (s : State) (p : Message) → arrive_data right s p ≡ Calls.arrive_data s p
unfolding arrive_data Calls.arrive_data data_checks
right-arrive_data s p =
    ap (λ (t : State). decide (data_checks s p) (λ a. refusal 2 (cond (among a (9 ∷ 10 ∷ 12 ∷ [])) (noted s p) s) [] a)
    (record { answer = 0; numbers = 0 ∷ 0 ∷ []; next = t; output = [] })) (right-accepted s p)

right-arrive_said : (s : State) (o : Option Said) → arrive_said right s o ≡ Calls.arrive_said s o
right-arrive_said s none = refl
right-arrive_said s (some (message p)) = right-arrive_data s p
right-arrive_said s (some (request r)) = refl

pub right-call : (s : State) (c : Call) → call right s c ≡ Calls.call s c
unfolding Calls.arrive
right-call s (sends d out) = right-send s d out
right-call s (hears l) = right-arrive_said s (decode l)
right-call s (asks x out) = refl
right-call s (copies x out) = refl
right-call s (takes out) = refl
