-- What is handed out, and the whole lent output: taking, asking and copying, as a unit's numbers and arrays give them.
use Rattle.std.specs.Prelude.{not, ◌&&◌, ◌||◌, List, [], ◌∷◌, ◌≡◌, ℕ, ◌+◌, ◌-◌, ◌*◌, eqb, leb, ltb, length, get_or, take, Ok, Err}
use Rattle.rules.specs.Maps.{between, at}
use Rattle.rules.specs.Message.{Request, request, encode}
use Rattle.rules.specs.Calls.{Check, ◌⇒◌, decide, written}
use Rattle.tables.specs.Rows.{part}
use Rattle.lists.specs.Order.{sender_of, entry, without_first}
use Rattle.framewrite.specs.Writing.{request_of}
use Rattle.answers.specs.Answers.{Answered, refusal_of}
use Rattle.state.specs.declared.Core.{Core}
use Rattle.state.specs.Changed.{with_order}
use Rattle.state.specs.Soundness.{own_low, sound_of}
use Rattle.handing.specs.declared.Taken.{Taken}

-- a result, and the whole output
pub record Given (A : Type 0) : Type 0 where
  pub result : A
  pub output : List ℕ

-- a function gave these
pub record Gives {A : Type 0} (g : Given A) (r : A) (after : List ℕ) : Type 0 where
  pub result : r ≡ g.result
  pub output : after ≡ g.output

-- a refusal leaves the output as it was
abbrev pub refusing : {A : Type 0} → List ℕ → ℕ → Given (Answered A)
refusing out a = record { result = Err (refusal_of a); output = out }

-- x, with l at the front of the output
abbrev pub done_with : {A : Type 0} → A → List ℕ → List ℕ → Given (Answered A)
done_with x l out = record { result = Ok x; output = written out l }

abbrev pub giving : {A : Type 0} → List Check → A → List ℕ → List ℕ → Given (Answered A)
giving checks x l out = decide checks (refusing out) (done_with x l out)

-- ---- taking

-- the oldest confirmed place, and the length of the data at place p
abbrev pub oldest_place : Core → ℕ
oldest_place c = entry c.order 0

abbrev pub length_at : Core → ℕ → ℕ
length_at c p = get_or c.lens p 0

-- the message at place p, the oldest confirmed one
abbrev pub taken_at : Core → ℕ → Taken
taken_at c p = record { src = sender_of p; seq = get_or c.seqs p 0; len = length_at c p }

abbrev pub taking_checks : Core → List ℕ → List ℕ → List Check
taking_checks c acks out =
    (not (sound_of c acks) ⇒ 1)
    ∷ (eqb c.order.confirmed 0 ⇒ 18)
    ∷ (ltb (length out) (length_at c (oldest_place c)) ⇒ 16)
    ∷ []

-- the unit's next numbers beside it: a refusal leaves them, and the output, as they were
abbrev pub not_taken : Core → List ℕ → ℕ → Given (Core × Answered Taken)
not_taken c out a = record { result = (c, Err (refusal_of a)); output = out }

abbrev pub taken_with : Core → List ℕ → List ℕ → Given (Core × Answered Taken)
taken_with c bytes out =
    let p : ℕ = oldest_place c in
    record {
      result = (with_order c (without_first c.order), Ok (taken_at c p));
      output = written out (part bytes (48 * p) (length_at c p));
    }

unfoldable pub taking_of : Core → List ℕ → List ℕ → List ℕ → Given (Core × Answered Taken)
taking_of c acks bytes out = decide (taking_checks c acks out) (not_taken c out) (taken_with c bytes out)

-- ---- asking and copying: the length of the frame

-- the request for what is missing of k
abbrev pub request_for : Core → ℕ → Request
request_for c k = request_of c.cid c.me (take c.n c.req) k (at c.heard k)

abbrev pub asking_checks : Core → List ℕ → ℕ → List ℕ → List Check
asking_checks c acks k out =
    (not (sound_of c acks) ⇒ 1)
    ∷ (not (between 1 c.n k) || eqb k c.me ⇒ 5)
    ∷ (leb (at c.heard k) (at c.req k) ⇒ 18)
    ∷ (ltb (length out) (33 + 4 * c.n) ⇒ 16)
    ∷ []

unfoldable pub asking_of : Core → List ℕ → ℕ → List ℕ → Given (Answered ℕ)
asking_of c acks k out =
    let l : List ℕ = encode (request (request_for c k)) in
    giving (asking_checks c acks k out) (length l) l out

-- the slot of the kept frame of number x, and the frame's length
abbrev pub slot_for : Core → ℕ → ℕ
slot_for c x = x - own_low c

abbrev pub length_for : Core → ℕ → ℕ
length_for c x = get_or c.kept (slot_for c x) 0

abbrev pub copying_checks : Core → List ℕ → ℕ → List ℕ → List Check
copying_checks c acks x out =
    (not (sound_of c acks) ⇒ 1)
    ∷ (not (leb (own_low c) x && ltb x c.seq) ⇒ 18)
    ∷ (ltb (length out) (length_for c x) ⇒ 16)
    ∷ []

unfoldable pub copying_of : Core → List ℕ → List ℕ → ℕ → List ℕ → Given (Answered ℕ)
copying_of c acks frames x out =
    giving (copying_checks c acks x out) (length_for c x) (part frames (117 * slot_for c x) (length_for c x)) out
