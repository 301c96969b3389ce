-- What a call gives, by the exact results of each call on a unit: its answer, its numbers, the next unit, and the lent output.
use Rattle.std.specs.Prelude.{cond, List, [], ◌∷◌, ⊤, ℕ, eqb, Option, Some, None, Ok, Err}
use Rattle.answers.specs.Answers.{Answered}
use Rattle.state.specs.declared.Opening.{Opening}
use Rattle.state.specs.Soundness.{sound_of}
use Rattle.steps.specs.declared.Resend.{Resend}
use Rattle.handing.specs.declared.looks.Numbers.{Numbers}
use Rattle.handing.specs.Handing.{Given, asking_of, copying_of}
use Rattle.handing.specs.Looks.{numbers_of, count_of, to_take_in, free_places_in, kept_numbers_in, missing_in, waiting_in}
use Rattle.unit.specs.declared.Unit.{Unit}
use Rattle.unit.specs.declared.Sent.{Sent}
use Rattle.handing.specs.declared.Taken.{Taken}
use Rattle.unit.specs.Exact.{opened_of, sent_of, arrived_of, taken_of}
use Rattle.replay.specs.Record.{byte_at, number_at, call_of, x_of, k_of, text_of}
use Rattle.replay.specs.Changes.{changed_of}

-- three numbers (those that it lacks are 0) or why it refuses, and the next unit
pub record Made : Type 0 where
  pub given : Answered (ℕ × ℕ × ℕ)
  pub unit : Unit

abbrev pub made : Answered (ℕ × ℕ × ℕ) → Unit → Made
made given u = record { given = given; unit = u }

abbrev pub gives : ℕ → ℕ → ℕ → Unit → Made
gives a b c = made (Ok (a, b, c))

-- what a call that may refuse gives: the numbers of what is done
abbrev pub three_of : {A : Type 0} → (A → ℕ × ℕ × ℕ) → Answered A → Answered (ℕ × ℕ × ℕ)
three_of numbers (Ok x) = Ok (numbers x)
three_of numbers (Err r) = Err r

abbrev pub given_by : {A : Type 0} → (A → ℕ × ℕ × ℕ) → Unit → Answered A → Made
given_by numbers u x = made (three_of numbers x) u

-- ---- each call

abbrev pub opening_of : List ℕ → Opening
opening_of l =
    record {
      me = byte_at l 8;
      n = byte_at l 9;
      w = byte_at l 10;
      cid = x_of l;
      first =
          number_at l 11
          ∷ number_at l 15
          ∷ number_at l 19
          ∷ number_at l 23
          ∷ number_at l 27
          ∷ number_at l 31
          ∷ number_at l 35
          ∷ number_at l 39
          ∷ [];
    }

abbrev pub after_opening : Unit × Answered ⊤ → Made
after_opening r = given_by (λ x. (0, 0, 0)) r.0 r.1

unfoldable pub open_made : List ℕ → Made
open_made l = after_opening (opened_of (opening_of l))

abbrev pub after_send : Unit × Answered Sent → Made
after_send r = given_by (λ s. (s.seq, s.len, 0)) r.0 r.1

unfoldable pub send_made : Unit → List ℕ → List ℕ → Given Made
send_made u d out = record { result = after_send (sent_of u d out).result; output = (sent_of u d out).output }

-- a message that is accepted asks for no number
abbrev pub resent : Option Resend → ℕ × ℕ × ℕ
resent None = (0, 0, 0)
resent (Some r) = (r.first, r.last, 0)

abbrev pub after_arrival : Unit × Answered (Option Resend) → Made
after_arrival r = given_by resent r.0 r.1

unfoldable pub arrive_made : Unit → List ℕ → Made
arrive_made u l = after_arrival (arrived_of u l)

-- a request and a copy leave the unit as it was
abbrev pub of_length : ℕ → ℕ × ℕ × ℕ
of_length len = (len, 0, 0)

abbrev pub handed_made : Unit → Answered ℕ → Made
handed_made = given_by of_length

abbrev pub after_handing : Unit → Given (Answered ℕ) → Given Made
after_handing u g = record { result = handed_made u g.result; output = g.output }

unfoldable pub ask_made : Unit → ℕ → List ℕ → Given Made
ask_made u k out = after_handing u (asking_of u.core u.acks k out)

unfoldable pub copy_made : Unit → ℕ → List ℕ → Given Made
copy_made u x out = after_handing u (copying_of u.core u.acks u.frames x out)

abbrev pub after_take : Unit × Answered Taken → Made
after_take r = given_by (λ t. (t.src, t.seq, t.len)) r.0 r.1

unfoldable pub take_made : Unit → List ℕ → Given Made
take_made u out = record { result = after_take (taken_of u out).result; output = (taken_of u out).output }

-- looks leave the unit as it was too: they show a count alone, or numbers in a row
abbrev pub of_count : ℕ → ℕ × ℕ × ℕ
of_count count = (0, count, 0)

abbrev pub count_made : Unit → Answered ℕ → Made
count_made = given_by of_count

abbrev pub of_row : Numbers → ℕ × ℕ × ℕ
of_row row = (row.first, row.count, 0)

abbrev pub look_made : Unit → Answered Numbers → Made
look_made = given_by of_row

-- calls 6 to 11, and nothing with any other
unfoldable pub seen_made : Unit → ℕ → ℕ → Made
seen_made u call k =
    cond (eqb call 6) (count_made u (count_of (to_take_in u.core u.acks)))
    (cond (eqb call 7) (count_made u (count_of (free_places_in u.core u.acks)))
    (cond (eqb call 8) (look_made u (numbers_of (kept_numbers_in u.core u.acks)))
    (cond (eqb call 9) (look_made u (numbers_of (missing_in u.core u.acks k)))
    (cond (eqb call 10) (count_made u (count_of (waiting_in u.core u.acks k)))
    (cond (eqb call 11) (gives (cond (sound_of u.core u.acks) 1 0) 0 0 u) (gives 0 0 0 u))))))

-- ---- the call of a record

abbrev pub set_made : Unit → List ℕ → Made
set_made u l = gives 0 0 0 (changed_of u (byte_at l 8) (byte_at l 9) (byte_at l 10) (x_of l))

-- the call writes nothing
abbrev pub writes_none : List ℕ → Made → Given Made
writes_none out m = record { result = m; output = out }

unfoldable pub made_of : Unit → List ℕ → List ℕ → Given Made
made_of u l out =
    cond (eqb (call_of l) 0) (writes_none out (open_made l))
    (cond (eqb (call_of l) 1) (send_made u (text_of l) out)
    (cond (eqb (call_of l) 2) (writes_none out (arrive_made u (text_of l)))
    (cond (eqb (call_of l) 3) (ask_made u (k_of l) out)
    (cond (eqb (call_of l) 4) (copy_made u (x_of l) out)
    (cond (eqb (call_of l) 5) (take_made u out)
    (cond (eqb (call_of l) 12) (writes_none out (set_made u l)) (writes_none out (seen_made u (call_of l) (k_of l)))))))))
