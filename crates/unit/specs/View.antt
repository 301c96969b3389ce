-- The state of the rules that a unit shows, and the results of its calls in the words of the rules.
use Rattle.std.specs.Prelude.{List, [], ◌∷◌, ⊤, ℕ, replicate, Option, Some, None, Ok, Err}
use Rattle.rules.specs.State.{State}
use Rattle.rules.specs.Calls.{Result}
use Rattle.rules.specs.Calls as rules
use Rattle.answers.specs.Answers.{Answered, answer_of}
use Rattle.state.specs.View.{look}
use Rattle.steps.specs.declared.Resend.{Resend}
use Rattle.unit.specs.declared.Unit.{Unit}
use Rattle.unit.specs.declared.Sent.{Sent}
use Rattle.handing.specs.declared.Taken.{Taken}

abbrev pub view : Unit → State
view u = look u.core u.acks u.bytes u.frames

abbrev pub opened_means : Unit × Answered ⊤ → rules.Opened
opened_means r = record { answer = answer_of r.1; unit = view r.0 }

-- what a call gives: its answer, the numbers handed back, the next unit, and the whole lent output
pub record Outcome : Type 0 where
  pub answer : ℕ
  pub numbers : List ℕ
  pub next : Unit
  pub output : List ℕ

-- in the rules
abbrev pub meant : Outcome → Result
meant x = record { answer = x.answer; numbers = x.numbers; next = view x.next; output = x.output }

-- the numbers of what was done; with a refusal, m times 0
abbrev pub numbers_or : {A : Type 0} → ℕ → (A → List ℕ) → Answered A → List ℕ
numbers_or m numbers (Ok x) = numbers x
numbers_or m numbers (Err r) = replicate m 0

abbrev pub outcome : {A : Type 0} → ℕ → (A → List ℕ) → Unit × Answered A → List ℕ → Outcome
outcome m numbers r out = record { answer = answer_of r.1; numbers = numbers_or m numbers r.1; next = r.0; output = out }

-- of each call, with the lent output after it; an arrival has none
abbrev pub of_sent : Unit × Answered Sent → List ℕ → Outcome
of_sent = outcome 2 (λ s. s.seq ∷ s.len ∷ [])

-- a message that is accepted asks for no number
abbrev pub resent : Option Resend → List ℕ
resent None = 0 ∷ 0 ∷ []
resent (Some r) = r.first ∷ r.last ∷ []

abbrev pub of_arrived : Unit × Answered (Option Resend) → Outcome
of_arrived r = outcome 2 resent r []

-- a request and a copy leave the unit u as it was
abbrev pub of_handed : Unit → Answered ℕ → List ℕ → Outcome
of_handed u r = outcome 1 (λ m. m ∷ []) (u, r)

abbrev pub of_taken : Unit × Answered Taken → List ℕ → Outcome
of_taken = outcome 3 (λ t. t.src ∷ t.seq ∷ t.len ∷ [])
