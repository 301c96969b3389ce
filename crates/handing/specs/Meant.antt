-- What is handed out, as a result of the rules' calls.
use Rattle.std.specs.Prelude.{List, [], ◌∷◌, ℕ, Ok, Err}
use Rattle.rules.specs.State.{State}
use Rattle.rules.specs.Calls.{Result, refusal}
use Rattle.answers.specs.Answers.{Answered, number_of}
use Rattle.state.specs.declared.Core.{Core}
use Rattle.state.specs.View.{look}
use Rattle.handing.specs.declared.Taken.{Taken}
use Rattle.handing.specs.Handing.{Given}

-- the next unit has the arrays that it had, and shows s
abbrev pub taken_as : State → List ℕ → Answered Taken → Result
taken_as s out (Err r) = refusal 3 s out (number_of r)
taken_as s out (Ok t) = record { answer = 0; numbers = t.src ∷ t.seq ∷ t.len ∷ []; next = s; output = out }

abbrev pub taken_means : List ℕ → List ℕ → List ℕ → Given (Core × Answered Taken) → Result
taken_means acks bytes frames g = taken_as (look g.result.0 acks bytes frames) g.output g.result.1

-- the unit stays as it was
module _ (s : State) where
  abbrev pub handed_as : List ℕ → Answered ℕ → Result
  handed_as out (Err r) = refusal 1 s out (number_of r)
  handed_as out (Ok m) = record { answer = 0; numbers = m ∷ []; next = s; output = out }

  abbrev pub handed_means : Given (Answered ℕ) → Result
  handed_means g = handed_as g.output g.result
