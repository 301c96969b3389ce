-- The looks at a unit, which change nothing: the checks of each, its answer, and first number and count of what it shows.
use Rattle.std.specs.Prelude.{not, List, [], ◌∷◌, ℕ, ◌-◌, length}
use Rattle.rules.specs.State.{State, min_al, from, free}
use Rattle.rules.specs.Steps.{missing_from, missing_to}
use Rattle.rules.specs.Sound.{sound}
use Rattle.rules.specs.Calls.{Check, ◌⇒◌, decide, is_unit}

-- what a look gives; where it shows no range of numbers, the first is 0
pub record Looked : Type 0 where
  pub answer : ℕ
  pub first : ℕ
  pub count : ℕ

-- a refusal shows nothing
abbrev pub showing : List Check → ℕ → ℕ → Looked
showing checks first count =
    decide checks (λ a. record { answer = a; first = 0; count = 0 })
    (record { answer = 0; first = first; count = count })

-- at the whole unit, and at what it holds of unit k
abbrev pub whole_checks : State → List Check
whole_checks s = (not (sound s) ⇒ 1) ∷ []

abbrev pub unit_checks : State → ℕ → List Check
unit_checks s k = (not (sound s) ⇒ 1) ∷ (not (is_unit s k) ⇒ 5) ∷ []

-- how many messages are confirmed and not yet taken
unfoldable pub to_take : State → Looked
to_take s = showing (whole_checks s) 0 (length s.confirmed)

-- how many places are free
unfoldable pub free_places : State → Looked
free_places s = showing (whole_checks s) 0 (free s)

-- the kept numbers
unfoldable pub kept_numbers : State → Looked
kept_numbers s = showing (whole_checks s) (min_al s s.me) (s.seq - min_al s s.me)

-- the missing numbers of k, the first being REQ_k also where none is missing
unfoldable pub missing_of : State → ℕ → Looked
missing_of s k = showing (unit_checks s k) (missing_from s k) (missing_to s k - missing_from s k)

-- how many of k's messages wait
unfoldable pub waiting_of : State → ℕ → Looked
waiting_of s k = showing (unit_checks s k) 0 (length (from k s.waiting))
