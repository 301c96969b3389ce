-- What the looks at a unit show, as its numbers and arrays give it.
use Rattle.std.specs.Prelude.{not, cond, List, [], ◌∷◌, ℕ, ◌-◌, eqb, length, Ok, Err}
use Rattle.rules.specs.Maps.{between, at}
use Rattle.rules.specs.Calls.{Check, ◌⇒◌}
use Rattle.rules.specs.Looks.{Looked, showing}
use Rattle.lists.specs.Order.{is_of, only, waitings}
use Rattle.answers.specs.Answers.{Answered, refusal_of}
use Rattle.state.specs.declared.Core.{Core}
use Rattle.state.specs.Soundness.{own_low, sound_of, not_sound}
use Rattle.state.specs.View.{free_places}
use Rattle.handing.specs.declared.looks.Numbers.{Numbers}

-- what a look of the rules gives, as the code answers it
abbrev pub shown_as : {A : Type 0} → (ℕ → ℕ → A) → Looked → Answered A
shown_as f l = cond (eqb l.answer 0) (Ok (f l.first l.count)) (Err (refusal_of l.answer))

-- numbers in a row, or a count alone
abbrev pub row : ℕ → ℕ → Numbers
row first count = record { first = first; count = count }

abbrev pub count_alone : ℕ → ℕ → ℕ
count_alone first count = count

abbrev pub numbers_of : Looked → Answered Numbers
numbers_of = shown_as row

abbrev pub count_of : Looked → Answered ℕ
count_of = shown_as count_alone

module _ (c : Core) (acks : List ℕ) where
  abbrev pub whole_checks : List Check
  whole_checks = not_sound c acks

  abbrev pub unit_checks : ℕ → List Check
  unit_checks k = (not (sound_of c acks) ⇒ 1) ∷ (not (between 1 c.n k) ⇒ 5) ∷ []

  unfoldable pub to_take_in : Looked
  to_take_in = showing whole_checks 0 c.order.confirmed

  unfoldable pub free_places_in : Looked
  free_places_in = showing whole_checks 0 (free_places c)

  unfoldable pub kept_numbers_in : Looked
  kept_numbers_in = showing whole_checks (own_low c) (c.seq - own_low c)

  unfoldable pub missing_in : ℕ → Looked
  missing_in k = showing (unit_checks k) (at c.req k) (at c.heard k - at c.req k)

  unfoldable pub waiting_in : ℕ → Looked
  waiting_in k = showing (unit_checks k) 0 (length (only (is_of k) (waitings c.order)))
