-- Any two results that the contract of a public function allows are equal.
use Rattle.std.specs.Prelude.{⊤}
use mathlib.Core.Bool.{Bool}
use mathlib.Core.List.{List}
use mathlib.Core.Path.{◌≡◌, sym, ◌∙◌}
use Prim.Native.Nat.{ℕ}
use Rattle.rules.specs.Maps.{between}
use Rattle.state.specs.declared.Core.{Core}
use Rattle.answers.specs.Answers.{Answered, judged}
use Rattle.state.specs.declared.Opening.{Opening}
use Rattle.state.specs.Opening.{opened_of}
use Rattle.state.specs.Soundness.{low_in, sound_of, not_sound}
use Rattle.state.specs.View.{free_places}

-- the answer, and every number of the unit
pub opened-with-determined : (o : Opening) (r q : Core × Answered ⊤) → r ≡ opened_of o → q ≡ opened_of o → r ≡ q
opened-with-determined o r q a b = a ∙ sym b

pub own-low-determined : (al : List ℕ) (me n r q : ℕ) → r ≡ low_in al me n → q ≡ low_in al me n → r ≡ q
own-low-determined al me n r q a b = a ∙ sym b

pub is-unit-determined : (n k : ℕ) (r q : Bool) → r ≡ between 1 n k → q ≡ between 1 n k → r ≡ q
is-unit-determined n k r q a b = a ∙ sym b

pub free-places-determined : (c : Core) (r q : ℕ) → r ≡ free_places c → q ≡ free_places c → r ≡ q
free-places-determined c r q a b = a ∙ sym b

pub sound-determined : (c : Core) (acks : List ℕ) (r q : Bool) → r ≡ sound_of c acks → q ≡ sound_of c acks → r ≡ q
sound-determined c acks r q a b = a ∙ sym b

pub checked-determined : (c : Core) (acks : List ℕ) (r q : Answered ⊤) → r ≡ judged (not_sound c acks) tt → q ≡ judged (not_sound c acks) tt → r ≡ q
checked-determined c acks r q a b = a ∙ sym b
