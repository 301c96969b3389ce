-- Lists of checks: a refusal answers with one of their numbers, and so above what they all are above.
use mathlib.Core.Bool.{Bool, true, false, ◌||◌}
use mathlib.Core.List.{List, map}
use mathlib.Core.Path.{◌≡◌, refl, sym, subst}
use Prim.Native.Nat.{ℕ, ◌<◌}
use lib.Dec.{eqb, ltb}
use borrow.Author.Tests.{ltb-true, eq-eqb}
use Rattle.rules.specs.Maps.{all, among}
use Rattle.rules.specs.Calls.{Check}
use Rattle.rules.proofs.MapsLaws.{and_left, and_right}
use Rattle.rules.proofs.CallsLaws.{Refused, now, later}

-- the numbers that the checks answer with, in their order
abbrev pub answers_of : List Check → List ℕ
answers_of l = map (λ (c : Check). c.answer) l

pub refused-among : {a : ℕ} {l : List Check} → Refused a l → among a (answers_of l) ≡ true
refused-among {a} (now {c} {l} h e) = rw (eq-eqb a c.answer (sym e))
refused-among {a} (later {c} {l} h r) = go (eqb a c.answer) (refused-among r)
  where
    go : (t : Bool) → among a (answers_of l) ≡ true → t || among a (answers_of l) ≡ true
    go true ih = refl
    go false ih = ih

pub refused-above : (b : ℕ) {a : ℕ} {l : List Check} → Refused a l → all (λ x. ltb b x) (answers_of l) ≡ true → b < a
refused-above b {a} (now {c} {l} h e) p =
    subst (λ x. b < x) e (ltb-true b c.answer (and_left (ltb b c.answer) (all (λ x. ltb b x) (answers_of l)) p))
refused-above b {a} (later {c} {l} h r) p = refused-above b r (and_right (ltb b c.answer) (all (λ x. ltb b x) (answers_of l)) p)
