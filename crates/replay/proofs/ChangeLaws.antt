-- A number that names nothing leaves the unit as it was.
use mathlib.Core.Path.{◌≡◌}
use Prim.Native.Nat.{ℕ, ◌<◌}
use native.Mathlib.Omega.{arith}
use borrow.Author.Tests.{ne_eqb}
use Rattle.unit.specs.declared.Unit.{Unit}
use Rattle.replay.specs.Changes.{changed_of}

-- a number past the last sets nothing
pub changed_none : (u : Unit) (what k j x : ℕ) → 13 < what → u ≡ changed_of u what k j x
unfolding changed_of
changed_none u what k j x h =
    rw (
      ne_eqb what 0 (λ e. omega arith),
      ne_eqb what 1 (λ e. omega arith),
      ne_eqb what 2 (λ e. omega arith),
      ne_eqb what 3 (λ e. omega arith),
      ne_eqb what 4 (λ e. omega arith),
      ne_eqb what 5 (λ e. omega arith),
      ne_eqb what 6 (λ e. omega arith),
      ne_eqb what 7 (λ e. omega arith),
      ne_eqb what 8 (λ e. omega arith),
      ne_eqb what 9 (λ e. omega arith),
      ne_eqb what 10 (λ e. omega arith),
      ne_eqb what 11 (λ e. omega arith),
      ne_eqb what 12 (λ e. omega arith),
      ne_eqb what 13 (λ e. omega arith),
    )
