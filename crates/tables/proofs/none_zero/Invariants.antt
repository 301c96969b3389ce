-- After k turns, whether one of the others is 0 decides.
use mathlib.Core.Bool.{Bool}
use mathlib.Core.List.{List}
use mathlib.Core.Path.{◌≡◌}
use Prim.Native.Nat.{ℕ, ◌+◌, ◌-◌}
use lib.Dec.{ltb}
use Rattle.rules.specs.Maps.{at, every}
use Rattle.tables.specs.Rows.{none_zero}
use Rattle.tables.proofs.none_zero.Given as goal

abbrev pub positive : List ℕ → ℕ → Bool
positive a k = ltb 0 (at a k)

abbrev pub invariant-loop-k : goal.invariant-loop-k
invariant-loop-k l = every (l.k + 1) (l.n - l.k) (positive l.a) ≡ none_zero l.n (at l.a)
