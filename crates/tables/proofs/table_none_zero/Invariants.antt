-- After k turns, whether one of the other rows has a 0 decides.
use mathlib.Core.Path.{◌≡◌}
use mathlib.Core.Bool.{Bool}
use mathlib.Core.List.{List}
use Prim.Native.Nat.{ℕ, ◌+◌, ◌-◌}
use Rattle.rules.specs.Maps.{at, every}
use Rattle.tables.specs.Rows.{row_of, none_zero}
use Rattle.tables.proofs.table_none_zero.Given as goal

abbrev pub full : ℕ → List ℕ → ℕ → Bool
full n t k = none_zero n (at (row_of t k))

abbrev pub invariant-loop-k : goal.invariant-loop-k
invariant-loop-k l = every (l.k + 1) (l.n - l.k) (full l.n l.t) ≡ every 1 l.n (full l.n l.t)
