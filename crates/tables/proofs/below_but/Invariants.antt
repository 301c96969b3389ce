-- After k turns, whether the others are at most their limits decides.
use mathlib.Core.Path.{◌≡◌}
use mathlib.Core.Bool.{Bool, true, cond}
use mathlib.Core.List.{List}
use Prim.Native.Nat.{ℕ, ◌+◌, ◌-◌}
use lib.Dec.{eqb, leb}
use Rattle.rules.specs.Maps.{at, every}
use Rattle.tables.specs.Rows.{below_but}
use Rattle.tables.proofs.below_but.Given as goal

abbrev pub kept : ℕ → List ℕ → List ℕ → ℕ → Bool
kept j a limits i = cond (eqb i j) true (leb (at a i) (at limits i))

abbrev pub invariant-loop-k : goal.invariant-loop-k
invariant-loop-k l = every (l.k + 1) (l.n - l.k) (kept l.j l.a l.limits) ≡ below_but l.n l.j (at l.a) (at l.limits)
