-- After k turns the first k numbers are done, and the others as they were.
use mathlib.Core.Bool.{cond}
use mathlib.Core.List.{List}
use mathlib.Core.Path.{◌≡◌}
use Prim.Native.Nat.{ℕ, max}
use lib.Dec.{ltb}
use lib.ListN.{get_or}
use Rattle.tables.proofs.FillLaws.{filled}
use Rattle.tables.proofs.raised_to.Given as goal

abbrev pub cell : ℕ → List ℕ → List ℕ → ℕ → ℕ
cell n a b k = cond (ltb k n) (max (get_or a k 0) (get_or b k 0)) (get_or a k 0)

abbrev pub invariant-loop-k : goal.invariant-loop-k
invariant-loop-k l = l.c ≡ filled l.initial.c (cell l.n l.initial.c l.b) l.k
