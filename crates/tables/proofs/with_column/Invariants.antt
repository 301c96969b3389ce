-- After q turns the first q cells are done, and the others as they were.
use mathlib.Core.Bool.{cond}
use mathlib.Core.List.{List}
use mathlib.Core.Path.{◌≡◌}
use Prim.Native.Nat.{ℕ, ◌+◌, ◌/◌, ◌%◌}
use lib.Dec.{eqb}
use lib.ListN.{get_or}
use Rattle.tables.proofs.FillLaws.{filled}
use Rattle.tables.proofs.with_column.Given as goal

abbrev pub cell : List ℕ → ℕ → List ℕ → ℕ → ℕ
cell t j v q = cond (eqb (q % 8 + 1) j) (get_or v (q / 8) 0) (get_or t q 0)

abbrev pub invariant-loop-q : goal.invariant-loop-q
invariant-loop-q l = l.b ≡ filled l.initial.b (cell l.initial.b l.j l.v) l.q
