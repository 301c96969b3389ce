-- After k turns the first k entries are cells of the column.
use mathlib.Core.List.{List}
use mathlib.Core.Path.{◌≡◌}
use Prim.Native.Nat.{ℕ, ◌*◌}
use lib.ListN.{drop}
use Rattle.rules.specs.Maps.{at}
use Rattle.tables.proofs.FillLaws.{filled}
use Rattle.tables.proofs.column_of.Given as goal

abbrev pub cell : List ℕ → ℕ → ℕ → ℕ
cell t j k = at (drop (8 * k) t) j

abbrev pub invariant-loop-k : goal.invariant-loop-k
invariant-loop-k l = l.a ≡ filled l.initial.a (cell l.t l.j) l.k
