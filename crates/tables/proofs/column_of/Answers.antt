use mathlib.Core.List.{List}
use mathlib.Core.Path.{ap, ◌∙◌}
use Prim.Native.Nat.{ℕ}
use native.Mathlib.Omega.{arith}
use Rattle.rules.specs.Maps.{at}
use Rattle.tables.proofs.FillLaws.{filled-set}
use Rattle.tables.proofs.column_of.Invariants.{cell}
use Rattle.tables.proofs.column_of.Goals as goal

pub loop-k-preserved : goal.loop-k-preserved
loop-k-preserved c =
    let s = c.args in
    filled-set _ (cell s.t.now s.j) c.loop-k.k _ (omega arith) (c.at.ensures ∙ ap (λ (l : List ℕ). at l s.j) c.tail.ensures) c.loop-k.invariant
