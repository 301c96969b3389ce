-- `length_fits` meets its contract.
use native.Mathlib.Omega.{arith}
use mathlib.Core.Path.{◌∙◌}
use borrow.Author.Tests.{lt-leb}
use Rattle.frame.proofs.Lines.{width_positive, too_short, too_long, within}
use Rattle.frame.proofs.table.length_fits.Goals as goal
use Rattle.frame.proofs.table.length_fits.Goals.{then-least-n, else-least-n}

pub nonzero_rem-result : goal.nonzero_rem-result
nonzero_rem-result c =
    let a = c.args in
    omega (arith, width_positive a.tag a.n _ c.row_of-row.ensures)

pub returns-then-n-greatest : goal.returns-then-n-greatest
returns-then-n-greatest c = within _ _ _ c.row_of-row.ensures c.if-n-greatest.true.0 c.if-n-greatest.true.1

pub returns-else-n-greatest : goal.returns-else-n-greatest
returns-else-n-greatest c =
    elim c.if-least-n.branch [
      | then-least-n w ↦ w.t-7-is ∙ lt-leb _ _ (omega arith) ∙ too_long _ _ _ c.row_of-row.ensures (omega arith)
      | else-least-n w ↦ w.t-7-is ∙ lt-leb _ _ w.if-least-n.false ∙ too_short _ _ _ c.row_of-row.ensures w.if-least-n.false
    ]
