-- `count_fits` meets its contract.
use native.Mathlib.Omega.{arith}
use mathlib.Core.Path.{◌∙◌}
use borrow.Author.Tests.{lt-leb}
use Rattle.framewrite.proofs.Answers.{four, too_many, few-enough}
use Rattle.framewrite.proofs.field.count_fits.Goals as goal

pub nonzero_div-most : goal.nonzero_div-most
nonzero_div-most c = omega (arith, four _ c.row-row.ensures c.args.n)

pub returns-then-n-most : goal.returns-then-n-most
returns-then-n-most c = c.length_fits.ensures ∙ few-enough _ c.row-row.ensures _ c.if-n-most.true

pub returns-else-n-most : goal.returns-else-n-most
returns-else-n-most c = lt-leb _ _ c.if-n-most.false ∙ too_many _ c.row-row.ensures _ c.if-n-most.false
