-- `row_of` meets its contract: the code's table is the rules' table.
use native.Mathlib.Omega.{arith}
use mathlib.Core.Path.{ap, ◌∙◌}
use Rattle.std.specs.Option.{unwrap_or}
use Rattle.rules.specs.Fields.{no_row, table, row_of}
use Rattle.frame.specs.Table.{line_of}
use Rattle.frame.proofs.Lines.{row-got}
use Rattle.frame.proofs.table.row_of.Goals as goal

pub returns-then-tag-eq0 : goal.returns-then-tag-eq0
unfolding row_of
returns-then-tag-eq0 c = rw c.if-tag-eq0.true

pub returns : goal.returns
unfolding table
returns c =
    c.unwrap_or.ensures
    ∙ ap (λ o. unwrap_or o (line_of no_row)) c.copied.ensures
    ∙ c.get.ensures.lookup.4 (omega arith) (line_of no_row)
    ∙ row-got c.args.tag (omega arith)
