-- `has_tag` meets its contract.
use mathlib.Core.Path.{sym, ap, ◌∙◌}
use Rattle.std.specs.Result.{result_ok}
use Rattle.frame.specs.Table.{is_of}
use Rattle.frame.proofs.Lines.{has-some, has-none}
use Rattle.frame.proofs.table.has_tag.Goals as goal

pub returns-in-Ok : goal.returns-in-Ok
returns-in-Ok c =
    c.is_of.ensures
    ∙ ap (λ r. is_of r c.in-Ok.kind) c.row_of.ensures
    ∙ has-some c.args.tag c.args.kind c.in-Ok.kind (ap result_ok (sym c.in-Ok.is ∙ c.try_from.ensures))

pub returns-in-Err : goal.returns-in-Err
returns-in-Err c = has-none c.args.tag c.args.kind (ap result_ok (sym c.in-Err.is ∙ c.try_from.ensures))
