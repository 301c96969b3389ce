-- The writer's checks are those that are left.
use mathlib.Core.Path.{sym, ◌∙◌}
use native.Mathlib.Omega.{arith}
use Rattle.state.proofs.CheckedLaws.{checked-sound}
use Rattle.handing.proofs.AskingLaws.{asking-written}
use Rattle.handing.proofs.asking.Goals as goal

pub returns : goal.returns
returns c =
    asking-written _ _ _ _ (checked-sound _ _ _ c.checked.ensures _ c.in_ok-checked.was) (sym c.is_unit.ensures ∙ c.if-not-is_unit.false) c.if-k-c.false (omega arith) _ c.at-heard.ensures _ _ c.write_request.ensures
