use mathlib.Core.Path.{sym, ◌∙◌}
use Rattle.script.proofs.ItemsLaws.{counted_start, counted_stop, counted-more, counted-end}
use Rattle.script.proofs.item.digits.Goals as goal

pub loop-b-init : goal.loop-b-init
loop-b-init c = counted_start _

pub returns-in_err-digit : goal.returns-in_err-digit
returns-in_err-digit c = c.from_residual.ensures ∙ counted_stop _ _ _ c.loop-b-test.true (sym c.in_err-digit.was ∙ c.digit.ensures) c.loop-b.invariant

pub loop-b-preserved : goal.loop-b-preserved
loop-b-preserved c = counted-more _ _ _ c.loop-b-test.true (sym c.in_ok-digit.was ∙ c.digit.ensures) c.extended-v.ensures c.loop-b.invariant

pub returns : goal.returns
returns c = counted-end _ _ _ c.loop-b-test.false c.loop-b.invariant
