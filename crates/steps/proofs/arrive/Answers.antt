-- The unit is sound and the frame lawful, so its data are short.
use mathlib.Core.Path.{sym, ap, ◌∙◌}
use Rattle.std.specs.Prelude.{Some}
use Rattle.steps.proofs.RangeLaws.{sound-ranged}
use Rattle.steps.proofs.PassedLaws.{frame-short}
use Rattle.steps.proofs.arrive.Goals as goal

pub invariant_of-arrived : goal.invariant_of-arrived
invariant_of-arrived c = record { ranges = sound-ranged c.args.c _ (sym c.sound.ensures ∙ c.if-not-sound.false) }

pub arrived-requires : goal.arrived-requires
arrived-requires c = frame-short _ _ (ap (λ f. Some f) (sym c.in-Some-Data.field-0-is) ∙ sym c.in-Some-Data.is ∙ c.read.ensures)
