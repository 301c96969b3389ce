use mathlib.Core.Path.{sym, ◌∙◌}
use Rattle.steps.proofs.PassedLaws.{from-unit}
use Rattle.steps.proofs.data.arrived.Goals as goal

pub invariant_of-arrived : goal.invariant_of-arrived
invariant_of-arrived c = record {
  sender = from-unit c.args.at.core c.args.f.head (sym c.of_group.ensures ∙ c.if-not-of_group.false);
  short = c.requires;
}
