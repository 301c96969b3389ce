-- What passes is sound, so its ranges fit.
use Rattle.state.proofs.CheckedLaws.{checked-sound}
use Rattle.steps.proofs.RangeLaws.{sound-ranged}
use Rattle.steps.proofs.send.Goals as goal

pub invariant_of-checked : goal.invariant_of-checked
invariant_of-checked c = record { ranges = sound-ranged c.args.c _ (checked-sound _ _ _ c.checked.ensures _ c.in_ok-checked.was) }
