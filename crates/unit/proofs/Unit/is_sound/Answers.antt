-- The test of the rules is that of the numbers.
use Rattle.unit.proofs.Means.{tests-sound}
use Rattle.unit.proofs.Unit.is_sound.Goals as goal

pub returns : goal.returns
returns c = tests-sound c.args.self _ c.sound.ensures
