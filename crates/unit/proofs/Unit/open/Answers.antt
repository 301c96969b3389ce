-- The arrays are new, and the numbers those of `state`.
use mathlib.Core.Path.{ap}
use Rattle.unit.specs.Exact.{opened_from, opened_of}
use Rattle.unit.proofs.Means.{opens-unit}
use Rattle.unit.proofs.Unit.open.Goals as goal

pub returns : goal.returns
unfolding opened_of
returns c = opens-unit c.args.o _ (ap opened_from c.opened_with-opened.ensures)
