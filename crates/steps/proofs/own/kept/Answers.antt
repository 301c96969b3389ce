use native.Mathlib.Omega.{arith}
use Rattle.state.specs.View.{free_places}
use Rattle.steps.proofs.RangeLaws.{places-few}
use Rattle.steps.proofs.own.kept.Goals as goal

pub overflow_cast-result : goal.overflow_cast-result
unfolding free_places
overflow_cast-result c = omega (arith, places-few c.args.r.core c.args.r.ranges, c.free_places-buf.ensures)
