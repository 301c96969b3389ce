-- The numbers of `handing` come into the unit, and its arrays stay.
use mathlib.Core.Path.{ap}
use Rattle.unit.specs.Exact.{taken_from, taken_of}
use Rattle.unit.proofs.Means.{takes-message}
use Rattle.unit.proofs.Shape.{shaped}
use Rattle.unit.proofs.Unit.take.Goals as goal

pub returns : goal.returns
unfolding taken_of
returns c =
    let u = c.args.self in
    let given = c.taking-taken.ensures in
    takes-message u (shaped u _ c.well_formed.0.1.1).sized.list c.args.out.now _ _ (ap (taken_from u) given.result) given.output
