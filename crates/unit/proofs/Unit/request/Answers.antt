-- The request is the one that `handing` makes.
use Rattle.unit.proofs.Means.{asks-missing}
use Rattle.unit.proofs.Shape.{shaped}
use Rattle.unit.proofs.Unit.request.Goals as goal

pub returns : goal.returns
returns c =
    let u = c.args.self in
    let given = c.asking.ensures in
    asks-missing u (shaped u _ c.well_formed.0.1.1).sized.req _ _ _ _ given.result given.output
