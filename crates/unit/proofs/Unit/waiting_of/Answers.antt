-- The waiting messages of k are counted.
use Rattle.handing.proofs.LooksMean.{waiting-of-means}
use Rattle.unit.proofs.Means.{looks-shown}
use Rattle.unit.proofs.Shape.{shaped}
use Rattle.unit.proofs.Unit.waiting_of.Goals as goal

pub returns : goal.returns
returns c =
    let a = c.args in
    let u = a.self in
    looks-shown _ _ _ (waiting-of-means u.core u.acks u.bytes u.frames a.k (shaped u _ c.well_formed.0.1.1).sized.list) _ c.waiting_of.ensures
