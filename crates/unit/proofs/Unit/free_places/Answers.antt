-- The free places are counted.
use Rattle.handing.proofs.LooksMean.{free-places-means}
use Rattle.unit.proofs.Means.{looks-shown}
use Rattle.unit.proofs.Unit.free_places.Goals as goal

pub returns : goal.returns
returns c =
    let a = c.args in
    let u = a.self in
    looks-shown _ _ _ (free-places-means u.core u.acks u.bytes u.frames) _ c.free_places.ensures
