-- The confirmed messages are counted.
use Rattle.handing.proofs.LooksMean.{to-take-means}
use Rattle.unit.proofs.Means.{looks-shown}
use Rattle.unit.proofs.Unit.to_take.Goals as goal

pub returns : goal.returns
returns c =
    let a = c.args in
    let u = a.self in
    looks-shown _ _ _ (to-take-means u.core u.acks u.bytes u.frames) _ c.to_take.ensures
