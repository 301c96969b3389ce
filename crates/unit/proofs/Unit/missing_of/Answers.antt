-- The missing numbers of k are shown.
use Rattle.handing.proofs.LooksMean.{missing-of-means}
use Rattle.unit.proofs.Means.{looks-shown}
use Rattle.unit.proofs.Unit.missing_of.Goals as goal

pub returns : goal.returns
returns c =
    let a = c.args in
    let u = a.self in
    looks-shown _ _ _ (missing-of-means u.core u.acks u.bytes u.frames a.k) _ c.missing_of.ensures
