-- The kept numbers are shown.
use Rattle.handing.proofs.LooksMean.{kept-numbers-means}
use Rattle.unit.proofs.Means.{looks-shown}
use Rattle.unit.proofs.Unit.kept_numbers.Goals as goal

pub returns : goal.returns
returns c =
    let a = c.args in
    let u = a.self in
    looks-shown _ _ _ (kept-numbers-means u.core u.acks u.bytes u.frames) _ c.kept_numbers.ensures
