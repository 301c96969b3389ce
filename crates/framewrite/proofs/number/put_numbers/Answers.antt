use Rattle.framewrite.proofs.Digits.{none-listed, room-for-one, one-listed}
use Rattle.rules.proofs.BytesLaws.{each_at}
use Rattle.framewrite.proofs.number.put_numbers.Goals as goal

pub loop-x-init : goal.loop-x-init
loop-x-init c = none-listed _ _ _ _ c.requires.2

pub put_number-requires : goal.put_number-requires
put_number-requires c =
    let t = c.loop-x-test.true in
    (c.requires.0, each_at c.requires.1 c.loop-x.x-index t, room-for-one _ _ _ _ _ _ _ c.loop-x.invariant t)

pub loop-x-preserved : goal.loop-x-preserved
loop-x-preserved c = one-listed _ _ _ _ _ _ _ c.loop-x.invariant c.loop-x-test.true _ c.put_number.ensures c.put_number.auto.d
