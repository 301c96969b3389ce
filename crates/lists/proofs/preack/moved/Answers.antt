use native.Mathlib.Omega.{arith}
use Rattle.lists.proofs.CarryLaws.{rotated-comes_to}
use Rattle.lists.proofs.preack.moved.Goals as goal

pub returns : goal.returns
returns c =
    let s = c.args in
    rotated-comes_to s.list s.a s.b (omega arith) (omega arith) _ _ (omega arith) c.rotate_right.ensures.after
