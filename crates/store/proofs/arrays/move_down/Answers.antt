use native.Mathlib.Omega.{arith}
use Rattle.store.proofs.DownLaws.{moved-down}
use Rattle.store.proofs.arrays.move_down.Goals as goal

pub returns : goal.returns
returns c =
    let s = c.args in
    let copied = c.copy_within.ensures in
    moved-down s.d.now s.by _ c.min-gone.ensures _ _ _ copied.after copied.len (omega arith) (c.fill.ensures.after (λ y e. e))
