use native.Mathlib.Omega.{arith}
use mathlib.Core.Path.{refl, ap, ◌∙◌}
use lib.ListN.{set}
use Rattle.frame.proofs.Numbers.{acks-more}
use Rattle.frame.specs.Acks.{eight}
use Rattle.frame.proofs.number.acks_at.Goals as goal

pub loop-i-init : goal.loop-i-init
unfolding eight
loop-i-init c = (omega arith, refl)

pub loop-i-preserved : goal.loop-i-preserved
loop-i-preserved c =
    let l = c.loop-i in
    let a = c.args in
    let x = c.number_at.result in
    (omega arith, ap (λ o. set o l.i x) l.invariant.1 ∙ acks-more a.s.now a.at l.i x (omega arith) c.number_at.ensures)
