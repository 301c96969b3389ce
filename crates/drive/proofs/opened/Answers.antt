use native.Mathlib.Omega.{arith}
use mathlib.Core.Path.{◌≡◌, ap, ◌∙◌}
use Prim.Native.Nat.{suc, ◌+◌}
use lib.ListN.{replicate}
use Rattle.unit.specs.declared.Unit.{Unit}
use Rattle.drive.specs.Run.{opened_units}
use Rattle.drive.proofs.opened.Goals as goal

pub loop-k-init : goal.loop-k-init
loop-k-init c = (omega arith, ap (λ (u : Unit). replicate 8 u) c.opened_unit-units.ensures)

pub loop-k-preserved : goal.loop-k-preserved
loop-k-preserved c =
    let a = c.args in
    let one_more : suc c.loop-k.k ≡ c.loop-k.k + 1 = omega arith in
    (omega arith, rw (c.loop-k.invariant.1, c.opened_unit.ensures) (ap (opened_units a.n a.w) one_more))

pub returns : goal.returns
returns c =
    let a = c.args in
    let all : c.loop-k.k ≡ 8 = omega arith in
    c.loop-k.invariant.1 ∙ ap (opened_units a.n a.w) all
