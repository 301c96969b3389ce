use borrow.Author.Rules.{rules}
use native.Mathlib.Omega.{arith}
use mathlib.Core.Path.{◌≡◌, refl, ap}
use Prim.Native.Nat.{◌+◌, ◌-◌, ◌*◌, ◌%◌}
use Rattle.replay.proofs.RunLaws.{none-run, one-run, all-run}
use Rattle.replay.proofs.run.Goals as goal

pub loop-i-init : goal.loop-i-init
loop-i-init c = ((omega arith, (search rules, refl)), none-run _ _ _)

pub loop-i-preserved : goal.loop-i-preserved
loop-i-preserved c =
    let l = c.loop-i in
    let a = c.args in
    let long : 208 * l.i + 208 - 208 * l.i ≡ 208 = omega arith in
    let more =
    one-run a.units.now a.input.now a.out.now l.i l.units l.out l.invariant.1
    (c.get_or.result % 8) (ap (λ x. x % 8) c.get_or.ensures) (omega arith) _ _ _ (rw long at c.answered.ensures) in
    ((omega arith, (search rules, search rules)), more)

pub returns : goal.returns
returns c =
    let l = c.loop-i in
    let a = c.args in
    all-run a.units.now a.input.now a.out.now l.i a.records l.units l.out l.invariant.1 (omega arith)
