use borrow.Author.Rules.{rules}
use native.Mathlib.Nat.{mul-le-mul_left}
use native.Mathlib.Omega.{arith}
use mathlib.Core.Path.{◌≡◌, refl, ap, ◌∙◌}
use Prim.Native.Nat.{◌*◌}
use lib.ListN.{length}
use Rattle.drive.specs.Run.{Group, run_of}
use Rattle.drive.proofs.Visits.{group-opened, visit-more}
use Rattle.drive.proofs.run.Goals as goal

pub overflow_mul-visits : goal.overflow_mul-visits
overflow_mul-visits c = record { fits = omega (arith, mul-le-mul_left c.args.messages c.requires.1) }

pub loop-i-init : goal.loop-i-init
loop-i-init c =
    let e = c.opened-units.ensures in
    ((omega arith, (ap length e, (refl, refl))), group-opened c.args.n c.args.w c.opened-units.result e)

pub loop-i-preserved : goal.loop-i-preserved
loop-i-preserved c =
    let l = c.loop-i in
    let a = c.args in
    let g : Group = record { units = l.units; text = l.text; frame = l.frame; sum = l.sum } in
    let more = visit-more a.n a.w l.i g c.unit_at-k.result l.invariant.1 c.unit_at-k.ensures.0 (omega arith) _ _ _ c.visited-sum.ensures in
    ((omega arith, (search rules, (search rules, search rules))), more)

pub returns : goal.returns
returns c =
    let a = c.args in
    let all : c.loop-i.i ≡ a.messages * a.n = omega arith in
    ap (λ (g : Group). g.sum) (c.loop-i.invariant.1 ∙ ap (run_of a.n a.w) all)
