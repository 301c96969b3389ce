use mathlib.Core.Path.{refl, ◌∙◌}
use Prim.Native.Nat.{◌+◌}
use native.Mathlib.Omega.{arith}
use lib.ListN.{get_or, length-set}
use Rattle.tables.proofs.FillLaws.{filled-set}
use Rattle.handing.proofs.PartLaws.{filled-part}
use Rattle.handing.proofs.copy.put_part.Goals as goal

pub loop-i-init : goal.loop-i-init
loop-i-init c = ((omega arith, refl), refl)

pub loop-i-preserved : goal.loop-i-preserved
loop-i-preserved c =
    let a = c.args in (
      (omega arith, length-set c.loop-i.out c.loop-i.i c.get_or.result ∙ c.loop-i.invariant.0.1),
      filled-set a.out.now (λ k. get_or a.list.now (a.start + k) 0) c.loop-i.i c.get_or.result (omega arith) c.get_or.ensures c.loop-i.invariant.1,
    )

pub returns : goal.returns
returns c =
    let a = c.args in
    c.loop-i.invariant.1 ∙ filled-part a.out.now a.list.now a.start a.count c.loop-i.i (omega arith)
