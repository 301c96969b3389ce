use native.Mathlib.Omega.{arith}
use Rattle.rules.proofs.StoresLaws.{all-stored}
use Rattle.frame.proofs.Handing.{puts}
use Rattle.frame.proofs.export.put_numbers.Goals as goal

pub returns : goal.returns
returns c =
    let a = c.args in
    puts _ a.head a.seq a.after.now (omega arith) a.out.now _ _ _ c.requires (omega arith)
    (cc (c.copy_from_slice.ensures.after, c.from-code.ensures, c.from.ensures, c.from-2.ensures, c.from-3.ensures, c.from-4.ensures))
    (all-stored _ _ _ _ _ c.loop-k.invariant (omega arith)) c.copy_from_slice-2.ensures.after
