-- `print::places` meets its contract.
use native.Mathlib.Omega.{arith}
use Prim.Native.Nat.{◌^◌, ◌<◌}
use mathlib.Core.Path.{sym, ap, ◌∙◌}
use lib.ListN.{length}
use Rattle.script.proofs.PrintLaws.{decimal-std, length-decimal}
use Rattle.script.proofs.print.places.Goals as goal

pub returns : goal.returns
returns c =
    let x = c.args.x in
    let small : x < 2 ^ 64 = omega arith in
    let e = ap length (c.format.ensures.text ∙ sym (decimal-std x small)) in
    (e, omega (arith, e, length-decimal 9 x (omega arith)))
