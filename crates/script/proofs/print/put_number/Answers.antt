-- `print::put_number` meets its contract: the digits are put, and then the byte.
use native.Mathlib.Omega.{arith}
use Prim.Native.Nat.{◌^◌, ◌<◌}
use mathlib.Core.Path.{sym, ap, ◌∙◌}
use lib.ListN.{length}
use Rattle.script.proofs.PrintLaws.{decimal-std}
use Rattle.script.proofs.WrittenLaws.{put_then}
use Rattle.script.proofs.print.put_number.Goals as goal

pub put-stop-requires : goal.put-stop-requires
put-stop-requires c =
    let small : c.args.x < 2 ^ 64 = omega arith in
    omega (arith, ap length (c.as_bytes.ensures.value ∙ c.format.ensures.text ∙ sym (decimal-std c.args.x small)))

pub put-requires : goal.put-requires
put-requires c =
    let small : c.args.x < 2 ^ 64 = omega arith in
    let digits = c.as_bytes.ensures.value ∙ c.format.ensures.text ∙ sym (decimal-std c.args.x small) in
    omega (arith, ap length digits, c.put-stop.ensures.place, c.put-stop.ensures.long)

pub returns : goal.returns
returns c =
    let small : c.args.x < 2 ^ 64 = omega arith in
    put_then (rw (c.as_bytes.ensures.value ∙ c.format.ensures.text ∙ sym (decimal-std c.args.x small)) at c.put-stop.ensures) c.put.ensures
