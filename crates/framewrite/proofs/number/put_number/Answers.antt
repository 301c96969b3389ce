-- `put_number` meets its contract.
use native.Mathlib.Omega.{arith}
use Prim.Native.Nat.{◌-◌}
use mathlib.Core.Path.{ap, ◌∙◌}
use lib.ListN.{take, drop}
use Rattle.framewrite.proofs.Digits.{number-stored}
use Rattle.framewrite.proofs.number.put_number.Goals as goal

pub returns : goal.returns
returns c =
    let a = c.args in
    let r = c.requires in
    number-stored a.d.now a.at a.w _ a.x _ r.0 r.1 r.2 (omega arith)
    (c.copy_from_slice.ensures.after ∙ ap (λ l. take (4 - (4 - a.w)) (drop (4 - a.w) l)) c.to_be_bytes-all.ensures)
