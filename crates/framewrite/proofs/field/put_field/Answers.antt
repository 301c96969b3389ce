-- `put_field` meets its contract.
use native.Mathlib.Omega.{arith}
use Rattle.framewrite.proofs.Laying.{numbers-width, numbers-narrow, numbers-room, numbers-written}
use Rattle.framewrite.proofs.field.put_field.Goals as goal

pub put_numbers-requires : goal.put_numbers-requires
put_numbers-requires c = (numbers-width _ _ _ _ c.requires _ c.row-row.ensures, numbers-narrow _ _ _ _ c.requires _ c.row-row.ensures, omega (arith, numbers-room _ _ _ _ c.requires _ c.row-row.ensures, c.put_front.auto.d))

pub returns : goal.returns
returns c = numbers-written _ _ _ _ c.requires _ c.row-row.ensures _ _ c.put_front.ensures c.put_numbers.ensures
