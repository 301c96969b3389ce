-- `put_text` meets its contract.
use native.Mathlib.Omega.{arith}
use Rattle.framewrite.proofs.Laying.{text-short, text_room, text-written}
use Rattle.framewrite.proofs.field.put_text.Goals as goal

pub put_front-requires : goal.put_front-requires
put_front-requires c = omega (arith, text-short _ _ _ c.requires, text_room _ _ _ c.requires)

pub returns : goal.returns
returns c = text-written _ _ _ c.requires _ _ c.put_front.ensures c.put.ensures
