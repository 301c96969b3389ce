-- `item::is_printable` meets its contract.
use mathlib.Core.Path.{◌∙◌}
use Rattle.script.proofs.ItemsLaws.{is_printable-is}
use Rattle.script.proofs.item.is_printable.Goals as goal

pub returns : goal.returns
returns c = c.is_ascii_graphic.ensures.value ∙ is_printable-is _
