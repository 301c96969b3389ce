-- `item::digit` meets its contract.
use Rattle.script.proofs.ItemsLaws.{digit_of-from}
use Rattle.script.proofs.item.digit.Goals as goal

pub returns : goal.returns
returns c = digit_of-from c.args.b _ (rw c.from.ensures at c.to_digit.ensures.value)
