-- `print::put` meets its contract.
use borrow.Author.Rules.{rules}
use Rattle.script.proofs.print.put.Goals as goal

pub returns : goal.returns
returns c = record { bytes = c.put.ensures; place = search rules; long = search rules }
