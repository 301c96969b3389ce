-- `commands::names` meets its contract, for each sort of line.
use mathlib.Core.Path.{sym, ◌∙◌}
use Rattle.bench.specs.Commands.{names_known}
use Rattle.bench.proofs.commands.names.Goals as goal

pub returns-in-Send : goal.returns-in-Send
unfolding names_known
returns-in-Send c = rw c.in-Send.is c.counted.ensures

pub returns-then-counted : goal.returns-then-counted
unfolding names_known
returns-then-counted c =
    rw (c.in-Arrive.is, sym c.counted-in-Arrive.ensures ∙ c.if-counted.true) c.counted-then-counted.ensures

pub returns-else-counted : goal.returns-else-counted
unfolding names_known
returns-else-counted c = rw (c.in-Arrive.is, ← c.counted-in-Arrive.ensures, c.if-counted.false)

pub returns-in-Request : goal.returns-in-Request
unfolding names_known
returns-in-Request c = rw c.in-Request.is c.counted-in-Request.ensures

pub returns-in-Take : goal.returns-in-Take
unfolding names_known
returns-in-Take c = rw c.in-Take.is c.counted-in-Take.ensures

pub returns-in-Group : goal.returns-in-Group
unfolding names_known
returns-in-Group c = rw c.in-Group.is
