-- `commands::counted` meets its contract.
use borrow.Author.Rules.{rules}
use borrow.Author.Tests.{tests}
use Rattle.rules.specs.Maps.{between}
use Rattle.bench.proofs.commands.counted.Goals as goal

pub returns : goal.returns
unfolding between
returns c = search (rules, tests)
