-- `line::in_range` meets its contract: each range is what the definition tests.
use borrow.Author.Rules.{rules}
use borrow.Author.Tests.{tests}
use Rattle.rules.specs.Maps.{between}
use Rattle.rules.specs.Sound.{ranges_fit}
use Rattle.script.specs.Script.{in_range}
use Rattle.script.proofs.line.in_range.Goals as goal

pub returns-then-contains : goal.returns-then-contains
unfolding in_range ranges_fit between
returns-then-contains c = search (rules, tests)

pub returns-else-contains : goal.returns-else-contains
unfolding in_range ranges_fit between
returns-else-contains c = search (rules, tests)
