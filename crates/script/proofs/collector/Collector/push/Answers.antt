-- `Collector::push` meets its contract: there is room for the byte, and there is none.
use borrow.Author.Rules.{rules}
use Rattle.script.proofs.GatheredLaws.{pushed-is, pushed_room, pushed-full}
use Rattle.script.proofs.collector.Collector.push.Goals as goal

pub returns-then-n-lt-LONGEST : goal.returns-then-n-lt-LONGEST
returns-then-n-lt-LONGEST c = pushed-is _ _ (search rules) (pushed_room _ _ c.if-n-lt-LONGEST.true)

pub returns-else-n-lt-LONGEST : goal.returns-else-n-lt-LONGEST
returns-else-n-lt-LONGEST c = pushed-is _ _ (search rules) (pushed-full _ _ c.if-n-lt-LONGEST.false)
