-- `turn` meets its contract: some part is read, or the input has ended.
use Rattle.bench.proofs.RunLaws.{none-turns, read-turns}
use Rattle.bench.proofs.turn.Goals as goal

pub returns-then-n-eq0 : goal.returns-then-n-eq0
returns-then-n-eq0 c = none-turns _ c.requires

pub returns-else-is_written : goal.returns-else-is_written
returns-else-is_written c = read-turns _ _ c.feed-len.ensures
