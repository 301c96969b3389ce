-- `Bench::new` meets its contract: the first line is to come.
use Rattle.bench.proofs.LineLaws.{starts_first}
use Rattle.bench.proofs.reading.Bench.new.Goals as goal

pub returns : goal.returns
returns c = starts_first c.new.ensures
