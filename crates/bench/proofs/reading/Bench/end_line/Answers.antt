-- `Bench::end_line` meets its contract: a step, and then an empty line.
use Rattle.bench.proofs.LineLaws.{line_reads}
use Rattle.bench.proofs.reading.Bench.end_line.Goals as goal

pub returns : goal.returns
returns c = line_reads c.args.self.now c.new-self.ensures c.step-stage.ensures
