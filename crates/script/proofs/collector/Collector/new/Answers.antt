-- `Collector::new` meets its contract.
use mathlib.Core.Path.{refl}
use Rattle.script.specs.Gathered.{emptied}
use Rattle.script.proofs.collector.Collector.new.Goals as goal

pub returns : goal.returns
unfolding emptied
returns c = refl
