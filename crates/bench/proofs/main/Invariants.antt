-- `main` meets its contract: each turn starts with a bench that can go on.
use Rattle.bench.specs.Reading.{Ready}
use Rattle.bench.proofs.main.Given as goal

abbrev pub invariant-loop : goal.invariant-loop
invariant-loop l = Ready l.b
