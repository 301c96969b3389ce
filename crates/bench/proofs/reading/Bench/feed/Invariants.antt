-- `Bench::feed` meets its contract. The invariant: what has been printed, and then what the rest of the part says, is what the part says.
use Rattle.bench.proofs.FeedLaws.{Fed}
use Rattle.bench.proofs.reading.Bench.feed.Given as goal

abbrev pub invariant-loop-x : goal.invariant-loop-x
invariant-loop-x l = Fed l.initial.self l.part l.initial.out l.self l.len l.x-index l.out
