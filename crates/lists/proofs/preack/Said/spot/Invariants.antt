-- After i turns the first that p precedes is the first from the i-th on.
use mathlib.Core.Path.{◌≡◌}
use Prim.Native.Nat.{◌+◌, ◌-◌}
use Rattle.rules.specs.Maps.{listed}
use Rattle.lists.specs.Order.{entry}
use Rattle.lists.specs.Settle.{precedes_at, index_of, before}
use Rattle.lists.proofs.preack.Said.spot.Given as goal

abbrev pub invariant-loop-i : goal.invariant-loop-i
invariant-loop-i l = l.i + index_of (precedes_at l.self.seqs.now l.self.acks.now l.p) (listed (l.o.confirmed + l.i) (l.o.ordered - l.i) (entry l.o)) ≡ before l.o l.self.seqs.now l.self.acks.now l.p
