-- After j turns the senders 1 to j are done.
use mathlib.Core.Path.{◌≡◌}
use Rattle.lists.specs.Settle.{acked_to}
use Rattle.lists.proofs.preack.Said.all.Given as goal

abbrev pub invariant-loop-j : goal.invariant-loop-j
invariant-loop-j l = l.o.order ≡ acked_to l.j l.initial.o.order l.al l.self.seqs.now l.self.acks.now l.n
