-- `put_numbers` meets its contract. The invariant: storing what is left of ACK gives the whole.
use Rattle.rules.proofs.StoresLaws.{Stored}
use Rattle.frame.proofs.export.put_numbers.Given as goal

abbrev pub invariant-loop-k : goal.invariant-loop-k
invariant-loop-k l = Stored l.initial.out 5 l.ack-items l.out l.k
