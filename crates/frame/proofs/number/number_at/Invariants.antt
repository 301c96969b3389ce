-- `number_at` meets its contract. The invariant: x is the number of the bytes read.
use Rattle.frame.proofs.Numbers.{Summed}
use Rattle.frame.proofs.number.number_at.Given as goal

abbrev pub invariant-loop-b : goal.invariant-loop-b
invariant-loop-b l = Summed l.b-items l.x l.b-index
