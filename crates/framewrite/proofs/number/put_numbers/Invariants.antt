-- `put_numbers` meets its contract. The invariant: storing the numbers left gives the whole.
use Rattle.framewrite.proofs.Digits.{Listed}
use Rattle.framewrite.proofs.number.put_numbers.Given as goal

abbrev pub invariant-loop-x : goal.invariant-loop-x
invariant-loop-x l = Listed l.initial.d l.at l.w l.xs l.d l.x-index l.to
