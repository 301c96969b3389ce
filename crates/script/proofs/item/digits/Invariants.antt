-- `item::digits` meets its contract. The loop's invariant: what is read, with the digits that are left, says what all say.
use Rattle.script.proofs.ItemsLaws.{Counted}
use Rattle.script.proofs.item.digits.Given as goal

abbrev pub invariant-loop-b : goal.invariant-loop-b
invariant-loop-b l = Counted l.s l.v l.b-index
