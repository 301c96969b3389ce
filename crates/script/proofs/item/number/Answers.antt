-- `item::number` meets its contract: no byte, a leading `0`, and any other digits.
use native.Mathlib.Omega.{arith}
use borrow.Author.Rules.{rules}
use borrow.Author.Tests.{tests}
use mathlib.Core.Path.{◌∙◌}
use Rattle.script.proofs.ItemsLaws.{value_in-empty, value_in-leading, value_in-digits}
use Rattle.script.proofs.item.number.Goals as goal
use Rattle.script.proofs.item.number.Goals.{else-s-eq48-via-then-s-eq48+else-s-ne1, else-s-eq48-via-else-s-eq48}

pub returns-then-is_empty : goal.returns-then-is_empty
returns-then-is_empty c = value_in-empty _ (search (rules, tests))

pub returns-then-s-ne1 : goal.returns-then-s-ne1
returns-then-s-ne1 c = value_in-leading _ c.if-s-ne1.true c.if-s-eq48.true

pub returns : goal.returns
returns c =
    c.digits.ensures
    ∙ value_in-digits _ (search (rules, tests)) (λ long zero. elim c.else-s-eq48.branch [
      | else-s-eq48-via-then-s-eq48+else-s-ne1 w ↦ absurd (omega (arith, w.if-s-ne1.false))
      | else-s-eq48-via-else-s-eq48 w ↦ w.if-s-eq48.false zero
    ])
