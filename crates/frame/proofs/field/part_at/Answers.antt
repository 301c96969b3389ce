-- `part_at` meets its contract: one law of `Here` for each way out.
use Rattle.frame.proofs.Here.{backward, past-frame, a-part}
use Rattle.frame.proofs.field.part_at.Goals as goal
use Rattle.frame.proofs.field.part_at.Goals.{then-end-start-via-then-end-start, then-end-start-via-else-end-start+then-s-end}

pub returns-then-end-start : goal.returns-then-end-start
returns-then-end-start c =
    elim c.then-end-start.branch [
      | then-end-start-via-then-end-start w ↦ backward _ _ _ w.if-end-start.true
      | then-end-start-via-else-end-start+then-s-end w ↦ past-frame _ _ _ w.if-s-end.true
    ]

pub returns : goal.returns
returns c = a-part _ _ _ c.if-end-start.false c.if-s-end.false
