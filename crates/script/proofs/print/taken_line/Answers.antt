-- `print::taken_line` meets its contract: the output is too short, or the line number and what was taken are put there.
use native.Mathlib.Omega.{arith}
use mathlib.Core.List.{[], ◌∷◌}
use lib.ListN.{length-append}
use Rattle.script.specs.Print.{decimal, reply_line}
use Rattle.script.proofs.WrittenLaws.{put_item, length-joined, length_taken, put-wrote, short-wrote}
use Rattle.script.proofs.print.taken_line.Goals as goal
use Rattle.script.proofs.print.taken_line.Goals.{then-out-front-via-then-out-front, then-out-front-via-else-out-front+then-out-front-2}

pub returns-then-out-front : goal.returns-then-out-front
unfolding reply_line
returns-then-out-front c =
    let a = c.args in
    let whole = length-joined (decimal a.line) (decimal 0) (decimal a.sender ∷ decimal a.number ∷ a.word.now ∷ []) in
    elim c.then-out-front.branch [
      | then-out-front-via-then-out-front w ↦ short-wrote _ _ (omega (arith, length_taken a.sender a.number a.word.now, whole))
      | then-out-front-via-else-out-front+then-out-front-2 w ↦ short-wrote _ _ (omega (arith, length_taken a.sender a.number a.word.now, whole))
    ]

pub put_taken-requires : goal.put_taken-requires
put_taken-requires c =
    let a = c.args in
    omega (arith, length_taken a.sender a.number a.word.now, simp length-append at c.put_number-a.ensures.place)

pub returns : goal.returns
unfolding reply_line
returns c =
    let a = c.args in
    let l = decimal a.sender ∷ decimal a.number ∷ a.word.now ∷ [] in
    put-wrote _ _ (omega (arith, length_taken a.sender a.number a.word.now, length-joined (decimal a.line) (decimal 0) l))
    (put_item (decimal a.line) (decimal 0) l c.put_number-a.ensures c.put_taken.ensures)
