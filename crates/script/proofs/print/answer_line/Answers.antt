-- `print::answer_line` meets its contract: the output is too short, or the two items are put there.
use native.Mathlib.Omega.{arith}
use mathlib.Core.List.{[]}
use lib.ListN.{length-append}
use Rattle.script.specs.Print.{decimal, reply_line}
use Rattle.script.proofs.WrittenLaws.{put_item, length-joined, length-joined-last, put-wrote, short-wrote}
use Rattle.script.proofs.print.answer_line.Goals as goal

pub returns-then-out-places : goal.returns-then-out-places
unfolding reply_line
returns-then-out-places c =
    let a = c.args in
    short-wrote _ _ (omega (arith, length-joined (decimal a.line) (decimal a.answer) [], length-joined-last (decimal a.answer)))

pub put_number-requires : goal.put_number-requires
put_number-requires c = omega (arith, simp length-append at c.put_number-a.ensures.place)

pub returns : goal.returns
unfolding reply_line
returns c =
    let a = c.args in
    put-wrote _ _ (omega (arith, length-joined (decimal a.line) (decimal a.answer) [], length-joined-last (decimal a.answer)))
    (put_item (decimal a.line) (decimal a.answer) [] c.put_number-a.ensures c.put_number.ensures)
