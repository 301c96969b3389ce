-- `print::unknown_line` meets its contract: the output is too short, or the line number and `?` are put there.
use native.Mathlib.Omega.{arith}
use mathlib.Core.List.{[]}
use lib.ListN.{length-append}
use Rattle.script.specs.Print.{text, decimal, reply_line}
use Rattle.script.proofs.WrittenLaws.{put_item, length-joined, put-wrote, short-wrote}
use Rattle.script.proofs.print.unknown_line.Goals as goal

pub returns-then-out-places : goal.returns-then-out-places
unfolding reply_line
returns-then-out-places c = short-wrote _ _ (omega (arith, length-joined (decimal c.args.line) (text "?") []))

pub put-requires : goal.put-requires
put-requires c = omega (arith, simp length-append at c.put_number-a.ensures.place)

pub returns : goal.returns
unfolding reply_line
returns c =
    let k = c.args.line in
    put-wrote _ _ (omega (arith, length-joined (decimal k) (text "?") [])) (put_item (decimal k) (text "?") [] c.put_number-a.ensures c.put.ensures)
