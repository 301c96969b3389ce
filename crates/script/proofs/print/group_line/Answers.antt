-- `print::group_line` meets its contract: the output is too short, or the three items are put there.
use native.Mathlib.Omega.{arith}
use mathlib.Core.List.{[], ◌∷◌}
use lib.ListN.{length-append}
use Rattle.script.specs.Print.{text, decimal, group_line}
use Rattle.script.proofs.WrittenLaws.{put_item, length-joined, length-joined-last, put-wrote, short-wrote}
use Rattle.script.proofs.print.group_line.Goals as goal

pub returns-then-out-places : goal.returns-then-out-places
unfolding group_line
returns-then-out-places c =
    let n = decimal c.args.n in
    let w = decimal c.args.w in
    short-wrote _ _ (omega (arith, length-joined (text "group") n (w ∷ []), length-joined n w [], length-joined-last w))

pub put_number-requires : goal.put_number-requires
put_number-requires c = omega (arith, simp length-append at c.put_number-b.ensures.place)

pub returns : goal.returns
unfolding group_line
returns c =
    let a = c.args in
    let n = decimal a.n in
    let w = decimal a.w in
    put-wrote _ _ (omega (arith, length-joined (text "group") n (w ∷ []), length-joined n w [], length-joined-last w))
    (put_item (text "group") n (w ∷ []) c.put-a.ensures (put_item n w [] c.put_number-b.ensures c.put_number.ensures))
