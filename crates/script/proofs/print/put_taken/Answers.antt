-- `print::put_taken` meets its contract: the items are put one after the other.
use native.Mathlib.Omega.{arith}
use mathlib.Core.List.{[], ◌∷◌}
use lib.ListN.{length-append}
use Rattle.script.specs.Print.{decimal}
use Rattle.script.proofs.WrittenLaws.{put_then, put_item, length_taken}
use Rattle.script.proofs.print.put_taken.Goals as goal

pub put-a-requires : goal.put-a-requires
put-a-requires c = omega (arith, simp length_taken at c.requires)

pub put_number-b-requires : goal.put_number-b-requires
put_number-b-requires c = omega (arith, simp length_taken at c.requires)

pub put_number-c-requires : goal.put_number-c-requires
put_number-c-requires c = omega (arith, simp length_taken at c.requires, simp length-append at c.put_number-b.ensures.place)

pub put-d-requires : goal.put-d-requires
put-d-requires c =
    omega (arith, simp length_taken at c.requires, simp length-append at c.put_number-b.ensures.place, simp length-append at c.put_number-c.ensures.place)

pub put-requires : goal.put-requires
put-requires c =
    omega (arith, simp length_taken at c.requires, simp length-append at c.put_number-b.ensures.place, simp length-append at c.put_number-c.ensures.place)

pub returns : goal.returns
unfolding decimal
returns c =
    let a = c.args in
    let j = decimal a.sender in
    let x = decimal a.number in
    put_item (decimal 0) j (x ∷ a.word.now ∷ []) c.put-a.ensures
    (put_item j x (a.word.now ∷ []) c.put_number-b.ensures
    (put_item x a.word.now [] c.put_number-c.ensures (put_then c.put-d.ensures c.put.ensures)))
