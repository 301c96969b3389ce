use mathlib.Core.Path.{◌≡◌, sym, ap, ◌∙◌}
use native.Mathlib.Omega.{arith}
use native.Mathlib.Nat.{sub-zero}
use Rattle.lists.proofs.SlotLaws.{unmarked, unmarked-free_of, unmarked-more, unmarked-stop, unmarked-end}
use Rattle.lists.proofs.free_slot.Goals as goal

pub loop-k-init : goal.loop-k-init
loop-k-init c = ap (unmarked c.slots-marks.result 0) (sub-zero c.args.most)

pub returns-then-not-get_or : goal.returns-then-not-get_or
returns-then-not-get_or c =
    let s = c.args in
    unmarked-stop c.slots-marks.result s.most c.loop-k.k c.loop-k-test.true (sym c.get_or.ensures ∙ c.if-not-get_or.true) c.loop-k.invariant
    ∙ unmarked-free_of s.o s.j s.most c.slots-marks.ensures

pub loop-k-preserved : goal.loop-k-preserved
loop-k-preserved c =
    unmarked-more c.slots-marks.result c.args.most c.loop-k.k c.loop-k-test.true (sym c.get_or.ensures ∙ c.if-not-get_or.false) c.loop-k.invariant

pub returns : goal.returns
returns c =
    let s = c.args in
    let e : s.most ≡ c.loop-k.k = omega arith in
    e
    ∙ unmarked-end c.slots-marks.result s.most c.loop-k.k c.loop-k-test.false c.loop-k.invariant
    ∙ unmarked-free_of s.o s.j s.most c.slots-marks.ensures
