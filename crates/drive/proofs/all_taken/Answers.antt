use borrow.Author.Rules.{rules}
use native.Mathlib.Omega.{arith}
use mathlib.Core.Path.{◌≡◌, sym, ap, ◌∙◌}
use Prim.Native.Nat.{◌+◌, ◌-◌}
use Rattle.answers.specs.Answers.{Answered}
use Rattle.handing.specs.declared.Taken.{Taken}
use Rattle.drive.specs.Run.{all_taken, all_after}
use Rattle.drive.proofs.Taking.{take-given, taken_none, taken-stop, taken_more}
use Rattle.drive.proofs.all_taken.Goals as goal

pub returns-in_default : goal.returns-in_default
returns-in_default c =
    let l = c.loop-count in
    let first = take-given _ _ _ _ c.take.ensures in
    taken-stop l.unit l.out l.sum (128 - l.count) l.taken _ c.in_default.is ∙ l.invariant.1 ∙ ap (all_after 128 c.args.before) first

pub loop-count-preserved : goal.loop-count-preserved
loop-count-preserved c =
    let l = c.loop-count in
    let next = take-given _ _ _ _ c.take-in-loop-count.ensures in
    let less : 128 - l.count - 1 ≡ 128 - (l.count + 1) = omega arith in
    let more =
    ap (λ (t : Answered Taken). all_taken (128 - l.count) l.unit t l.out l.sum) c.in-Ok.is
    ∙ taken_more l.unit l.out l.sum (128 - l.count) c.in-Ok.t (omega arith)
    ∙ sym (ap (all_after _ _) next) in
    (search rules, rw (c.with_message-sum.ensures, ← less) (sym more ∙ l.invariant.1))

pub returns : goal.returns
returns c =
    let l = c.loop-count in
    let first = take-given _ _ _ _ c.take.ensures in
    taken_none l.unit l.out l.sum (128 - l.count) l.taken (omega arith) ∙ l.invariant.1 ∙ ap (all_after 128 c.args.before) first
