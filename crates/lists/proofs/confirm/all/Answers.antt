use mathlib.Core.Path.{◌≡◌, refl, sym, ap, ◌∙◌}
use Prim.Native.Nat.{ℕ}
use native.Mathlib.Omega.{arith}
use borrow.Author.Rules.{rules}
use Rattle.lists.specs.Settle.{confirmed_all}
use Rattle.lists.proofs.ConfirmLaws.{confirmed-more, confirmed-stop}
use Rattle.lists.proofs.confirm.all.Goals as goal

pub loop-o-init : goal.loop-o-init
loop-o-init c = (c.args.first.room, refl)

pub returns-else-ready : goal.returns-else-ready
returns-else-ready c =
    let s = c.args in
    let o = c.loop-o.o in
    let t = sym c.ready.ensures ∙ c.if-ready.false in
    sym (confirmed-stop o s.seqs.now s.n t o.ordered) ∙ c.loop-o.invariant.1

pub loop-o-preserved : goal.loop-o-preserved
loop-o-preserved c =
    let s = c.args in
    let o = c.loop-o.o in
    let t = sym c.ready.ensures ∙ c.if-ready.true in
    (search rules, confirmed-more o s.seqs.now s.n (omega arith) t c.loop-o.invariant.1)

pub returns-after-loop-o : goal.returns-after-loop-o
returns-after-loop-o c =
    let s = c.args in
    let e : c.loop-o.o.ordered ≡ 0 = omega arith in
    sym (ap (λ (m : ℕ). confirmed_all m c.loop-o.o s.seqs.now s.n) e) ∙ c.loop-o.invariant.1
