use mathlib.Core.Logic.{◌≢◌}
use mathlib.Core.Path.{◌≡◌, sym, ap, subst, ◌∙◌}
use Prim.Native.Nat.{ℕ, ◌+◌, ◌-◌, ◌≤◌, ◌<◌}
use native.Mathlib.Omega.{arith}
use lib.ListN.{get_or}
use borrow.Author.Tests.{eq-eqb, ne_eqb, le-leb, lt-leb}
use Rattle.lists.specs.declared.Order.{Order}
use Rattle.lists.specs.declared.held.Held.{Held}
use Rattle.lists.specs.Order.{sender_of, entry}
use Rattle.lists.specs.Settle.{acked_at, acked_from}
use Rattle.lists.proofs.PreackLaws.{turn-joined, turn-passed, acked-join, acked-pass, acked-stop, acked-end}
use Rattle.lists.proofs.preack.Said.of.Invariants.{Here}
use Rattle.lists.proofs.preack.Said.of.Goals as goal
use Rattle.lists.proofs.preack.Said.of.Goals.{then-p-j+else-low-get_or, else-p-j}

pub loop-q-init : goal.loop-q-init
unfolding acked_from
loop-q-init c =
    let s = c.args in
    let o = s.first.order in
    let end = c.taken-end.result in
    let at_first : end - o.waiting ≡ o.confirmed + o.ordered = omega arith in
    let all : end - (end - o.waiting) ≡ o.waiting = omega arith in (
      omega arith,
      ap (λ (m : ℕ). acked_at m (end - o.waiting) o s.j s.low s.self.now.seqs.now s.self.now.acks.now) all
          ∙ ap (λ (q : ℕ). acked_at o.waiting q o s.j s.low s.self.now.seqs.now s.self.now.acks.now) at_first,
    )

pub returns-then-low-get_or : goal.returns-then-low-get_or
returns-then-low-get_or c =
    let s = c.args in
    let k = c.loop-q.q in
    let o = c.loop-q.o.order in
    let in-loop = c.loop-q-test.true in
    let e : sender_of (entry o k) ≡ s.j = omega arith in
    let same = ap (λ (p : ℕ). get_or s.self.now.seqs.now p 0) c.get_or-p.ensures in
    let u : s.low ≤ get_or s.self.now.seqs.now (entry o k) 0 = omega arith in
    acked-stop s.j s.low s.self.now.seqs.now s.self.now.acks.now o c.taken-end.result k in-loop (eq-eqb _ _ e) (le-leb _ _ u) c.loop-q.invariant.1

pub loop-q-preserved : goal.loop-q-preserved
loop-q-preserved c =
    let s = c.args in
    let k = c.loop-q.q in
    let o = c.loop-q.o.order in
    let end = c.taken-end.result in
    let in-loop = c.loop-q-test.true in
    elim c.if-p-j.branch [
      | then-p-j+else-low-get_or w ↦
          let e : sender_of (entry o k) ≡ s.j = omega arith in
          let same = ap (λ (p : ℕ). get_or s.self.now.seqs.now p 0) c.get_or-p.ensures in
          let u : get_or s.self.now.seqs.now (entry o k) 0 < s.low = omega arith in
          subst (λ (r : Order). Here s.j s.low s.self.now.seqs.now s.self.now.acks.now end s.first.order r (k + 1)) (sym (ap (λ (r : Held). r.order) w.o-is ∙ w.joined-o.ensures)) (
            turn-joined s.j s.low s.self.now.seqs.now s.self.now.acks.now o end k in-loop c.loop-q.invariant.0,
            acked-join s.j s.low s.self.now.seqs.now s.self.now.acks.now o end k in-loop (eq-eqb _ _ e) (lt-leb _ _ u) c.loop-q.invariant.1,
          )
      | else-p-j w ↦
          let d : sender_of (entry o k) ≢ s.j = omega arith in
          subst (λ (r : Order). Here s.j s.low s.self.now.seqs.now s.self.now.acks.now end s.first.order r (k + 1)) (sym (ap (λ (r : Held). r.order) w.o-is)) (
            turn-passed end k o in-loop c.loop-q.invariant.0,
            acked-pass s.j s.low s.self.now.seqs.now s.self.now.acks.now o end k in-loop (ne_eqb _ _ d) c.loop-q.invariant.1,
          )
    ]

pub returns : goal.returns
returns c =
    let s = c.args in
    acked-end s.j s.low s.self.now.seqs.now s.self.now.acks.now c.loop-q.o.order c.taken-end.result c.loop-q.q c.loop-q-test.false c.loop-q.invariant.1
