use mathlib.Core.Path.{◌≡◌, sym, ap, ◌∙◌}
use native.Mathlib.Omega.{arith}
use Rattle.lists.specs.Order.{entry}
use Rattle.lists.specs.Settle.{precedes_at, before}
use Rattle.lists.proofs.IndexLaws.{index_of-start, index_of-more, index_of-stop, index_of-end}
use Rattle.lists.proofs.preack.Said.spot.Goals as goal

pub loop-i-init : goal.loop-i-init
unfolding before
loop-i-init c =
    let s = c.args in
    let o = s.o in
    index_of-start (precedes_at s.self.now.seqs.now s.self.now.acks.now s.p) (entry o) o.confirmed o.ordered

pub returns-then-precedes : goal.returns-then-precedes
returns-then-precedes c =
    let s = c.args in
    let o = s.o in
    let t = precedes_at s.self.now.seqs.now s.self.now.acks.now s.p in
    let e = sym (c.precedes.ensures ∙ ap t c.get_or-q.ensures) ∙ c.if-precedes.true in
    index_of-stop t (entry o) o.confirmed o.ordered c.loop-i.i c.loop-i-test.true e c.loop-i.invariant

pub loop-i-preserved : goal.loop-i-preserved
loop-i-preserved c =
    let s = c.args in
    let o = s.o in
    let t = precedes_at s.self.now.seqs.now s.self.now.acks.now s.p in
    let e = sym (c.precedes.ensures ∙ ap t c.get_or-q.ensures) ∙ c.if-precedes.false in
    index_of-more t (entry o) o.confirmed o.ordered c.loop-i.i c.loop-i-test.true e c.loop-i.invariant

pub returns : goal.returns
returns c =
    let s = c.args in
    let o = s.o in
    let e : o.ordered ≡ c.loop-i.i = omega arith in
    e ∙ index_of-end (precedes_at s.self.now.seqs.now s.self.now.acks.now s.p) (entry o) o.confirmed o.ordered c.loop-i.i c.loop-i-test.false c.loop-i.invariant
