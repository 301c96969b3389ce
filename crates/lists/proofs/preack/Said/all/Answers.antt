use mathlib.Core.List.{List}
use mathlib.Core.Path.{◌≡◌, refl, ap, ◌∙◌}
use Prim.Native.Nat.{ℕ, ◌+◌}
use native.Mathlib.Omega.{arith}
use Rattle.rules.specs.Maps.{at, least}
use Rattle.lists.specs.Settle.{acked_from, acked_to}
use Rattle.lists.proofs.PreackLaws.{acked_to-more}
use Rattle.lists.proofs.preack.Said.all.Goals as goal

pub loop-j-init : goal.loop-j-init
loop-j-init c = refl

pub loop-j-preserved : goal.loop-j-preserved
loop-j-preserved c =
    let s = c.args in
    let j = c.loop-j.j in
    let low = c.least_of-low.ensures ∙ ap (λ (l : List ℕ). least s.n (at l)) c.row.ensures in
    c.of-o.ensures ∙ ap (λ (x : ℕ). acked_from c.loop-j.o.order (j + 1) x s.self.now.seqs.now s.self.now.acks.now) low
    ∙ acked_to-more s.first.order s.al.now s.self.now.seqs.now s.self.now.acks.now s.n j c.loop-j.invariant

pub returns : goal.returns
returns c =
    let s = c.args in
    let e : c.loop-j.j ≡ s.n = omega arith in
    c.loop-j.invariant ∙ ap (λ (i : ℕ). acked_to i s.first.order s.al.now s.self.now.seqs.now s.self.now.acks.now s.n) e
