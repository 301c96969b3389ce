use mathlib.Core.Logic.{◌≢◌}
use mathlib.Core.Path.{◌≡◌, ap}
use Prim.Native.Nat.{ℕ, ◌-◌}
use native.Mathlib.Omega.{arith}
use lib.ListN.{length}
use borrow.Author.Tests.{eq-eqb, ne_eqb}
use Rattle.rules.specs.Maps.{listed}
use Rattle.lists.specs.Order.{sender_of, is_of, only, entry}
use Rattle.lists.proofs.OnlyLaws.{only-more, only-pass}
use Rattle.lists.proofs.count_of.Goals as goal
use Rattle.lists.proofs.count_of.Goals.{then-get_or-j, else-get_or-j}

pub loop-q-preserved : goal.loop-q-preserved
loop-q-preserved c =
    let s = c.args in
    let k = c.loop-q.q in
    let in-loop = c.loop-q-test.true in
    elim c.if-get_or-j.branch [
      | then-get_or-j w ↦
          let e : sender_of (entry s.o k) ≡ s.j = omega arith in
          let more = ap length (only-more (is_of s.j) (entry s.o) k s.end in-loop (eq-eqb _ _ e)) in
          omega arith
      | else-get_or-j w ↦
          let d : sender_of (entry s.o k) ≢ s.j = omega arith in
          let more = ap length (only-pass (is_of s.j) (entry s.o) k s.end in-loop (ne_eqb _ _ d)) in
          omega arith
    ]

pub returns : goal.returns
returns c =
    let s = c.args in
    let none = ap (λ (i : ℕ). length (only (is_of s.j) (listed c.loop-q.q i (entry s.o)))) (let e : s.end - c.loop-q.q ≡ 0 = omega arith in e) in
    omega arith
