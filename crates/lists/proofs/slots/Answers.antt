use mathlib.Core.Bool.{Bool, true, false}
use mathlib.Core.List.{List, map}
use mathlib.Core.Logic.{◌≢◌}
use mathlib.Core.Path.{◌≡◌, sym, ap, ◌∙◌}
use Prim.Native.Nat.{ℕ, ◌+◌, ◌-◌}
use native.Mathlib.Omega.{arith}
use lib.ListN.{set, replicate}
use borrow.Author.Rules.{rules}
use borrow.Author.Tests.{eq-eqb, ne_eqb}
use Rattle.rules.specs.Maps.{listed}
use Rattle.lists.specs.Order.{sender_of, slot_of, is_of, total, entry, marked, slots_in, slots_of}
use Rattle.lists.proofs.OnlyLaws.{only-more, only-pass}
use Rattle.lists.proofs.slots.Goals as goal
use Rattle.lists.proofs.slots.Goals.{then-p-j, else-p-j}

pub loop-q-init : goal.loop-q-init
unfolding slots_of
loop-q-init c =
    let s = c.args in
    let e : c.taken-q-end.result - 0 ≡ total s.o = omega arith in
    (search rules, ap (λ (i : ℕ). marked (replicate 16 false) (slots_in s.j (listed 0 i (entry s.o)))) e)

pub loop-q-preserved : goal.loop-q-preserved
loop-q-preserved c =
    let s = c.args in
    let k = c.loop-q.q in
    let end = c.taken-q-end.result in
    let in-loop = c.loop-q-test.true in (
      search rules,
      elim c.if-p-j.branch [
        | then-p-j w ↦
            let e : sender_of (entry s.o k) ≡ s.j = omega arith in
            ap (λ (m : List Bool). marked m (slots_in s.j (listed (k + 1) (end - (k + 1)) (entry s.o))))
            (w.marks-is ∙ ap (λ (p : ℕ). set c.loop-q.marks (slot_of p) true) c.get_or-p.ensures)
            ∙ sym (ap (λ (l : List ℕ). marked c.loop-q.marks (map slot_of l)) (only-more (is_of s.j) (entry s.o) k end in-loop (eq-eqb _ _ e)))
            ∙ c.loop-q.invariant.1
        | else-p-j w ↦
            let d : sender_of (entry s.o k) ≢ s.j = omega arith in
            ap (λ (m : List Bool). marked m (slots_in s.j (listed (k + 1) (end - (k + 1)) (entry s.o)))) w.marks-is
            ∙ sym (ap (λ (l : List ℕ). marked c.loop-q.marks (map slot_of l)) (only-pass (is_of s.j) (entry s.o) k end in-loop (ne_eqb _ _ d)))
            ∙ c.loop-q.invariant.1
      ],
    )

pub returns : goal.returns
returns c =
    let s = c.args in
    let e : c.taken-q-end.result - c.loop-q.q ≡ 0 = omega arith in
    sym (ap (λ (i : ℕ). marked c.loop-q.marks (slots_in s.j (listed c.loop-q.q i (entry s.o)))) e) ∙ c.loop-q.invariant.1
