use mathlib.Core.Bool.{Bool, true, false}
use mathlib.Core.Path.{◌≡◌, sym, ap, ◌∙◌}
use Prim.Native.Nat.{ℕ, ◌+◌, ◌-◌}
use native.Mathlib.Omega.{arith}
use lib.ListN.{get_or, set, replicate}
use borrow.Author.Rules.{rules}
use Rattle.rules.specs.Maps.{listed}
use Rattle.lists.specs.Order.{total, entry, takens}
use Rattle.state.specs.Soundness.{place_of, places_of}
use Rattle.state.proofs.PlaceLaws.{place-room}
use Rattle.state.proofs.MarkLaws.{passes, passes-blank, passes-unfit, passes-twice, passes-more, passes-end}
use Rattle.state.proofs.soundness.places_fit.Goals as goal
use Rattle.state.proofs.soundness.places_fit.Goals.{then-not-place_fits-via-then-not-place_fits, then-not-place_fits-via-else-not-place_fits+then-marks-p}

pub loop-q-init : goal.loop-q-init
unfolding places_of
loop-q-init c =
    let s = c.args in
    let fits : ℕ → Bool = place_of s.c.now.n s.c.now.w s.c.now.seqs s.c.now.lens s.acks.now in (
      search rules,
      ap (λ (i : ℕ). passes fits (replicate 128 false) (listed 0 i (entry s.c.now.order))) (let e : c.taken-q-end.result - 0 ≡ total s.c.now.order = omega arith in e)
          ∙ passes-blank fits (place-room s.c.now.n s.c.now.w s.c.now.seqs s.c.now.lens s.acks.now c.requires) (takens s.c.now.order),
    )

pub returns-then-not-place_fits : goal.returns-then-not-place_fits
returns-then-not-place_fits c =
    let s = c.args in
    let fits : ℕ → Bool = place_of s.c.now.n s.c.now.w s.c.now.seqs s.c.now.lens s.acks.now in
    let test : place_of s.c.now.n s.c.now.w s.c.now.seqs s.c.now.lens s.acks.now (entry s.c.now.order c.loop-q.q) ≡ c.place_fits.result =
    ap fits (sym c.get_or-p.ensures) ∙ sym c.place_fits.ensures in
    elim c.then-not-place_fits.branch [
      | then-not-place_fits-via-then-not-place_fits w ↦
          passes-unfit fits (entry s.c.now.order) c.loop-q.marks c.taken-q-end.result c.loop-q.q c.loop-q-test.true (test ∙ w.if-not-place_fits.true) c.loop-q.invariant.1
      | then-not-place_fits-via-else-not-place_fits+then-marks-p w ↦
          passes-twice fits (entry s.c.now.order) c.loop-q.marks c.taken-q-end.result c.loop-q.q c.loop-q-test.true (test ∙ w.if-not-place_fits.false)
          (ap (λ (i : ℕ). get_or c.loop-q.marks i false) (sym c.get_or-p.ensures) ∙ w.if-marks-p.true) c.loop-q.invariant.1
    ]

pub bounds-marks-p : goal.bounds-marks-p
bounds-marks-p c =
    let s = c.args in
    omega (arith, place-room s.c.now.n s.c.now.w s.c.now.seqs s.c.now.lens s.acks.now c.requires c.get_or-p.result (sym c.place_fits.ensures ∙ c.if-not-place_fits.false))

pub bounds-marks-p-in-loop-q : goal.bounds-marks-p-in-loop-q
bounds-marks-p-in-loop-q c =
    let s = c.args in
    omega (arith, place-room s.c.now.n s.c.now.w s.c.now.seqs s.c.now.lens s.acks.now c.requires c.get_or-p.result (sym c.place_fits.ensures ∙ c.if-not-place_fits.false))

pub loop-q-preserved : goal.loop-q-preserved
loop-q-preserved c =
    let s = c.args in
    let fits : ℕ → Bool = place_of s.c.now.n s.c.now.w s.c.now.seqs s.c.now.lens s.acks.now in
    let fit = ap fits (sym c.get_or-p.ensures) ∙ sym c.place_fits.ensures ∙ c.if-not-place_fits.false in
    let once = ap (λ (i : ℕ). get_or c.loop-q.marks i false) (sym c.get_or-p.ensures) ∙ c.if-marks-p.false in (
      search rules,
      ap (λ (i : ℕ). passes fits (set c.loop-q.marks i true) (listed (c.loop-q.q + 1) (c.taken-q-end.result - (c.loop-q.q + 1)) (entry s.c.now.order))) c.get_or-p.ensures
          ∙ passes-more fits (entry s.c.now.order) c.loop-q.marks c.taken-q-end.result c.loop-q.q c.loop-q-test.true fit once c.loop-q.invariant.1,
    )

pub returns : goal.returns
returns c =
    let s = c.args in
    passes-end (place_of s.c.now.n s.c.now.w s.c.now.seqs s.c.now.lens s.acks.now) (entry s.c.now.order) c.loop-q.marks c.taken-q-end.result c.loop-q.q c.loop-q-test.false c.loop-q.invariant.1
