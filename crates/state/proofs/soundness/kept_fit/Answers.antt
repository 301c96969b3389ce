use mathlib.Core.Bool.{Bool}
use mathlib.Core.List.{List}
use mathlib.Core.Path.{◌≡◌, sym, ap, ◌∙◌}
use Prim.Native.Nat.{ℕ, ◌+◌, ◌*◌}
use native.Mathlib.Nat.{sub-zero}
use lib.ListN.{get_or}
use Rattle.rules.specs.Maps.{between, every}
use Rattle.tables.proofs.EveryLaws.{every_more, every-stop, every-end}
use Rattle.tables.proofs.RowLaws.{at_next}
use Rattle.state.specs.Soundness.{kept_lengths}
use Rattle.state.proofs.soundness.kept_fit.Invariants.{fits}
use Rattle.state.proofs.soundness.kept_fit.Goals as goal

-- the test of the length at index i, as the code makes it
tested : (kept : List ℕ) (n i long : ℕ) {b : Bool} → long ≡ get_or kept i 0 → b ≡ between (37 + 4 * n) (85 + 4 * n) long → fits kept n (i + 1) ≡ b
tested kept n i long y z = ap (between (37 + 4 * n) (85 + 4 * n)) (at_next kept i ∙ sym y) ∙ sym z

pub loop-i-init : goal.loop-i-init
unfolding kept_lengths
loop-i-init c =
    let s = c.args in
    ap (λ (m : ℕ). every 1 m (fits s.kept.now s.n)) (sub-zero s.m)

pub returns-then-not-frame_fits : goal.returns-then-not-frame_fits
returns-then-not-frame_fits c =
    let s = c.args in
    let e = tested s.kept.now s.n c.loop-i.i _ c.get_or.ensures c.frame_fits.ensures in
    every-stop (fits s.kept.now s.n) s.m c.loop-i.i c.loop-i-test.true (e ∙ c.if-not-frame_fits.true) c.loop-i.invariant

pub loop-i-preserved : goal.loop-i-preserved
loop-i-preserved c =
    let s = c.args in
    let e = tested s.kept.now s.n c.loop-i.i _ c.get_or.ensures c.frame_fits.ensures in
    every_more (fits s.kept.now s.n) s.m c.loop-i.i c.loop-i-test.true (e ∙ c.if-not-frame_fits.false) c.loop-i.invariant

pub returns : goal.returns
returns c =
    let s = c.args in
    every-end (fits s.kept.now s.n) s.m c.loop-i.i c.loop-i-test.false c.loop-i.invariant
