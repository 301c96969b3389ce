-- Copying means the rules' copying out of a kept frame.
use mathlib.Core.Bool.{true, not, ◌&&◌}
use mathlib.Core.List.{List}
use mathlib.Core.Path.{◌≡◌, refl, sym, ap, ◌∙◌}
use Prim.Native.Nat.{ℕ, ◌*◌}
use lib.Dec.{leb, ltb}
use lib.ListN.{length}
use borrow.Author.Tests.{not-false}
use Rattle.rules.specs.State.{State, min_al}
use Rattle.rules.specs.Steps.{is_kept}
use Rattle.rules.specs.Calls.{refusal, copy_checks, copy}
use Rattle.rules.proofs.AlikeLaws.{Alike}
use Rattle.answers.proofs.AnswersLaws.{numbered-alike}
use Rattle.rules.proofs.MapsLaws.{and_left, and_right}
use Rattle.tables.specs.Rows.{part}
use Rattle.tables.proofs.ListedLaws.{length_part}
use Rattle.state.specs.declared.Core.{Core}
use Rattle.state.specs.View.{lowest, kept_of, look}
use Rattle.state.specs.Soundness.{own_low, sound_of}
use Rattle.state.proofs.LookLaws.{low-look, lowest-is}
use Rattle.state.proofs.RoomLaws.{sound-ranges}
use Rattle.state.proofs.SoundLaws.{sound-look}
use Rattle.handing.specs.Handing.{refusing, done_with, slot_for, length_for, copying_checks, copying_of}
use Rattle.handing.specs.Meant.{handed_means}

module _ (c : Core) (acks bytes frames : List ℕ) where
  abbrev s : State
  s = look c acks bytes frames

  -- minAL of the own index
  module _ (h : sound_of c acks ≡ true) where
    low : lowest c ≡ own_low c
    low = let r = sound-ranges c acks h in lowest-is c r.i-low r.i-high

    pub own-low : own_low c ≡ min_al s s.me
    unfolding look
    own-low = let r = sound-ranges c acks h in low-look c acks bytes frames r.i-low r.i-high

  module _ (x : ℕ) (out : List ℕ) where
    -- the frame of x, which is kept
    frame : sound_of c acks ≡ true → leb (own_low c) x && ltb x c.seq ≡ true → s.kept x ≡ part frames (117 * slot_for c x) (length_for c x)
    unfolding look kept_of
    frame h e = rw (low h, and_left (leb (own_low c) x) (ltb x c.seq) e, and_right (leb (own_low c) x) (ltb x c.seq) e)

    alike : Alike (copying_checks c acks x out) (copy_checks s x out)
    unfolding copy_checks is_kept look
    alike = (
      ap not (sound-look c acks bytes frames),
      (
        refl,
        λ h. (
          ap (λ (m : ℕ). not (leb m x && ltb x c.seq)) (own-low (not-false _ h)),
          (
            refl,
            λ e. (
              ap (ltb (length out)) (sym (ap length (frame (not-false _ h) (not-false _ e)) ∙ length_part frames (117 * slot_for c x) (length_for c x))),
              (refl, λ y. tt),
            ),
          ),
        ),
      ),
    )

    pub copying-means : handed_means s (copying_of c acks frames x out) ≡ copy s x out
    unfolding copying_of copy
    copying-means =
        numbered-alike (handed_means s) (refusing out) (done_with (length_for c x) (part frames (117 * slot_for c x) (length_for c x)) out) _ (λ a e. ap (refusal 1 s out) e) _ (copying_checks c acks x out) (copy_checks s x out) (refl, (refl, (refl, tt))) alike
        (λ passed. rw (frame (not-false _ passed.0) (not-false _ passed.1.0), length_part frames (117 * slot_for c x) (length_for c x)))
