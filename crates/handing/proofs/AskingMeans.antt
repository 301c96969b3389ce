-- Asking means the rules' making of a request.
use mathlib.Core.Bool.{true, false, not, ◌||◌}
use mathlib.Core.List.{List}
use mathlib.Core.Path.{◌≡◌, refl, sym, ap}
use Prim.Native.Nat.{ℕ}
use native.Mathlib.Omega.{arith}
use lib.Dec.{eqb}
use lib.ListN.{length}
use borrow.Author.Tests.{not-false}
use Rattle.rules.specs.Maps.{between, at, units}
use Rattle.rules.specs.Message.{request, encode}
use Rattle.rules.specs.State.{State}
use Rattle.rules.specs.Steps.{asking}
use Rattle.rules.specs.Calls.{refusal, make_checks, make_request}
use Rattle.rules.proofs.AlikeLaws.{Alike}
use Rattle.answers.proofs.AnswersLaws.{numbered-alike}
use Rattle.rules.proofs.MapsLaws.{between-low, between-high, units_in, or_left}
use Rattle.state.specs.declared.Core.{Core}
use Rattle.state.specs.View.{look}
use Rattle.state.specs.Soundness.{sound_of}
use Rattle.state.proofs.SoundLaws.{sound-look}
use Rattle.state.proofs.RoomLaws.{sound-ranges}
use Rattle.state.proofs.UnitsLaws.{take-units}
use Rattle.handing.specs.Handing.{refusing, done_with, request_for, asking_checks, asking_of}
use Rattle.handing.specs.Meant.{handed_means}

-- the number of a unit
pub unit-number : (n k : ℕ) → between 1 n k ≡ true → (l : List ℕ) → at l k ≡ units n (at l) k
unit-number n k u l = sym (units_in n (at l) k (between-low 1 n k u) (between-high 1 n k u))

module _ (c : Core) (acks bytes frames : List ℕ) (k : ℕ) (out : List ℕ) where
  abbrev s : State
  s = look c acks bytes frames

  -- k is a unit
  module _ (u : between 1 c.n k ≡ true) where
    requested : length c.req ≡ 8 → sound_of c acks ≡ true → request_for c k ≡ asking s k
    unfolding asking look
    requested long h = rw (take-units c.n c.req (omega (arith, (sound-ranges c acks h).n-high)), unit-number c.n k u c.heard)

  is-unit : not (between 1 c.n k) || eqb k c.me ≡ false → between 1 c.n k ≡ true
  is-unit e = not-false _ (or_left (not (between 1 c.n k)) (eqb k c.me) e)

  alike : Alike (asking_checks c acks k out) (make_checks s k out)
  unfolding make_checks look
  alike = (
    ap not (sound-look c acks bytes frames),
    (refl, λ h. (refl, (refl, λ e. (rw (unit-number c.n k (is-unit e) c.heard, unit-number c.n k (is-unit e) c.req), (refl, λ m. (refl, (refl, λ z. tt))))))),
  )

  pub asking-means : length c.req ≡ 8 → handed_means s (asking_of c acks k out) ≡ make_request s k out
  unfolding asking_of make_request
  asking-means long =
      numbered-alike (handed_means s) (refusing out) (done_with (length (encode (request (request_for c k)))) (encode (request (request_for c k))) out) _ (λ a e. ap (refusal 1 s out) e) _ (asking_checks c acks k out) (make_checks s k out) (refl, (refl, (refl, (refl, tt)))) alike
      (λ passed. rw (requested (is-unit passed.1.0) long (not-false _ passed.0)))
