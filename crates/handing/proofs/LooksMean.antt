-- Each look shows what the look of the rules shows.
use mathlib.Core.Bool.{true, not}
use mathlib.Core.List.{List}
use mathlib.Core.Path.{◌≡◌, refl, sym, ap, ◌∙◌}
use Prim.Native.Nat.{ℕ, ◌-◌}
use lib.ListN.{length}
use borrow.Author.Tests.{not-false}
use Rattle.rules.specs.Maps.{between, at, units}
use Rattle.rules.specs.State.{State}
use Rattle.rules.specs.Calls.{Check}
use Rattle.rules.specs.Looks.{Looked, showing, to_take, free_places, kept_numbers, missing_of, waiting_of, whole_checks as whole_checks_of, unit_checks as unit_checks_of}
use Rattle.rules.proofs.CallsLaws.{Passed}
use Rattle.rules.proofs.AlikeLaws.{Alike, decide-alike}
use Rattle.lists.specs.View.{Shows}
use Rattle.lists.proofs.TakenLaws.{waiting_of-is}
use Rattle.state.specs.declared.Core.{Core}
use Rattle.state.specs.View.{place_at, look}
use Rattle.state.specs.Soundness.{sound_of}
use Rattle.state.proofs.LookLaws.{holds-look, shows-look, places-look}
use Rattle.state.proofs.RoomLaws.{sound-whole}
use Rattle.state.proofs.SoundLaws.{sound-look}
use Rattle.handing.specs.Looks.{whole_checks, unit_checks, to_take_in, free_places_in, kept_numbers_in, missing_in, waiting_in}
use Rattle.handing.proofs.TakingMeans.{confirmed-count}
use Rattle.handing.proofs.AskingMeans.{unit-number}
use Rattle.handing.proofs.CopyingMeans.{own-low}

shown-alike : (l m : List Check) → Alike l m → (first first' count count' : ℕ) → (Passed l → (first ≡ first') × (count ≡ count')) → showing l first count ≡ showing m first' count'
shown-alike l m x first first' count count' d =
    decide-alike (λ (r : Looked). r) _ (record { answer = 0; first = first; count = count }) _ (record { answer = 0; first = first'; count = count' }) (λ a. refl) l m x
    (λ passed. let e = d passed in rw (e.0, e.1))

module _ (c : Core) (acks bytes frames : List ℕ) where
  abbrev s : State
  s = look c acks bytes frames

  S : Shows (place_at c acks bytes) c.n c.order s
  S = shows-look c acks bytes frames

  whole : (first first' count count' : ℕ) → (sound_of c acks ≡ true → (first ≡ first') × (count ≡ count'))
      → showing (whole_checks c acks) first count ≡ showing (whole_checks_of s) first' count'
  whole first first' count count' d =
      shown-alike (whole_checks c acks) (whole_checks_of s) (ap not (sound-look c acks bytes frames), (refl, λ h. tt)) first first' count count'
      (λ passed. d (not-false _ passed.0))

  unit : (k first first' count count' : ℕ) → (sound_of c acks ≡ true → between 1 c.n k ≡ true → (first ≡ first') × (count ≡ count'))
      → showing (unit_checks c acks k) first count ≡ showing (unit_checks_of s k) first' count'
  unfolding look
  unit k first first' count count' d =
      shown-alike (unit_checks c acks k) (unit_checks_of s k) (ap not (sound-look c acks bytes frames), (refl, λ h. (refl, (refl, λ e. tt)))) first first' count count'
      (λ passed. d (not-false _ passed.0) (not-false _ passed.1.0))

  pub to-take-means : to_take_in c acks ≡ to_take s
  unfolding to_take_in to_take
  to-take-means = whole _ _ _ _ (λ h. (refl, sym (confirmed-count c acks bytes frames)))

  pub free-places-means : free_places_in c acks ≡ free_places s
  unfolding free_places_in free_places
  free-places-means = whole _ _ _ _ (λ h. (refl, places-look c acks bytes frames))

  pub kept-numbers-means : kept_numbers_in c acks ≡ kept_numbers s
  unfolding kept_numbers_in kept_numbers look
  kept-numbers-means =
      whole _ _ _ _ (λ h. let low = own-low c acks bytes frames h in (low, ap (λ (m : ℕ). c.seq - m) low))

  module _ (k : ℕ) where
    pub missing-of-means : missing_in c acks k ≡ missing_of s k
    unfolding missing_in missing_of look
    missing-of-means =
        unit k _ _ _ _
        (λ h u. let of-k = unit-number c.n k u in (of-k c.req, ap (λ (m : ℕ). m - at c.req k) (of-k c.heard) ∙ ap (λ (m : ℕ). units c.n (at c.heard) k - m) (of-k c.req)))

    pub waiting-of-means : length c.order.list ≡ 128 → waiting_in c acks k ≡ waiting_of s k
    unfolding waiting_in waiting_of
    waiting-of-means long =
        unit k _ _ _ _
        (λ h u. (refl, waiting_of-is (place_at c acks bytes) c.n c.order s S c.seqs acks (holds-look c acks bytes) (sound-whole c acks long h) k))
