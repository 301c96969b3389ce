-- Taking means the rules' take.
use mathlib.Core.Bool.{true, not}
use mathlib.Core.List.{List, [], ◌∷◌}
use mathlib.Core.Logic.{◌≢◌}
use mathlib.Core.Path.{◌≡◌, refl, sym, ap, ◌∙◌}
use Prim.Native.Nat.{ℕ, ◌*◌}
use native.Mathlib.Omega.{arith}
use lib.Dec.{eqb, ltb}
use lib.ListN.{length, get_or, length-map}
use borrow.Author.Tests.{eqb-false, not-false}
use Rattle.rules.specs.State.{Place, State}
use Rattle.rules.specs.Steps.{without_taken}
use Rattle.rules.specs.Calls.{refusal, written, oldest, take_checks, take}
use Rattle.rules.proofs.MapsLaws.{length-listed}
use Rattle.rules.proofs.AlikeLaws.{Alike}
use Rattle.answers.proofs.AnswersLaws.{numbered-alike}
use Rattle.lists.specs.Order.{entry, confirmeds, without_first}
use Rattle.lists.specs.View.{Shows}
use Rattle.lists.proofs.ChangeLaws.{first-shows, without_first-shows}
use Rattle.lists.proofs.ShowLaws.{shows-is}
use Rattle.tables.proofs.ListedLaws.{length_part}
use Rattle.state.specs.declared.Core.{Core}
use Rattle.state.specs.View.{place_at, kept_of, look}
use Rattle.state.specs.Soundness.{sound_of}
use Rattle.state.proofs.LookLaws.{shows-look}
use Rattle.state.proofs.SoundLaws.{sound-look}
use Rattle.state.proofs.RoomLaws.{sound-room}
use Rattle.state.specs.Changed.{with_order}
use Rattle.handing.specs.Handing.{not_taken, taken_with, oldest_place, length_at, taking_checks, taking_of}
use Rattle.handing.specs.Meant.{taken_means}

module _ (c : Core) (acks bytes frames : List ℕ) where
  abbrev s : State
  s = look c acks bytes frames

  abbrev M : ℕ → Place
  M = place_at c acks bytes

  abbrev p : ℕ
  p = oldest_place c

  S : Shows M c.n c.order s
  S = shows-look c acks bytes frames

  pub confirmed-count : length s.confirmed ≡ c.order.confirmed
  confirmed-count = ap length S.confirmed ∙ length-map (confirmeds c.order) M ∙ length-listed 0 c.order.confirmed (entry c.order)

  -- a message is confirmed
  module _ (long : length c.order.list ≡ 128) (h : sound_of c acks ≡ true) (some : c.order.confirmed ≢ 0) where
    first : oldest s ≡ M p
    unfolding oldest
    first = ap (λ (l : List Place). get_or l 0 (record { slot = 0; src = 0; seq = 0; ack = []; text = [] })) (first-shows c.order long (sound-room c acks h) (omega arith) M c.n s S)

    text : length (oldest s).text ≡ length_at c p
    unfolding place_at
    text = ap (λ (x : Place). length x.text) first ∙ length_part bytes (48 * p) (length_at c p)

    -- the next state
    rest : look (with_order c (without_first c.order)) acks bytes frames ≡ without_taken s
    unfolding look place_at kept_of without_taken
    rest = sym (shows-is M c.n (without_first c.order) s (without_taken s) refl (without_first-shows c.order long (sound-room c acks h) (omega arith) M c.n s S))

    taken : (out : List ℕ) → taken_means acks bytes frames (taken_with c bytes out)
        ≡ record {
          answer = 0;
          numbers = (oldest s).src ∷ (oldest s).seq ∷ length (oldest s).text ∷ [];
          next = without_taken s;
          output = written out (oldest s).text;
        }
    unfolding place_at
    taken out = rw (rest, first, length_part bytes (48 * p) (length_at c p))

  alike : (out : List ℕ) → length c.order.list ≡ 128 → Alike (taking_checks c acks out) (take_checks s out)
  unfolding take_checks
  alike out long = (
    ap not (sound-look c acks bytes frames),
    (
      refl,
      λ h. (
        ap (λ (m : ℕ). eqb m 0) (sym confirmed-count),
        (refl, λ z. (ap (ltb (length out)) (sym (text long (not-false _ h) (eqb-false c.order.confirmed 0 z))), (refl, λ y. tt))),
      ),
    ),
  )

  pub taking-means : (out : List ℕ) → length c.order.list ≡ 128 → taken_means acks bytes frames (taking_of c acks bytes out) ≡ take s out
  unfolding taking_of take
  taking-means out long =
      numbered-alike (taken_means acks bytes frames) (not_taken c out) (taken_with c bytes out) _ (λ a e. ap (refusal 3 s out) e) _ (taking_checks c acks out) (take_checks s out) (refl, (refl, (refl, tt))) (alike out long)
      (λ passed. taken long (not-false _ passed.0) (eqb-false c.order.confirmed 0 passed.1.0) out)
