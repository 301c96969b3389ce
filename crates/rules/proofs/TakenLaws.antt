-- Take gives the oldest confirmed message and frees its place.
use mathlib.Core.Bool.{false, true≢false}
use mathlib.Core.List.{List, [], ◌∷◌, tail}
use mathlib.Core.Path.{◌≡◌, refl, ap}
use Prim.Native.Nat.{ℕ, suc, ◌+◌, ◌≤◌}
use native.Mathlib.Omega.{arith}
use lib.Dec.{eqb}
use lib.ListN.{length, get_or}
use borrow.Author.Tests.{ltb-false, not-false}
use Rattle.rules.specs.State.{Place, State, taken}
use Rattle.rules.specs.Steps.{without_taken}
use Rattle.rules.specs.Sound.{sound}
use Rattle.rules.specs.Calls.{oldest, take_checks, take}
use Rattle.rules.proofs.CallsLaws.{Passed, take_cases}
use Rattle.rules.proofs.ChecksLaws.{refused-above}
use Rattle.rules.proofs.PlacesLaws.{bit, tally, stands, stands_self, count, tally-without_taken}
use Rattle.rules.proofs.SoundLaws.{Sound, sound-facts}
use Rattle.rules.proofs.SlotsLaws.{length-tally}

pub record Takes (s : State) (out : List ℕ) (t : State) : Type 0 where
  pub sound : Sound s
  pub long : length (oldest s).text ≤ length out
  -- it leaves the confirmed list, and no other list changes
  pub first : s.confirmed ≡ oldest s ∷ t.confirmed
  pub ordered : t.ordered ≡ s.ordered
  pub waiting : t.waiting ≡ s.waiting
  -- its place is free again: one place fewer is taken, and not its own
  pub fewer : suc (length (taken t)) ≡ length (taken s)
  pub freed : count (oldest s).src (oldest s).slot (taken t) ≡ 0

head_tail : (d : Place) (l : List Place) → eqb (length l) 0 ≡ false → l ≡ get_or l 0 d ∷ tail l
head_tail d [] h = absurd (true≢false h)
head_tail d (p ∷ l) h = refl

pub passed-takes : (s : State) (out : List ℕ) → Passed (take_checks s out) → Takes s out (without_taken s)
unfolding take_checks oldest without_taken
passed-takes s out h =
    let f : Sound s = sound-facts s (not-false (sound s) (search)) in
    let e : s.confirmed ≡ oldest s ∷ tail s.confirmed = head_tail _ s.confirmed (search) in
    let self : bit (stands (oldest s).src (oldest s).slot (oldest s)) ≡ 1 = ap bit (stands_self (oldest s)) in
    let gone : (g : Place → ℕ) → g (oldest s) + tally g (taken (without_taken s)) ≡ tally g (taken s) = λ g. tally-without_taken g s (oldest s) (tail s.confirmed) e in
    record {
      sound = f;
      long = ltb-false (length out) (length (oldest s).text) (search);
      first = e;
      ordered = refl;
      waiting = refl;
      fewer = omega (arith, length-tally (taken s), length-tally (taken (without_taken s)), gone (λ p. 1));
      freed = omega (arith, f.once (oldest s).src (oldest s).slot, gone (λ q. bit (stands (oldest s).src (oldest s).slot q)));
    }

pub taken-facts : (s : State) (out : List ℕ) → (take s out).answer ≡ 0 → Takes s out (take s out).next
unfolding take_checks
taken-facts s out =
    take_cases s (λ r. r.answer ≡ 0 → Takes s out r.next) out (λ a r e. absurd (omega (arith, refused-above 0 r refl))) (λ h e. passed-takes s out h)
