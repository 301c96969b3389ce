-- Opening gives a sound unit with answer 0, or the closed unit, which is not sound, with answer 2.
use mathlib.Core.Bool.{true, false, ◌&&◌}
use mathlib.Core.List.Memᴰ
use mathlib.Core.Path.{◌≡◌, refl, ◌∙◌}
use Prim.Native.Nat.{ℕ, ◌≤◌}
use native.Mathlib.Omega.{arith}
use lib.Dec.{leb}
use borrow.Author.Tests.{leb-true, not-false}
use Rattle.rules.specs.Maps.{between, units, every, least}
use Rattle.rules.specs.Message.{last}
use Rattle.rules.specs.State.{State, min_al, opened, closed}
use Rattle.rules.specs.Sound.{ranges_fit, sound}
use Rattle.rules.specs.Calls.{Opened, open_checks, opening}
use Rattle.rules.proofs.MapsLaws.{and_left, and_right, between-low, between-high, units_in, least-le, least-glb, every-at}
use Rattle.rules.proofs.CallsLaws.{Passed}
use Rattle.rules.proofs.CallCases.{open-cases}
use Rattle.rules.proofs.SoundLaws.{Ranges, Sound, ranges_fit-facts, facts-sound}

-- what can be opened
pub record Opens (i n w cid : ℕ) (first : ℕ → ℕ) : Type 0 where
  pub ranges : Ranges i n w
  pub group : cid ≤ last
  pub low : (k : ℕ) → 1 ≤ k → k ≤ n → 1 ≤ first k
  pub high : (k : ℕ) → 1 ≤ k → k ≤ n → first k ≤ last

pub passed-opens : (i n w cid : ℕ) (first : ℕ → ℕ) → Passed (open_checks i n w cid first) → Opens i n w cid first
unfolding open_checks
passed-opens i n w cid first h =
    let all : ranges_fit i n w && leb cid last && every 1 n (λ k. between 1 last (first k)) ≡ true = not-false _ h.0 in
    let firsts : every 1 n (λ k. between 1 last (first k)) ≡ true = search (and_left, and_right) in
    record {
      ranges = ranges_fit-facts i n w (search (and_left, and_right));
      group = leb-true cid last (search (and_left, and_right));
      low = λ k a b. between-low 1 last (first k) (every-at 1 n (λ k. between 1 last (first k)) firsts k a (omega arith));
      high = λ k a b. between-high 1 last (first k) (every-at 1 n (λ k. between 1 last (first k)) firsts k a (omega arith));
    }

module _ (i n w cid : ℕ) (first : ℕ → ℕ) (f : Opens i n w cid first) where
  -- each number of row k is unit k's first
  row : (k j : ℕ) → 1 ≤ k → k ≤ n → 1 ≤ j → j ≤ n → units n (λ j. units n first k) j ≡ first k
  row k j a b c d = units_in n (λ j. units n first k) j c d ∙ units_in n first k a b

  own : units n first i ≡ first i
  own = units_in n first i f.ranges.i-low f.ranges.i-high

  least-own : least n (units n (λ j. units n first i)) ≡ first i
  least-own =
      let r = f.ranges in
      omega (
        arith,
        least-le n (units n (λ j. units n first i)) i r.i-low r.i-high,
        row i i r.i-low r.i-high r.i-low r.i-high,
        least-glb n (units n (λ j. units n first i)) (first i) (omega arith) (λ j a b. omega (arith, row i j r.i-low r.i-high a b)),
      )

  pub opened-sound : Sound (opened i n w cid first)
  unfolding opened min_al
  opened-sound =
      record {
        ranges = f.ranges;
        nexts = record {
          seq = f.low i f.ranges.i-low f.ranges.i-high;
          req = λ k a b. omega (arith, units_in n first k a b, f.low k a b);
          heard = λ k a b. omega (arith, units_in n first k a b, f.low k a b);
          al = λ k j a b c d. omega (arith, row k j a b c d, f.low k a b);
          pal = λ k j a b c d. omega (arith, row k j a b c d, f.low k a b);
        };
        own = own;
        window = record { low = omega (arith, least-own); high = omega (arith, least-own) };
        held = λ p m. absurd (Memᴰ.not-nil m);
        kept = record { short = λ x a b. absurd (omega (arith, least-own)); long = λ x a b. absurd (omega (arith, least-own)) };
        once = λ j k. omega arith;
      }

pub closed-unsound : sound closed ≡ false
unfolding sound ranges_fit between closed opened
closed-unsound = refl

pub data Opening : Opened → Type 0 where
  opens : (s : State) → sound s ≡ true → Opening (record { answer = 0; unit = s })
  refuses : Opening (record { answer = 2; unit = closed })

pub opening-sound : (i n w cid : ℕ) (first : ℕ → ℕ) → Opening (opening i n w cid first)
opening-sound i n w cid first =
    open-cases Opening i n w cid first refuses
    (λ p. opens (opened i n w cid first) (facts-sound (opened i n w cid first) (opened-sound i n w cid first (passed-opens i n w cid first p))))
