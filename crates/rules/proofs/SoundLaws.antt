-- Soundness as named facts: what each clause of `sound` says, and that these facts say the clause.
use mathlib.Core.Bool.{Bool, true, ◌&&◌}
use mathlib.Core.List.{List, [], ◌∷◌, Memᴰ}
use mathlib.Core.Path.{◌≡◌, refl}
use Prim.Native.Nat.{ℕ, zero, suc, ◌+◌, ◌-◌, ◌*◌, ◌≤◌, ◌<◌}
use native.Mathlib.Omega.{arith}
use lib.Dec.{eqb, leb, ltb}
use lib.ListN.{length}
use borrow.Author.Tests.{ltb-true, leb-true, eqb-true, lt-ltb, le-leb, eq-eqb}
use Rattle.rules.specs.Maps.{between, all, at, every}
use Rattle.rules.specs.Message.{last, no_zero}
use Rattle.rules.specs.State.{Place, State, min_al, taken}
use Rattle.rules.specs.Sound.{ranges_fit, nexts_fit, window_fits, place_fits, kept_fit, sound}
use Rattle.rules.proofs.MapsLaws.{and_left, and_right, and_intro, between-low, between-high, is-between, every-at, every-intro}
use Rattle.rules.proofs.PlacesLaws.{all-mem, mem-all, count, once-count, count-once}

-- ---- the facts, clause by clause

pub record Ranges (i n w : ℕ) : Type 0 where
  pub n-low : 2 ≤ n
  pub n-high : n ≤ 8
  pub w-low : 2 ≤ w
  pub w-high : w ≤ 4
  pub i-low : 1 ≤ i
  pub i-high : i ≤ n

pub record Nexts (s : State) : Type 0 where
  pub seq : 0 < s.seq
  pub req : (k : ℕ) → 1 ≤ k → k ≤ s.n → 0 < s.req k
  pub heard : (k : ℕ) → 1 ≤ k → k ≤ s.n → 0 < s.heard k
  pub al : (k j : ℕ) → 1 ≤ k → k ≤ s.n → 1 ≤ j → j ≤ s.n → 0 < s.al k j
  pub pal : (k j : ℕ) → 1 ≤ k → k ≤ s.n → 1 ≤ j → j ≤ s.n → 0 < s.pal k j

pub record Window (s : State) : Type 0 where
  pub low : min_al s s.me ≤ s.seq
  pub high : s.seq ≤ min_al s s.me + s.w

-- what a message says keeps the frame limits, in a group of n units
pub record Within (n src seq : ℕ) (ack text : List ℕ) : Type 0 where
  pub src-low : 1 ≤ src
  pub src-high : src ≤ n
  pub seq-low : 0 < seq
  pub seq-high : seq < last
  pub count : length ack ≡ n
  pub acks : (k : ℕ) → 1 ≤ k → k ≤ n → 0 < at ack k
  pub short : length text ≤ 48

-- p is a stored message of a group of n units with window w
pub record Held (n w : ℕ) (p : Place) : Type 0 where
  pub slot : p.slot < 4 * w
  pub says : Within n p.src p.seq p.ack p.text

pub record Kept (s : State) : Type 0 where
  pub short : (x : ℕ) → min_al s s.me ≤ x → x < s.seq → 37 + 4 * s.n ≤ length (s.kept x)
  pub long : (x : ℕ) → min_al s s.me ≤ x → x < s.seq → length (s.kept x) ≤ 85 + 4 * s.n

pub record Sound (s : State) : Type 0 where
  pub ranges : Ranges s.me s.n s.w
  pub nexts : Nexts s
  pub own : s.req s.me ≡ s.seq
  pub window : Window s
  pub held : (p : Place) → Memᴰ p (taken s) → Held s.n s.w p
  pub kept : Kept s
  pub once : (j k : ℕ) → count j k (taken s) ≤ 1

-- ---- each clause both ways

pub no_zero-at : (l : List ℕ) → no_zero l ≡ true → (k : ℕ) → 1 ≤ k → k ≤ length l → 0 < at l k
no_zero-at [] h k a b = absurd (omega arith)
no_zero-at (x ∷ l) h zero a b = absurd (omega arith)
no_zero-at (x ∷ l) h (suc zero) a b = ltb-true 0 x (and_left (ltb 0 x) (no_zero l) h)
no_zero-at (x ∷ l) h (suc (suc k)) a b = no_zero-at l (and_right (ltb 0 x) (no_zero l) h) (suc k) (omega arith) (omega arith)

pub at-no_zero : (l : List ℕ) → ((k : ℕ) → 1 ≤ k → k ≤ length l → 0 < at l k) → no_zero l ≡ true
at-no_zero [] h = refl
at-no_zero (x ∷ l) h =
    and_intro (ltb 0 x) (no_zero l) (lt-ltb 0 x (h 1 (omega arith) (omega arith))) (at-no_zero l tails)
  where
    tails : (k : ℕ) → 1 ≤ k → k ≤ length l → 0 < at l k
    tails zero a b = absurd (omega arith)
    tails (suc k) a b = h (suc (suc k)) (omega arith) (omega arith)

pub ranges_fit-facts : (i n w : ℕ) → ranges_fit i n w ≡ true → Ranges i n w
unfolding ranges_fit
ranges_fit-facts i n w h =
    let a : between 2 8 n ≡ true = search (and_left, and_right) in
    let b : between 2 4 w ≡ true = search (and_left, and_right) in
    let c : between 1 n i ≡ true = search (and_left, and_right) in
    record {
      n-low = between-low 2 8 n a;
      n-high = between-high 2 8 n a;
      w-low = between-low 2 4 w b;
      w-high = between-high 2 4 w b;
      i-low = between-low 1 n i c;
      i-high = between-high 1 n i c;
    }

pub facts-ranges_fit : (i n w : ℕ) → Ranges i n w → ranges_fit i n w ≡ true
unfolding ranges_fit
facts-ranges_fit i n w r =
    and_intro (between 2 8 n && between 2 4 w) (between 1 n i)
    (and_intro (between 2 8 n) (between 2 4 w) (is-between 2 8 n r.n-low r.n-high) (is-between 2 4 w r.w-low r.w-high))
    (is-between 1 n i r.i-low r.i-high)

-- the tests of `nexts_fit` on one unit, and on two
abbrev one_next : State → ℕ → Bool
one_next s k = ltb 0 (s.req k) && ltb 0 (s.heard k)

abbrev two_next : State → ℕ → ℕ → Bool
two_next s k j = ltb 0 (s.al k j) && ltb 0 (s.pal k j)

pub nexts_fit-facts : (s : State) → nexts_fit s ≡ true → Nexts s
unfolding nexts_fit
nexts_fit-facts s h =
    record {
      seq = ltb-true 0 s.seq (search (and_left, and_right));
      req = λ k a b. ltb-true 0 (s.req k) (and_left (ltb 0 (s.req k)) (ltb 0 (s.heard k)) (one k a b));
      heard = λ k a b. ltb-true 0 (s.heard k) (and_right (ltb 0 (s.req k)) (ltb 0 (s.heard k)) (one k a b));
      al = λ k j a b c d. ltb-true 0 (s.al k j) (and_left (ltb 0 (s.al k j)) (ltb 0 (s.pal k j)) (two k j a b c d));
      pal = λ k j a b c d. ltb-true 0 (s.pal k j) (and_right (ltb 0 (s.al k j)) (ltb 0 (s.pal k j)) (two k j a b c d));
    }
  where
    one : (k : ℕ) → 1 ≤ k → k ≤ s.n → one_next s k ≡ true
    one k a b = every-at 1 s.n (one_next s) (search (and_left, and_right)) k a (omega arith)

    row : (k : ℕ) → 1 ≤ k → k ≤ s.n → every 1 s.n (two_next s k) ≡ true
    row k a b = every-at 1 s.n (λ k. every 1 s.n (two_next s k)) (search (and_left, and_right)) k a (omega arith)

    two : (k j : ℕ) → 1 ≤ k → k ≤ s.n → 1 ≤ j → j ≤ s.n → two_next s k j ≡ true
    two k j a b c d = every-at 1 s.n (two_next s k) (row k a b) j c (omega arith)

pub facts-nexts_fit : (s : State) → Nexts s → nexts_fit s ≡ true
unfolding nexts_fit
facts-nexts_fit s f =
    and_intro (ltb 0 s.seq && every 1 s.n (one_next s)) (every 1 s.n (λ k. every 1 s.n (two_next s k)))
    (and_intro (ltb 0 s.seq) (every 1 s.n (one_next s)) (lt-ltb 0 s.seq f.seq)
    (every-intro 1 s.n (one_next s) (λ k a b. one k a (omega arith))))
    (every-intro 1 s.n (λ k. every 1 s.n (two_next s k)) (λ k a b. every-intro 1 s.n (two_next s k) (λ j c d. two k j a (omega arith) c (omega arith))))
  where
    one : (k : ℕ) → 1 ≤ k → k ≤ s.n → one_next s k ≡ true
    one k a b = and_intro (ltb 0 (s.req k)) (ltb 0 (s.heard k)) (lt-ltb 0 (s.req k) (f.req k a b)) (lt-ltb 0 (s.heard k) (f.heard k a b))

    two : (k j : ℕ) → 1 ≤ k → k ≤ s.n → 1 ≤ j → j ≤ s.n → two_next s k j ≡ true
    two k j a b c d = and_intro (ltb 0 (s.al k j)) (ltb 0 (s.pal k j)) (lt-ltb 0 (s.al k j) (f.al k j a b c d)) (lt-ltb 0 (s.pal k j) (f.pal k j a b c d))

pub window_fits-facts : (s : State) → window_fits s ≡ true → Window s
unfolding window_fits
window_fits-facts s h =
    record { low = between-low (min_al s s.me) (min_al s s.me + s.w) s.seq h; high = between-high (min_al s s.me) (min_al s s.me + s.w) s.seq h }

pub facts-window_fits : (s : State) → Window s → window_fits s ≡ true
unfolding window_fits
facts-window_fits s f = is-between (min_al s s.me) (min_al s s.me + s.w) s.seq f.low f.high

pub place_fits-facts : (s : State) (p : Place) → place_fits s p ≡ true → Held s.n s.w p
unfolding place_fits
place_fits-facts s p h =
    let src : between 1 s.n p.src ≡ true = search (and_left, and_right) in
    let long : eqb (length p.ack) s.n ≡ true = search (and_left, and_right) in
    record {
      slot = ltb-true p.slot (4 * s.w) (search (and_left, and_right));
      says = record {
        src-low = between-low 1 s.n p.src src;
        src-high = between-high 1 s.n p.src src;
        seq-low = ltb-true 0 p.seq (search (and_left, and_right));
        seq-high = ltb-true p.seq last (search (and_left, and_right));
        count = eqb-true (length p.ack) s.n long;
        acks = λ k a b. no_zero-at p.ack (search (and_left, and_right)) k a (omega (arith, eqb-true (length p.ack) s.n long));
        short = leb-true (length p.text) 48 (search (and_left, and_right));
      };
    }

pub facts-place_fits : (s : State) (p : Place) → Held s.n s.w p → place_fits s p ≡ true
unfolding place_fits
facts-place_fits s p h =
    let f = h.says in
    let src : between 1 s.n p.src ≡ true = is-between 1 s.n p.src f.src-low f.src-high in
    let slot : ltb p.slot (4 * s.w) ≡ true = lt-ltb p.slot (4 * s.w) h.slot in
    let low : ltb 0 p.seq ≡ true = lt-ltb 0 p.seq f.seq-low in
    let high : ltb p.seq last ≡ true = lt-ltb p.seq last f.seq-high in
    let long : eqb (length p.ack) s.n ≡ true = eq-eqb (length p.ack) s.n f.count in
    let acks : no_zero p.ack ≡ true = at-no_zero p.ack (λ k a b. f.acks k a (omega (arith, f.count))) in
    let text : leb (length p.text) 48 ≡ true = le-leb (length p.text) 48 f.short in
    rw (src, slot, low, high, long, acks, text)

pub kept_fit-facts : (s : State) → kept_fit s ≡ true → Kept s
unfolding kept_fit
kept_fit-facts s h =
    record {
      short = λ x a b. between-low (37 + 4 * s.n) (85 + 4 * s.n) (length (s.kept x)) (fits x a b);
      long = λ x a b. between-high (37 + 4 * s.n) (85 + 4 * s.n) (length (s.kept x)) (fits x a b);
    }
  where
    fits : (x : ℕ) → min_al s s.me ≤ x → x < s.seq → between (37 + 4 * s.n) (85 + 4 * s.n) (length (s.kept x)) ≡ true
    fits x a b =
        every-at (min_al s s.me) (s.seq - min_al s s.me) (λ x. between (37 + 4 * s.n) (85 + 4 * s.n) (length (s.kept x))) h x a (omega arith)

pub facts-kept_fit : (s : State) → Kept s → kept_fit s ≡ true
unfolding kept_fit
facts-kept_fit s f =
    every-intro (min_al s s.me) (s.seq - min_al s s.me) (λ x. between (37 + 4 * s.n) (85 + 4 * s.n) (length (s.kept x)))
    (λ x a b.
    let c : x < s.seq = omega arith in
    is-between (37 + 4 * s.n) (85 + 4 * s.n) (length (s.kept x)) (f.short x a c) (f.long x a c))

-- ---- the whole

pub sound-facts : (s : State) → sound s ≡ true → Sound s
unfolding sound
sound-facts s h =
    let places : all (place_fits s) (taken s) ≡ true = search (and_left, and_right) in
    record {
      ranges = ranges_fit-facts s.me s.n s.w (search (and_left, and_right));
      nexts = nexts_fit-facts s (search (and_left, and_right));
      own = eqb-true (s.req s.me) s.seq (search (and_left, and_right));
      window = window_fits-facts s (search (and_left, and_right));
      held = λ p m. place_fits-facts s p (all-mem (place_fits s) places m);
      kept = kept_fit-facts s (search (and_left, and_right));
      once = once-count (taken s) (search (and_left, and_right));
    }

pub facts-sound : (s : State) → Sound s → sound s ≡ true
unfolding sound
facts-sound s f =
    let ranges = facts-ranges_fit s.me s.n s.w f.ranges in
    let nexts = facts-nexts_fit s f.nexts in
    let own = eq-eqb (s.req s.me) s.seq f.own in
    let window = facts-window_fits s f.window in
    let places = mem-all (place_fits s) (taken s) (λ p m. facts-place_fits s p (f.held p m)) in
    let kept = facts-kept_fit s f.kept in
    rw (ranges, nexts, own, window, places, kept) (count-once (taken s) f.once)
