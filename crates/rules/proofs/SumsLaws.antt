-- Sums over a range of numbers, and counting by rows or by columns.
use mathlib.Core.Bool.{Bool}
use mathlib.Core.List.{List, [], ◌∷◌, Memᴰ}
use mathlib.Core.Path.{◌≡◌, refl}
use Prim.Native.Nat.{ℕ, zero, suc, ◌+◌, ◌*◌, ◌≤◌, ◌<◌}
use native.Mathlib.Omega.{arith}
use native.Mathlib.Nat.{le_refl}
use lib.Dec.{eqb}
use Rattle.rules.specs.State.{Place}
use Rattle.rules.proofs.MapsLaws.{Eq?, same, other, eq?}
use Rattle.rules.proofs.PlacesLaws.{bit, tally}

-- the sum of f over the m numbers from a on
abbrev pub sum : ℕ → ℕ → (ℕ → ℕ) → ℕ
sum a zero f = 0
sum a (suc m) f = f a + sum (suc a) m f

pub sum-plus : (a m : ℕ) (f g : ℕ → ℕ) → sum a m (λ k. f k + g k) ≡ sum a m f + sum a m g
sum-plus a zero f g = refl
sum-plus a (suc m) f g = omega (arith, sum-plus (suc a) m f g)

pub sum_same : (a m b : ℕ) → sum a m (λ k. b) ≡ m * b
sum_same a zero b = omega arith
sum_same a (suc m) b = omega (arith, sum_same (suc a) m b)

pub sum-le : (a m : ℕ) (f g : ℕ → ℕ) → ((k : ℕ) → a ≤ k → k < a + m → f k ≤ g k) → sum a m f ≤ sum a m g
sum-le a zero f g h = omega arith
sum-le a (suc m) f g h = omega (arith, sum-le (suc a) m f g (λ k x y. h k (omega arith) (omega arith)), h a (le_refl a) (omega arith))

-- each of them is at most b
pub sum-most : (a m : ℕ) (f : ℕ → ℕ) (b : ℕ) → ((k : ℕ) → a ≤ k → k < a + m → f k ≤ b) → sum a m f ≤ m * b
sum-most a m f b h = omega (arith, sum_same a m b, sum-le a m f (λ k. b) h)

-- x is one of them at most once, and exactly once where it is in their range
pub sum_past : (a m x : ℕ) → x < a → sum a m (λ k. bit (eqb k x)) ≡ 0
sum_past a zero x h = refl
sum_past a (suc m) x h = go (eq? a x) (sum_past (suc a) m x (omega arith))
  where
    go : {t : Bool} → Eq? a x t → sum (suc a) m (λ k. bit (eqb k x)) ≡ 0 → bit t + sum (suc a) m (λ k. bit (eqb k x)) ≡ 0
    go (same e) ih = absurd (omega arith)
    go (other d) ih = omega arith

pub sum-hit : (a m x : ℕ) → sum a m (λ k. bit (eqb k x)) ≤ 1
sum-hit a zero x = omega arith
sum-hit a (suc m) x = go (eq? a x) (sum-hit (suc a) m x)
  where
    go : {t : Bool} → Eq? a x t → sum (suc a) m (λ k. bit (eqb k x)) ≤ 1 → bit t + sum (suc a) m (λ k. bit (eqb k x)) ≤ 1
    go (same e) ih = omega (arith, sum_past (suc a) m x (omega arith))
    go (other d) ih = omega arith

pub sum-once : (a m x : ℕ) → a ≤ x → x < a + m → sum a m (λ k. bit (eqb k x)) ≡ 1
sum-once a zero x h b = absurd (omega arith)
sum-once a (suc m) x h b = go (eq? a x) (λ y. sum-once (suc a) m x y (omega arith))
  where
    go : {t : Bool} → Eq? a x t → (suc a ≤ x → sum (suc a) m (λ k. bit (eqb k x)) ≡ 1) → bit t + sum (suc a) m (λ k. bit (eqb k x)) ≡ 1
    go (same e) ih = omega (arith, sum_past (suc a) m x (omega arith))
    go (other d) ih = omega (arith, ih (omega arith))

-- ---- by rows or by columns

pub sum-tally : (a m : ℕ) (f : ℕ → Place → ℕ) (l : List Place) → sum a m (λ k. tally (f k) l) ≡ tally (λ p. sum a m (λ k. f k p)) l
sum-tally a m f [] = omega (arith, sum_same a m 0)
sum-tally a m f (p ∷ l) = omega (arith, sum-plus a m (λ k. f k p) (λ k. tally (f k) l), sum-tally a m f l)

pub tally-le : (f g : Place → ℕ) (l : List Place) → ((p : Place) → Memᴰ p l → f p ≤ g p) → tally f l ≤ tally g l
tally-le f g [] h = omega arith
tally-le f g (p ∷ l) h = omega (arith, h p (Memᴰ.head refl), tally-le f g l (λ q m. h q (Memᴰ.tail m)))
