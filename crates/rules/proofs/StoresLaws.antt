-- Runs of stores: `sets d at l` stores l from `at` on.
use mathlib.Core.List.{List, [], ◌∷◌, ◌++◌}
use mathlib.Core.Path.{◌≡◌, refl, sym, ap, ◌∙◌}
use Prim.Native.Nat.{ℕ, zero, suc, ◌+◌, ◌≤◌, ◌<◌}
use native.Mathlib.Nat.{add-zero}
use native.Mathlib.Omega.{arith}
use lib.ListN.{length, get_or, take, drop, set, length-set}
use lib.Seq.{sets, sets-eq, set_comm, set_out, drop-cons, drop-length}
use Rattle.rules.specs.Calls.{written}

pub sets-++ : (d : List ℕ) (at : ℕ) (l r : List ℕ) → sets (sets d at l) (at + length l) r ≡ sets d at (l ++ r)
sets-++ d at [] r = rw add-zero
sets-++ d at (x ∷ l) r =
    let place : at + suc (length l) ≡ suc at + length l = omega arith in
    rw place (sets-++ (set d at x) (suc at) l r)

-- a store past a run may come before it
pub set-sets : (d : List ℕ) (at : ℕ) (l : List ℕ) (i x : ℕ) → at + length l ≤ i → set (sets d at l) i x ≡ sets (set d i x) at l
set-sets d at [] i x h = refl
set-sets d at (y ∷ l) i x h =
    set-sets (set d at y) (suc at) l i x (omega arith)
    ∙ ap (λ e. sets e (suc at) l) (set_comm d at i y x (λ e. omega arith))

-- past the end nothing is stored
module _ {A : Type 0} where
  pub sets-past : (d : List A) (at : ℕ) (l : List A) → length d ≤ at → sets d at l ≡ d
  sets-past d at [] h = refl
  sets-past d at (x ∷ l) h =
      ap (λ (e : List A). sets e (suc at) l) (set_out d at x h) ∙ sets-past d (suc at) l (omega (arith, length-set d at x))

  pub sets-front : (d : List A) (at : ℕ) (l : List A) (n : ℕ) → length d ≤ at + n → sets d at (take n l) ≡ sets d at l
  sets-front d at l zero h = sym (sets-past d at l (omega arith))
  sets-front d at [] (suc n) h = refl
  sets-front d at (x ∷ l) (suc n) h = sets-front (set d at x) (suc at) l n (omega (arith, length-set d at x))

-- stores from the front leave what the rules say was written
pub sets-written : (d l : List ℕ) → length l ≤ length d → sets d 0 l ≡ written d l
sets-written d l h =
    let place : 0 + length l ≡ length l = omega arith in
    sets-eq l d 0 (omega arith) ∙ rw place

-- ---- a loop that stores the numbers of l one after the other from `at` on: i are stored

pub record Stored (d₀ : List ℕ) (at : ℕ) (l d : List ℕ) (i : ℕ) : Type 0 where
  pub count : i ≤ length l
  pub long : length d ≡ length d₀
  pub rest : sets d (at + i) (drop i l) ≡ sets d₀ at l

pub none-stored : (d : List ℕ) (at : ℕ) (l : List ℕ) → Stored d at l d 0
none-stored d at l = record { count = omega arith; long = refl; rest = rw add-zero }

module _ (d₀ : List ℕ) (at : ℕ) (l d : List ℕ) (i : ℕ) (s : Stored d₀ at l d i) where
  pub one-stored : i < length l → Stored d₀ at l (set d (at + i) (get_or l i 0)) (i + 1)
  one-stored h =
      let place : at + (i + 1) ≡ suc (at + i) = omega arith in
      let next : i + 1 ≡ suc i = omega arith in
      record {
        count = omega arith;
        long = length-set d (at + i) (get_or l i 0) ∙ s.long;
        rest = rw (place, next) (ap (sets d (at + i)) (sym (drop-cons l i 0 h)) ∙ s.rest);
      }

  pub all-stored : length l ≤ i → d ≡ sets d₀ at l
  all-stored h =
      let e : i ≡ length l = omega (arith, s.count) in
      ap (λ r. sets d (at + i) r) (sym (ap (λ k. drop k l) e ∙ drop-length l)) ∙ s.rest
