-- Lists of f of some numbers in a row: cut, joined, compared, and read from the front.
use mathlib.Core.Path.{◌≡◌, refl, sym, ap, ◌∙◌}
use mathlib.Core.List.{List, [], ◌∷◌, ◌++◌}
use Prim.Native.Nat.{ℕ, zero, suc, ◌+◌, ◌-◌, ◌≤◌, ◌<◌}
use native.Mathlib.Omega.{arith}
use native.Mathlib.Nat.{zero-add, add-zero}
use lib.ListN.{length, get_or, take, drop}
use lib.Seq.{take_at, drop_at}
use Rattle.rules.specs.Maps.{listed}
use Rattle.rules.proofs.MapsLaws.{length-listed}
use Rattle.tables.specs.Rows.{part}

pub length_part : (l : List ℕ) (a m : ℕ) → length (part l a m) ≡ m
length_part l a m = length-listed a m (λ i. get_or l i 0)

pub listed-append : (a m k : ℕ) (f : ℕ → ℕ) → listed a (m + k) f ≡ listed a m f ++ listed (a + m) k f
listed-append a zero k f =
    ap (λ (i : ℕ). listed a i f) (zero-add k)
    ∙ ap (λ (i : ℕ). listed i k f) (sym (add-zero a))
listed-append a (suc m) k f =
    ap (λ (i : ℕ). listed a i f) (let e : suc m + k ≡ suc (m + k) = omega arith in e)
    ∙ ap (λ (l : List ℕ). f a ∷ l)
    (listed-append (suc a) m k f
    ∙ ap (λ (i : ℕ). listed (suc a) m f ++ listed i k f) (let e : suc a + m ≡ a + suc m = omega arith in e))

pub listed-snoc : (a m : ℕ) (f : ℕ → ℕ) → listed a (m + 1) f ≡ listed a m f ++ (f (a + m) ∷ [])
listed-snoc a m f = listed-append a m 1 f

-- f from a on, and g from b on, agree
pub listed_same : (a b m : ℕ) (f g : ℕ → ℕ) → ((i : ℕ) → i < m → f (a + i) ≡ g (b + i)) → listed a m f ≡ listed b m g
listed_same a b zero f g h = refl
listed_same a b (suc m) f g h =
    ap (λ (x : ℕ). x ∷ listed (suc a) m f) (first ∙ h 0 (omega arith) ∙ sym last)
    ∙ ap (λ (l : List ℕ). g b ∷ l) (listed_same (suc a) (suc b) m f g (λ i x. rest i x))
  where
    first : f a ≡ f (a + 0)
    first = ap f (sym (add-zero a))

    last : g b ≡ g (b + 0)
    last = ap g (sym (add-zero b))

    rest : (i : ℕ) → i < m → f (suc a + i) ≡ g (suc b + i)
    rest i x =
        ap f (let e : suc a + i ≡ a + suc i = omega arith in e)
        ∙ h (suc i) (omega arith)
        ∙ ap g (let e : b + suc i ≡ suc b + i = omega arith in e)

-- the first of those that are left, and the others
pub listed-left : (f : ℕ → ℕ) (q r m k : ℕ) → r ≡ suc q → m ≡ suc k → listed q m f ≡ f q ∷ listed r k f
listed-left f q r m k e h = ap (λ (i : ℕ). listed q i f) h ∙ ap (λ (i : ℕ). f q ∷ listed i k f) (sym e)

pub listed-cut : (a k m : ℕ) (f : ℕ → ℕ) → k ≤ m → listed a m f ≡ listed a k f ++ listed (a + k) (m - k) f
listed-cut a k m f h = ap (λ (i : ℕ). listed a i f) (let e : m ≡ k + (m - k) = omega arith in e) ∙ listed-append a k (m - k) f

pub take-listed : (a k m : ℕ) (f : ℕ → ℕ) → k ≤ m → take k (listed a m f) ≡ listed a k f
take-listed a k m f h = ap (take k) (listed-cut a k m f h) ∙ take_at (listed a k f) (listed (a + k) (m - k) f) k (length-listed a k f)

pub drop-listed : (a k m : ℕ) (f : ℕ → ℕ) → k ≤ m → drop k (listed a m f) ≡ listed (a + k) (m - k) f
drop-listed a k m f h = ap (drop k) (listed-cut a k m f h) ∙ drop_at (listed a k f) (listed (a + k) (m - k) f) k (length-listed a k f)
