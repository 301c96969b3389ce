-- Tests of each of some numbers in a row: compared, taken together, and made of a part of a list.
use mathlib.Core.Bool.{Bool, true, false, ◌&&◌}
use mathlib.Core.List.{List}
use mathlib.Core.Path.{◌≡◌, refl, sym, ap, ◌∙◌}
use Prim.Native.Nat.{ℕ, zero, suc, ◌+◌, ◌-◌, ◌≤◌, ◌<◌}
use native.Mathlib.Omega.{arith}
use native.Mathlib.Nat.{add-zero}
use lib.Dec.{ltb}
use lib.ListN.{get_or, drop}
use Rattle.rules.specs.Maps.{at, every}
use Rattle.rules.specs.Message.{no_zero}
use Rattle.tables.specs.Rows.{part, none_zero}
use Rattle.tables.proofs.GridLaws.{at_from}

-- p from a on, and q from b on, agree
pub every-same : (a b m : ℕ) (p q : ℕ → Bool) → ((i : ℕ) → i < m → p (a + i) ≡ q (b + i)) → every a m p ≡ every b m q
every-same a b zero p q h = refl
every-same a b (suc m) p q h =
    ap (λ (t : Bool). t && every (suc a) m p) (ap p (sym (add-zero a)) ∙ h 0 (omega arith) ∙ ap q (add-zero b))
    ∙ ap (λ (t : Bool). q b && t) (every-same (suc a) (suc b) m p q (λ i x. rest i x))
  where
    rest : (i : ℕ) → i < m → p (suc a + i) ≡ q (suc b + i)
    rest i x =
        ap p (let e : suc a + i ≡ a + suc i = omega arith in e)
        ∙ h (suc i) (omega arith)
        ∙ ap q (let e : b + suc i ≡ suc b + i = omega arith in e)

-- tests of the units that agree on 1 to n
pub every-units : (n : ℕ) (p q : ℕ → Bool) → ((k : ℕ) → 1 ≤ k → k ≤ n → p k ≡ q k) → every 1 n p ≡ every 1 n q
every-units n p q h = every-same 1 1 n p q (λ i x. h (1 + i) (omega arith) (omega arith))

pub every-both : (a m : ℕ) (p q : ℕ → Bool) → every a m (λ k. p k && q k) ≡ every a m p && every a m q
every-both a zero p q = refl
every-both a (suc m) p q = go (p a) (q a) (every-both (suc a) m p q)
  where
    x : Bool
    x = every (suc a) m p

    y : Bool
    y = every (suc a) m q

    none : (b : Bool) → false ≡ b && false
    none true = refl
    none false = refl

    go : (s t : Bool) → every (suc a) m (λ k. p k && q k) ≡ x && y → s && t && every (suc a) m (λ k. p k && q k) ≡ s && x && (t && y)
    go true true e = e
    go true false e = none x
    go false t e = refl

-- none of the n numbers from index a on is 0
pub no_zero-part : (l : List ℕ) (a n : ℕ) → no_zero (part l a n) ≡ none_zero n (at (drop a l))
unfolding none_zero
no_zero-part l a n =
    listed-every a n
    ∙ every-same a 1 n (λ i. ltb 0 (get_or l i 0)) (λ k. ltb 0 (at (drop a l) k))
    (λ i x. ap (ltb 0) (sym (at_from l a (1 + i) (omega arith) ∙ ap (λ (j : ℕ). get_or l (a + j) 0) (let e : 1 + i - 1 ≡ i = omega arith in e))))
  where
    listed-every : (a n : ℕ) → no_zero (part l a n) ≡ every a n (λ i. ltb 0 (get_or l i 0))
    listed-every a zero = refl
    listed-every a (suc n) = ap (λ (t : Bool). ltb 0 (get_or l a 0) && t) (listed-every (suc a) n)
