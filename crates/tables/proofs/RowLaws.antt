-- Turns of the loops over a row.
use mathlib.Core.Logic.{◌≢◌}
use mathlib.Core.Path.{◌≡◌, refl, ap}
use mathlib.Core.List.{List}
use Prim.Native.Nat.{ℕ, zero, suc, ◌+◌, ◌-◌, min}
use native.Mathlib.Omega.{arith}
use native.Mathlib.Numerals.{add-one}
use lib.ListN.{get_or}
use Rattle.rules.specs.Maps.{at, least}

pub at_next : (a : List ℕ) (k : ℕ) → at a (k + 1) ≡ get_or a k 0
at_next a k = rw (add-one k)

pub at_before : (a : List ℕ) (k : ℕ) → k ≢ 0 → get_or a (k - 1) 0 ≡ at a k
at_before a zero h = absurd (h refl)
at_before a (suc k) h = ap (λ (i : ℕ). get_or a i 0) (let e : suc k - 1 ≡ k = omega arith in e)

pub least_more : (a : List ℕ) (k m x y : ℕ) → m ≡ least k (at a) → x ≡ get_or a k 0 → y ≡ min m x → y ≡ least (k + 1) (at a)
least_more a k m x y em ex ey = rw (add-one k) (omega arith)
