-- Turns of a loop that tests each of 1 to n: after k turns, what is left to test decides.
use mathlib.Core.Bool.{Bool, true, false, ◌&&◌}
use mathlib.Core.Path.{◌≡◌, sym, ap, ◌∙◌}
use Prim.Native.Nat.{ℕ, suc, ◌+◌, ◌-◌, ◌≤◌, ◌<◌}
use native.Mathlib.Omega.{arith}
use native.Mathlib.Numerals.{add-one}
use Rattle.rules.specs.Maps.{every}

module _ (p : ℕ → Bool) (n k : ℕ) where
  left : k < n → every (k + 1) (n - k) p ≡ p (k + 1) && every (k + 1 + 1) (n - (k + 1)) p
  left h =
      ap (λ (m : ℕ). every (k + 1) m p) (let e : n - k ≡ suc (n - (k + 1)) = omega arith in e)
      ∙ ap (λ (i : ℕ). p (k + 1) && every i (n - (k + 1)) p) (sym (add-one (k + 1)))

  pub every_more : k < n → p (k + 1) ≡ true → {b : Bool} → every (k + 1) (n - k) p ≡ b → every (k + 1 + 1) (n - (k + 1)) p ≡ b
  every_more h t e = sym (left h ∙ ap (λ (x : Bool). x && every (k + 1 + 1) (n - (k + 1)) p) t) ∙ e

  pub every-stop : k < n → p (k + 1) ≡ false → {b : Bool} → every (k + 1) (n - k) p ≡ b → false ≡ b
  every-stop h t e = sym (left h ∙ ap (λ (x : Bool). x && every (k + 1 + 1) (n - (k + 1)) p) t) ∙ e

  pub every-end : n ≤ k → {b : Bool} → every (k + 1) (n - k) p ≡ b → true ≡ b
  every-end h e = sym (ap (λ (m : ℕ). every (k + 1) m p) (let z : n - k ≡ 0 = omega arith in z)) ∙ e
