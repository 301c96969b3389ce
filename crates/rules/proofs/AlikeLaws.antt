-- Two lists of checks that refuse alike: what is decided by the one is what is decided by the other.
use mathlib.Core.Bool.{Bool, true, false, cond}
use mathlib.Core.List.{List, [], ◌∷◌}
use mathlib.Core.Path.{◌≡◌, refl, ap, ◌∙◌}
use Prim.Native.Nat.{ℕ}
use Rattle.rules.specs.Calls.{Check, decide}
use Rattle.rules.proofs.CallsLaws.{Passed}

-- the answers are the same, and so is each test once those before it have passed
abbrev pub Alike : List Check → List Check → Type 0
Alike [] [] = Unit {0}
Alike [] (d ∷ m) = ⊥
Alike (c ∷ l) [] = ⊥
Alike (c ∷ l) (d ∷ m) = (c.holds ≡ d.holds) × ((c.answer ≡ d.answer) × (c.holds ≡ false → Alike l m))

-- f says what a result of the one means among those of the other
module _ {A B : Type 0} (f : A → B) (refused : ℕ → A) (done : A) (refused' : ℕ → B) (done' : B) (same : (a : ℕ) → f (refused a) ≡ refused' a) where
  pub decide-alike : (l m : List Check) → Alike l m → (Passed l → f done ≡ done') → f (decide l refused done) ≡ decide m refused' done'
  decide-alike [] [] x d = d tt
  decide-alike [] (e ∷ m) x d = absurd x
  decide-alike (c ∷ l) [] x d = absurd x
  decide-alike (c ∷ l) (e ∷ m) x d =
      go c.holds (λ z. decide-alike l m (x.1.1 z) (λ p. d (z, p)))
      ∙ ap (λ (t : Bool). cond t (refused' c.answer) (decide m refused' done')) x.0
      ∙ ap (λ (a : ℕ). cond e.holds (refused' a) (decide m refused' done')) x.1.0
    where
      go : (t : Bool) → (t ≡ false → f (decide l refused done) ≡ decide m refused' done') → f (cond t (refused c.answer) (decide l refused done)) ≡ cond t (refused' c.answer) (decide m refused' done')
      go true y = same c.answer
      go false y = y refl
