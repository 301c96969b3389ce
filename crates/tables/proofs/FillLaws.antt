-- Filling a list from its front: the first q entries are f of their index, the others as they were.
use mathlib.Core.Path.{◌≡◌, sym, ap, ◌∙◌}
use mathlib.Core.List.{List, [], ◌∷◌, ◌++◌, append_assoc, append-nil}
use Prim.Native.Nat.{ℕ, suc, ◌+◌, ◌≤◌, ◌<◌}
use native.Mathlib.Omega.{arith}
use native.Mathlib.Numerals.{add-one}
use native.Mathlib.Nat.{zero-add}
use lib.ListN.{length, get_or, drop, set, drop_of_length-le}
use lib.Seq.{drop-cons, set_at}
use Rattle.rules.specs.Maps.{listed}
use Rattle.rules.proofs.MapsLaws.{length-listed}
use Rattle.tables.proofs.ListedLaws.{listed-snoc}

module _ (t : List ℕ) (f : ℕ → ℕ) where
  abbrev pub filled : ℕ → List ℕ
  filled q = listed 0 q f ++ drop q t

  filled_more : (q : ℕ) → listed 0 q f ++ (f q ∷ drop (suc q) t) ≡ filled (q + 1)
  filled_more q =
      sym (append_assoc (listed 0 q f) (f q ∷ []) (drop (suc q) t))
      ∙ ap (λ (i : ℕ). (listed 0 q f ++ (f i ∷ [])) ++ drop (suc q) t) (sym (zero-add q))
      ∙ ap (λ (l : List ℕ). l ++ drop (suc q) t) (sym (listed-snoc 0 q f))
      ∙ ap (λ (i : ℕ). listed 0 (q + 1) f ++ drop i t) (sym (add-one q))

  -- turns of a loop that has come to index q, and its end
  pub filled-set : (q x : ℕ) → q < length t → x ≡ f q → {l : List ℕ} → l ≡ filled q → set l q x ≡ filled (q + 1)
  filled-set q x h e i =
      ap (λ (l : List ℕ). set l q x) i
      ∙ ap (λ (l : List ℕ). set (listed 0 q f ++ l) q x) (drop-cons t q 0 h)
      ∙ set_at (listed 0 q f) (get_or t q 0) (drop (suc q) t) x q (length-listed 0 q f)
      ∙ ap (λ (y : ℕ). listed 0 q f ++ (y ∷ drop (suc q) t)) e
      ∙ filled_more q

  pub filled-skip : (q : ℕ) → q < length t → get_or t q 0 ≡ f q → {l : List ℕ} → l ≡ filled q → l ≡ filled (q + 1)
  filled-skip q h e i =
      i ∙ ap (λ (l : List ℕ). listed 0 q f ++ l) (drop-cons t q 0 h ∙ ap (λ (y : ℕ). y ∷ drop (suc q) t) e) ∙ filled_more q

  pub filled-end : (n q : ℕ) → length t ≡ n → q ≡ n → {l : List ℕ} → l ≡ filled q → l ≡ listed 0 n f
  filled-end n q h e i =
      i
      ∙ ap (λ (k : ℕ). listed 0 k f ++ drop k t) e
      ∙ ap (λ (l : List ℕ). listed 0 n f ++ l) (drop_of_length-le t (let all : length t ≤ n = omega arith in all))
      ∙ append-nil (listed 0 n f)
