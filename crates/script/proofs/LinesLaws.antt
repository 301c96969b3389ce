-- Laws of the lines of a text: the same lines, found byte by byte.
use mathlib.Core.Bool.{Bool, true, false, cond}
use mathlib.Core.List.{List, [], ◌∷◌, ◌++◌, append-nil}
use mathlib.Core.Path.{◌≡◌, refl, sym, ap, ◌∙◌}
use Prim.Native.Nat.{ℕ, suc, ◌+◌, ◌<◌, ◌≤◌}
use native.Mathlib.Omega.{arith}
use lib.Dec.{eqb, ltb}
use lib.ListN.{length, length-append}
use lib.Seq.{append_snoc}
use borrow.Author.Tests.{lt-ltb}
use Rattle.rules.proofs.MapsLaws.{Lt?, lt, ge, lt?, Eq?, same, other, eq?}
use Rattle.std.specs.Prelude.{Option, Some, None, IfSome}
use Rattle.std.specs.List.{position_or_len}
use Rattle.std.proofs.lemmas.List.Recursion.{is_position_or_len}
use Rattle.script.specs.Lines.{onto, line_feed, lines, before, place_of, Found}

-- the lines of p and then l, where p is the line that is not ended yet
abbrev pub lines_from : List ℕ → List ℕ → List (List ℕ)
lines_from p [] = cond (ltb 0 (length p)) (p ∷ []) []
lines_from p (b ∷ l) = cond (eqb b line_feed) (p ∷ lines_from [] l) (lines_from (p ++ (b ∷ [])) l)

-- p, before the first of these lines
abbrev prefixed : List ℕ → List (List ℕ) → List (List ℕ)
prefixed p [] = cond (ltb 0 (length p)) (p ∷ []) []
prefixed p (x ∷ l) = (p ++ x) ∷ l

prefixed-nil : (l : List (List ℕ)) → prefixed [] l ≡ l
prefixed-nil [] = refl
prefixed-nil (x ∷ l) = refl

prefixed-snoc : (p : List ℕ) (b : ℕ) (l : List (List ℕ)) → prefixed (p ++ (b ∷ [])) l ≡ prefixed p (onto b l)
prefixed-snoc p b [] = rw (length-append p (b ∷ []), lt-ltb 0 (length p + 1) (omega arith))
prefixed-snoc p b (x ∷ l) = ap (λ (y : List ℕ). y ∷ l) (append_snoc p b x)

lines_from-prefixed : (l p : List ℕ) → lines_from p l ≡ prefixed p (lines l)
lines_from-prefixed [] p = refl
lines_from-prefixed (b ∷ l) p = go (eq? b line_feed) (lines_from-prefixed l)
  where
    go : {t : Bool} → Eq? b line_feed t → ((q : List ℕ) → lines_from q l ≡ prefixed q (lines l))
        → cond t (p ∷ lines_from [] l) (lines_from (p ++ (b ∷ [])) l) ≡ prefixed p (cond t ([] ∷ lines l) (onto b (lines l)))
    go (same e) ih = rw (append-nil p, ih [], prefixed-nil (lines l))
    go (other e) ih = ih (p ++ (b ∷ [])) ∙ prefixed-snoc p b (lines l)

pub lines_from-nil : (l : List ℕ) → lines_from [] l ≡ lines l
lines_from-nil l = lines_from-prefixed l [] ∙ prefixed-nil (lines l)

-- ---- looking for a byte

pub none≢some : {A : Type 0} {x : A} → ◌≡◌ {A = Option A} None (Some x) → ⊥
none≢some e =
    let z : ◌≡◌ {A = ℕ} 0 1 = cc in
    omega arith

pub length_before : (c : ℕ) (l : List ℕ) → length (before c l) ≤ length l
length_before c [] = omega arith
length_before c (b ∷ l) = go (eqb b c) (length_before c l)
  where
    go : (t : Bool) → length (before c l) ≤ length l → length (cond t [] (b ∷ before c l)) ≤ suc (length l)
    go true h = omega arith
    go false h = omega arith

-- `position` answers this place
length_before-position : (c : ℕ) (l : List ℕ) → length (before c l) ≡ position_or_len (λ b. eqb b c) l
length_before-position c = is_position_or_len (λ l. length (before c l)) (λ b. eqb b c) refl (λ b l. go b l (eqb b c))
  where
    go : (b : ℕ) (l : List ℕ) (t : Bool) → length (cond t [] (b ∷ before c l)) ≡ cond t 0 (1 + length (before c l))
    go b l true = refl
    go b l false = omega arith

module _ (s : List ℕ) (c : ℕ) where
  place-cases : (P : Option ℕ → Type 0) → (length (before c s) < length s → P (Some (length (before c s))))
      → (length (before c s) ≡ length s → P None) → P (place_of c s)
  unfolding place_of
  place-cases P some none = go (lt? (length (before c s)) (length s))
    where
      go : {t : Bool} → Lt? (length (before c s)) (length s) t → P (cond t (Some (length (before c s))) None)
      go (lt h) = some h
      go (ge h) = none (omega (arith, length_before c s))

  pub found_is : (r : Option ℕ)
      → r ≡ cond (ltb (position_or_len (λ b. eqb b c) s) (length s)) (Some (position_or_len (λ b. eqb b c) s)) None → Found s c r
  unfolding place_of
  found_is r e =
      let place : r ≡ place_of c s = rw (length_before-position c s) e in
      record { place = place; within = rw place (place-cases (λ r. IfSome r (λ i. i < length s)) (λ h. h) (λ h. tt)) }

  pub found-none : Found s c None → length (before c s) ≡ length s
  found-none f = place-cases (λ r. None ≡ r → length (before c s) ≡ length s) (λ h e. absurd (none≢some e)) (λ h e. h) f.place

  pub found_at : (i : ℕ) → Found s c (Some i) → (i ≡ length (before c s)) × (i < length s)
  found_at i f =
      place-cases (λ r. Some i ≡ r → (i ≡ length (before c s)) × (i < length s)) (λ h e. let q : i ≡ length (before c s) = cc in (q, omega arith))
      (λ h e. absurd (none≢some (sym e))) f.place
