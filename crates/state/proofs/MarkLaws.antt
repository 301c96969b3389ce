-- A pass over places that marks each: each fits and none was marked before exactly where each fits and none stands twice.
use mathlib.Core.Bool.{Bool, true, false, not, ◌&&◌, ◌||◌, and-false}
use mathlib.Core.List.{List, [], ◌∷◌}
use mathlib.Core.Path.{◌≡◌, refl, sym, ap, subst, ◌∙◌}
use Prim.Native.Nat.{ℕ, zero, suc, ◌+◌, ◌-◌, ◌≤◌, ◌<◌}
use native.Mathlib.Omega.{arith}
use lib.ListN.{length, get_or, set, replicate, length-set}
use lib.Seq.{get_or-set_same, get_or-set_other}
use Rattle.rules.specs.Maps.{all, among, listed}
use Rattle.rules.proofs.MapsLaws.{Eq?, same, other, eq?}
use Rattle.tables.proofs.ListedLaws.{listed-left}
use Rattle.state.specs.Soundness.{none_twice}

-- the rest of the pass: each of the list fits and is not marked, and is marked for those after it
abbrev pub passes : (ℕ → Bool) → List Bool → List ℕ → Bool
passes fits marks [] = true
passes fits marks (p ∷ l) = fits p && not (get_or marks p false) && passes fits (set marks p true) l

abbrev unmarked : List Bool → List ℕ → Bool
unmarked marks l = all (λ q. not (get_or marks q false)) l

abbrev blank : List Bool
blank = replicate 128 false

-- p marked too: the others are not marked, and none is p
unmarked-set : (marks : List Bool) (p : ℕ) (l : List ℕ) → p < length marks → unmarked (set marks p true) l ≡ unmarked marks l && not (among p l)
unmarked-set marks p [] h = refl
unmarked-set marks p (q ∷ l) h = go (eq? p q) (unmarked-set marks p l h)
  where
    now : Bool
    now = get_or marks q false

    shuffle : (a u g : Bool) → a && (u && g) ≡ a && u && g
    shuffle true u g = refl
    shuffle false u g = refl

    go : {t : Bool} → Eq? p q t → unmarked (set marks p true) l ≡ unmarked marks l && not (among p l) → unmarked (set marks p true) (q ∷ l) ≡ unmarked marks (q ∷ l) && not (t || among p l)
    go (same e) ih =
        ap (λ (b : Bool). not b && unmarked (set marks p true) l) (subst (λ (i : ℕ). get_or (set marks p true) i false ≡ true) e (get_or-set_same marks p true false h))
        ∙ sym (and-false (unmarked marks (q ∷ l)))
    go (other d) ih =
        ap (λ (b : Bool). not b && unmarked (set marks p true) l) (get_or-set_other marks p q true false (λ e. d (sym e)))
        ∙ ap (λ (b : Bool). not now && b) ih
        ∙ shuffle (not now) (unmarked marks l) (not (among p l))

-- where what fits has a mark of its own
module _ (fits : ℕ → Bool) (m : ℕ) (room : (p : ℕ) → fits p ≡ true → p < m) where
  passes-is : (marks : List Bool) (l : List ℕ) → length marks ≡ m → passes fits marks l ≡ all fits l && (unmarked marks l && none_twice l)
  passes-is marks [] e = refl
  passes-is marks (p ∷ l) e = go (fits p) (room p) (passes-is (set marks p true) l (length-set marks p true ∙ e))
    where
      shuffle : (a f u g o : Bool) → a && (f && (u && g && o)) ≡ f && (a && u && (g && o))
      shuffle true true true g o = refl
      shuffle true true false g o = refl
      shuffle true false u g o = refl
      shuffle false true u g o = refl
      shuffle false false u g o = refl

      free : Bool
      free = not (get_or marks p false)

      rest : Bool
      rest = passes fits (set marks p true) l

      go : (t : Bool) → (t ≡ true → p < m) → rest ≡ all fits l && (unmarked (set marks p true) l && none_twice l) → t && free && rest ≡ t && all fits l && (free && unmarked marks l && (not (among p l) && none_twice l))
      go false h ih = refl
      go true h ih =
          ap (λ (b : Bool). free && b)
          (ih
          ∙ ap (λ (b : Bool). all fits l && (b && none_twice l)) (unmarked-set marks p l (let x : p < length marks = omega (arith, h refl) in x)))
          ∙ shuffle free (all fits l) (unmarked marks l) (not (among p l)) (none_twice l)

-- every entry of a list that repeats one value, also past its end
pub get_or-blank : {A : Type 0} (m : ℕ) (a : A) (i : ℕ) → get_or (replicate m a) i a ≡ a
get_or-blank zero a i = refl
get_or-blank (suc m) a zero = refl
get_or-blank (suc m) a (suc i) = get_or-blank m a i

unmarked-blank : (l : List ℕ) → unmarked blank l ≡ true
unmarked-blank [] = refl
unmarked-blank (p ∷ l) = rw (get_or-blank 128 false p) (unmarked-blank l)

pub passes-blank : (fits : ℕ → Bool) → ((p : ℕ) → fits p ≡ true → p < 128) → (l : List ℕ) → passes fits blank l ≡ all fits l && none_twice l
passes-blank fits room l =
    passes-is fits 128 room blank l refl ∙ ap (λ (b : Bool). all fits l && (b && none_twice l)) (unmarked-blank l)

-- turns of the pass, at entry q of those before end
module _ (fits : ℕ → Bool) (f : ℕ → ℕ) (marks : List Bool) (end q : ℕ) where
  left : q < end → passes fits marks (listed q (end - q) f) ≡ fits (f q) && not (get_or marks (f q) false) && passes fits (set marks (f q) true) (listed (q + 1) (end - (q + 1)) f)
  left h = ap (passes fits marks) (listed-left f q (q + 1) (end - q) (end - (q + 1)) (omega arith) (omega arith))

  pub passes-unfit : q < end → fits (f q) ≡ false → {b : Bool} → passes fits marks (listed q (end - q) f) ≡ b → false ≡ b
  passes-unfit h e x = sym (left h ∙ rw e) ∙ x

  pub passes-twice : q < end → fits (f q) ≡ true → get_or marks (f q) false ≡ true → {b : Bool} → passes fits marks (listed q (end - q) f) ≡ b → false ≡ b
  passes-twice h e d x = sym (left h ∙ rw (e, d)) ∙ x

  pub passes-more : q < end → fits (f q) ≡ true → get_or marks (f q) false ≡ false → {b : Bool} → passes fits marks (listed q (end - q) f) ≡ b → passes fits (set marks (f q) true) (listed (q + 1) (end - (q + 1)) f) ≡ b
  passes-more h e d x = sym (left h ∙ rw (e, d)) ∙ x

  pub passes-end : end ≤ q → {b : Bool} → passes fits marks (listed q (end - q) f) ≡ b → true ≡ b
  passes-end h x = sym (ap (λ (i : ℕ). passes fits marks (listed q i f)) (let e : end - q ≡ 0 = omega arith in e)) ∙ x
