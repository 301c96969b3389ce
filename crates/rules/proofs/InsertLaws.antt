-- Where a message is inserted: immediately before the first that it precedes, else at the end.
use mathlib.Core.Bool.{Bool, true, false, cond}
use mathlib.Core.Logic.{◌⊎◌, inl, inr}
use mathlib.Core.List.Memᴰ
use mathlib.Core.List.{List, [], ◌∷◌, ◌++◌, nil≢cons, head-eq_of_cons-eq, Memᴰ}
use mathlib.Core.Path.{◌≡◌, refl, sym, ap, subst, ◌∙◌}
use Rattle.rules.specs.State.{Place}
use Rattle.rules.specs.Steps.{precedes, insert}

-- p stands immediately before the first message that it precedes, else at the end
pub record Inserted (p : Place) (l : List Place) : Type 0 where
  pub before : List Place
  pub after : List Place
  pub whole : l ≡ before ++ after
  pub result : insert p l ≡ before ++ p ∷ after
  pub passed : (q : Place) → Memᴰ q before → precedes p q ≡ false
  pub stopped : (q : Place) (qs : List Place) → after ≡ q ∷ qs → precedes p q ≡ true

pub inserted : (p : Place) (l : List Place) → Inserted p l
inserted p [] =
    record {
      before = [];
      after = [];
      whole = refl;
      result = refl;
      passed = λ q m. absurd (Memᴰ.not-nil m);
      stopped = λ q qs e. absurd (nil≢cons e);
    }
inserted p (q ∷ l) = go (precedes p q) refl (inserted p l)
  where
    at_head : precedes p q ≡ true → (r : Place) (rs : List Place) → q ∷ l ≡ r ∷ rs → precedes p r ≡ true
    at_head e r rs x = subst (λ (z : Place). precedes p z ≡ true) (head-eq_of_cons-eq x) e

    go : (t : Bool) → precedes p q ≡ t → Inserted p l → Inserted p (q ∷ l)
    go true e i =
        record {
          before = [];
          after = q ∷ l;
          whole = refl;
          result = ap (λ t. cond t (p ∷ q ∷ l) (q ∷ insert p l)) e;
          passed = λ r m. absurd (Memᴰ.not-nil m);
          stopped = at_head e;
        }
    go false e i =
        record {
          before = q ∷ i.before;
          after = i.after;
          whole = ap (λ (z : List Place). q ∷ z) i.whole;
          result = ap (λ t. cond t (p ∷ q ∷ l) (q ∷ insert p l)) e ∙ ap (λ (z : List Place). q ∷ z) i.result;
          passed = λ r m. here r (Memᴰ.cases_cons m);
          stopped = i.stopped;
        }
      where
        here : (r : Place) → (r ≡ q) ⊎ Memᴰ r i.before → precedes p r ≡ false
        here r (inl x) = subst (λ (z : Place). precedes p z ≡ false) (sym x) e
        here r (inr m) = i.passed r m

pub insert-mem : (p q : Place) (l : List Place) → Memᴰ q (insert p l) → (q ≡ p) ⊎ Memᴰ q l
insert-mem p q l m = go (Memᴰ.append_cases i.before (subst (λ (r : List Place). Memᴰ q r) i.result m))
  where
    i : Inserted p l
    i = inserted p l

    old : Memᴰ q (i.before ++ i.after) → (q ≡ p) ⊎ Memᴰ q l
    old x = inr (subst (λ (r : List Place). Memᴰ q r) (sym i.whole) x)

    behind : (q ≡ p) ⊎ Memᴰ q i.after → (q ≡ p) ⊎ Memᴰ q l
    behind (inl e) = inl e
    behind (inr x) = old (Memᴰ.append_right i.before x)

    go : Memᴰ q i.before ⊎ Memᴰ q (p ∷ i.after) → (q ≡ p) ⊎ Memᴰ q l
    go (inl x) = old (Memᴰ.append_left i.after x)
    go (inr x) = behind (Memᴰ.cases_cons x)
