-- Laws of commands: a line's items one after the other, and the commands that they are.
use mathlib.Core.Bool.{Bool, true, false, cond, not, ◌&&◌, ◌||◌, and-false, true≢false}
use mathlib.Core.List.{List, [], ◌∷◌}
use mathlib.Core.Path.{◌≡◌, refl, sym, ap, ◌∙◌}
use Prim.Native.Nat.{ℕ, suc, ◌+◌, ◌-◌, ◌<◌, ◌≤◌}
use native.Mathlib.Numerals.{add-one}
use native.Mathlib.Omega.{arith}
use lib.Dec.{eqb, leb, ltb}
use lib.ListN.{length, get_or, take, drop, length-drop}
use lib.Seq.{take_all, length-take-le, take-suc}
use borrow.Author.Tests.{lt-leb, le-leb}
use Rattle.rules.specs.Maps.{between, all}
use Rattle.rules.proofs.MapsLaws.{Lt?, lt, ge, lt?, Eq?, same, other, eq?, and_left, and_right, not-true}
use Rattle.std.specs.Prelude.{Option, Some, None}
use Rattle.std.specs.Option.{option_eq}
use Rattle.script.proofs.LinesLaws.{length_before, found-none, found_at}
use Rattle.script.specs.Lines.{onto, before, Found}
use Rattle.script.specs.Items.{space, items, is_digit, is_number, value, is_printable, is_word, unreadable, letter, of_two, of_three, of_items, command}

-- ---- items

pub items-one : (l : List ℕ) → length (before space l) ≡ length l → items l ≡ l ∷ []
items-one [] h = refl
items-one (b ∷ l) h = go (eq? b space) h (items-one l)
  where
    go : {t : Bool} → Eq? b space t → length (cond t [] (b ∷ before space l)) ≡ suc (length l)
        → (length (before space l) ≡ length l → items l ≡ l ∷ []) → cond t ([] ∷ items l) (onto b (items l)) ≡ (b ∷ l) ∷ []
    go (same e) h ih = absurd (omega arith)
    go (other e) h ih = ap (onto b) (ih (omega arith))

pub items_more : (l : List ℕ) → length (before space l) < length l
    → items l ≡ take (length (before space l)) l ∷ items (drop (length (before space l) + 1) l)
items_more [] h = absurd (omega arith)
items_more (b ∷ l) h = go (eq? b space) h (items_more l)
  where
    n : ℕ
    n = length (before space l)

    go : {t : Bool} → Eq? b space t → length (cond t [] (b ∷ before space l)) < suc (length l)
        → (n < length l → items l ≡ take n l ∷ items (drop (n + 1) l))
        → let m = length (cond t [] (b ∷ before space l)) in cond t ([] ∷ items l) (onto b (items l)) ≡ take m (b ∷ l) ∷ items (drop (m + 1) (b ∷ l))
    go (same e) h ih = refl
    go (other e) h ih = rw (add-one (suc n)) (ap (onto b) (rw (add-one n) at (ih (omega arith))))

-- there is an item
pub items-some : (l : List ℕ) → (x : List ℕ) × (r : List (List ℕ)) × (items l ≡ x ∷ r)
items-some [] = ([], [], refl)
items-some (b ∷ l) = go (eqb b space) (items-some l)
  where
    go : (t : Bool) → (x : List ℕ) × (r : List (List ℕ)) × (items l ≡ x ∷ r) → (x : List ℕ) × (r : List (List ℕ)) × (cond t ([] ∷ items l) (onto b (items l)) ≡ x ∷ r)
    go true i = ([], items l, refl)
    go false (x, r, e) = (b ∷ x, r, ap (onto b) e)

-- the rest of a list, as a part of it
pub take_rest : (n : ℕ) (l : List ℕ) → take (length l - n) (drop n l) ≡ drop n l
take_rest n l = take_all (length l - n) (drop n l) (let e : length (drop n l) ≡ length l - n = length-drop n l in omega arith)

-- ---- what has a space in it is neither a number nor a word

module _ (p : ℕ → Bool) (out : p space ≡ false) where
  all-before : (z : List ℕ) → all p z ≡ true → length (before space z) ≡ length z
  all-before [] h = refl
  all-before (b ∷ z) h = go (eq? b space) (and_left (p b) (all p z) h) (all-before z (and_right (p b) (all p z) h))
    where
      go : {t : Bool} → Eq? b space t → p b ≡ true → length (before space z) ≡ length z → length (cond t [] (b ∷ before space z)) ≡ suc (length z)
      go (same e) x ih = absurd (true≢false (sym x ∙ ap p e ∙ out))
      go (other e) x ih = ap suc ih

spaced : (p : ℕ → Bool) → p space ≡ false → (z : List ℕ) → length (before space z) < length z → all p z ≡ false
spaced p out z h = not-true (all p z) (λ e. let s : length (before space z) ≡ length z = all-before p out z e in omega arith)

spaced-word : (z : List ℕ) → length (before space z) < length z → is_word z ≡ false
unfolding is_word between
spaced-word z h = rw (spaced is_printable refl z h) (and-false (ltb 0 (length z)))

spaced-number : (z : List ℕ) → length (before space z) < length z → is_number z ≡ false
unfolding is_number between
spaced-number z h = rw (spaced is_digit refl z h) (and-false (ltb 0 (length z) && (eqb (length z) 1 || not (eqb (get_or z 0 0) 48))))

-- ---- commands of items

cond_same : {A : Type 0} (t : Bool) (a : A) → cond t a a ≡ a
cond_same true a = refl
cond_same false a = refl

letter-none : (x : List ℕ) → (length x ≡ 1 → ⊥) → letter x ≡ 0
letter-none [] h = refl
letter-none (b ∷ []) h = absurd (h refl)
letter-none (b ∷ c ∷ l) h = refl

of_items-letter : (x : List ℕ) (l : List (List ℕ)) → (length x ≡ 1 → ⊥) → of_items (x ∷ l) ≡ unreadable
unfolding of_two of_three
of_items-letter x [] h = refl
of_items-letter x (y ∷ []) h = rw (letter-none x h) (cond_same (is_number y) unreadable)
of_items-letter x (y ∷ z ∷ []) h = rw (letter-none x h) (cond_same (is_number y) unreadable)
of_items-letter x (y ∷ z ∷ t ∷ l) h = refl

pub of_items-number : (x y : List ℕ) (l : List (List ℕ)) → is_number y ≡ false → of_items (x ∷ y ∷ l) ≡ unreadable
of_items-number x y [] h = rw h
of_items-number x y (z ∷ []) h = rw h
of_items-number x y (z ∷ t ∷ l) h = refl

of_three-none : (c u : ℕ) (z : List ℕ) → is_word z ≡ false → is_number z ≡ false → of_three c u z ≡ unreadable
unfolding of_three
of_three-none c u z w n = simp (w, n, and-false)

-- a third item and all that follows it, as they stand in the line
pub of_items-rest : (x y z : List ℕ) → of_items (x ∷ y ∷ items z) ≡ cond (is_number y) (of_three (letter x) (value y) z) unreadable
of_items-rest x y z = go (lt? (length (before space z)) (length z))
  where
    go : {t : Bool} → Lt? (length (before space z)) (length z) t → of_items (x ∷ y ∷ items z) ≡ cond (is_number y) (of_three (letter x) (value y) z) unreadable
    go (lt h) =
        let (a, r, e) = items-some (drop (length (before space z) + 1) z) in
        rw (items_more z h, e, of_three-none (letter x) (value y) z (spaced-word z h) (spaced-number z h)) (sym (cond_same (is_number y) unreadable))
    go (ge h) = rw (items-one z (omega (arith, length_before space z)))

-- ---- commands of lines

pub command-long : (l : List ℕ) → 80 < length l → command l ≡ unreadable
unfolding command
command-long l h = rw (lt-leb (length l) 80 h)

-- the first item is no letter
pub command-letter : (l : List ℕ) → (length (before space l) ≡ 1 → ⊥) → command l ≡ unreadable
unfolding command
command-letter l h = go (lt? (length (before space l)) (length l))
  where
    n : ℕ
    n = length (before space l)

    go : {t : Bool} → Lt? n (length l) t → cond (leb (length l) 80) (of_items (items l)) unreadable ≡ unreadable
    go (lt x) =
        let short : length (take n l) ≡ n = length-take-le n l (omega arith) in
        rw (items_more l x, of_items-letter (take n l) (items (drop (n + 1) l)) (λ e. h (sym short ∙ e))) (cond_same (leb (length l) 80) unreadable)
    go (ge x) =
        let whole : n ≡ length l = omega (arith, length_before space l) in
        rw (items-one l whole) (cond_same (leb (length l) 80) unreadable)

pub command-one : (l : List ℕ) → length (before space l) ≡ 1 → length l ≡ 1 → command l ≡ unreadable
unfolding command
command-one l h e = rw (items-one l (h ∙ sym e)) (cond_same (leb (length l) 80) unreadable)

pub command-rest : (l : List ℕ) → length l ≤ 80 → length (before space l) ≡ 1 → (length l ≡ 1 → ⊥)
    → of_items ((get_or l 0 0 ∷ []) ∷ items (take (length l - 2) (drop 2 l))) ≡ command l
unfolding command
command-rest l h e o =
    let long : length (before space l) < length l = omega (arith, length_before space l) in
    rw (take_rest 2 l, le-leb (length l) 80 h, items_more l long, e, take-suc l 0 0 (omega arith))

-- the place is tested
pub place-is : (r : Option ℕ) → false ≡ not (option_eq eqb r (Some 1)) → r ≡ Some 1
place-is None e = absurd (true≢false (sym e))
place-is (Some i) e = go (eq? i 1) e
  where
    go : {t : Bool} → Eq? i 1 t → false ≡ not t → Some i ≡ Some 1
    go (same q) e = ap Some q
    go (other q) e = absurd (true≢false (sym e))

pub place-other : (r : Option ℕ) → true ≡ not (option_eq eqb r (Some 1)) → r ≡ Some 1 → ⊥
place-other r e q = absurd (true≢false (rw q at e))

-- there is no space behind a first byte
pub command-unlettered : (l : List ℕ) (r : Option ℕ) → Found l space r → (r ≡ Some 1 → ⊥) → command l ≡ unreadable
command-unlettered l None f h = go (eq? (length l) 1)
  where
    go : {t : Bool} → Eq? (length l) 1 t → command l ≡ unreadable
    go (same e) = command-one l (found-none l space f ∙ e) e
    go (other e) = command-letter l (λ q. e (sym (found-none l space f) ∙ q))
command-unlettered l (Some i) f h = command-letter l (λ q. h (ap Some ((found_at l space i f).0 ∙ q)))
