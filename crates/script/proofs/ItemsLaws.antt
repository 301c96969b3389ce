-- Laws of numbers and words: how they are read byte by byte, and the numbers that 32 bits hold.
use mathlib.Core.Bool.{Bool, true, false, cond, ◌&&◌, and-false, or-true}
use mathlib.Core.List.{List, [], ◌∷◌}
use mathlib.Core.Path.{◌≡◌, refl, sym, ap, ◌∙◌}
use Prim.Native.Nat.{ℕ, suc, ◌+◌, ◌-◌, ◌*◌, ◌<◌, ◌≤◌}
use native.Mathlib.Numerals.{add-one}
use native.Mathlib.Omega.{arith}
use lib.Dec.{eqb, leb, ltb}
use lib.ListN.{length, get_or, drop, drop_of_length-le}
use lib.Seq.{drop-cons}
use borrow.Author.Tests.{lt-leb, le-leb, lt-ltb, ne_eqb}
use Rattle.std.specs.Prelude.{Option, Some, None, SomeIff}
use Rattle.std.specs.Char.{digit_value, is_ascii_graphic}
use Rattle.std.specs.List.{list_all}
use Rattle.std.proofs.lemmas.List.Recursion.{same_from_clauses}
use Rattle.rules.specs.Maps.{between, all}
use Rattle.rules.specs.Message.{last}
use Rattle.rules.proofs.MapsLaws.{Lt?, lt, ge, lt?}
use Rattle.script.specs.Items.{is_digit, is_number, value_from, is_printable, is_word}
use Rattle.script.specs.Shown.{held, digit_of, digits_from, value_in}
use Rattle.script.proofs.LinesLaws.{none≢some}

-- ---- ranges

pub above-between : (a b x : ℕ) → b < x → between a b x ≡ false
unfolding between
above-between a b x h = rw (lt-leb x b h) (and-false (leb a x))

-- ---- a test of each byte, from the i-th on

module _ (p : ℕ → Bool) (s : List ℕ) (i : ℕ) where
  pub all_drop : i < length s → all p (drop i s) ≡ p (get_or s i 0) && all p (drop (i + 1) s)
  all_drop h = rw (drop-cons s i 0 h, add-one i)

-- ---- digits

digit_of-is : (b d : ℕ) → digit_of b ≡ Some d → (is_digit b ≡ true) × (d ≡ b - 48)
unfolding digit_of
digit_of-is b d e = go (is_digit b) e
  where
    go : (t : Bool) → cond t (Some (b - 48)) None ≡ Some d → (t ≡ true) × (d ≡ b - 48)
    go true e = (refl, cc)
    go false e = absurd (none≢some e)

digit_of-none : (b : ℕ) → digit_of b ≡ None → is_digit b ≡ false
unfolding digit_of
digit_of-none b e = go (is_digit b) e
  where
    go : (t : Bool) → cond t (Some (b - 48)) None ≡ None → t ≡ false
    go true e = absurd (none≢some (sym e))
    go false e = refl

-- what `to_digit` answers
pub digit_of-from : (b : ℕ) (r : Option ℕ) → SomeIff r (digit_value b < 10) (digit_value b) → r ≡ digit_of b
unfolding digit_of between
digit_of-from b r e = go (lt? b 48) (lt? b 58) r e
  where
    more : ℕ
    more = cond (ltb b 65) 36 (cond (ltb b 91) (b - 55) (cond (ltb b 97) 36 (cond (ltb b 123) (b - 87) 36)))

    high : 58 ≤ b → 10 ≤ more
    high h = go' (lt? b 65) (lt? b 91) (lt? b 97) (lt? b 123)
      where
        go' : {p q x y : Bool} → Lt? b 65 p → Lt? b 91 q → Lt? b 97 x → Lt? b 123 y → 10 ≤ cond p 36 (cond q (b - 55) (cond x 36 (cond y (b - 87) 36)))
        go' (lt p) q x y = omega arith
        go' (ge p) (lt q) x y = omega arith
        go' (ge p) (ge q) (lt x) y = omega arith
        go' (ge p) (ge q) (ge x) (lt y) = omega arith
        go' (ge p) (ge q) (ge x) (ge y) = omega arith

    go : {s t : Bool} → Lt? b 48 s → Lt? b 58 t → (r : Option ℕ)
        → SomeIff r (cond s 36 (cond t (b - 48) more) < 10) (cond s 36 (cond t (b - 48) more))
        → r ≡ cond (leb 48 b && leb b 57) (Some (b - 48)) None
    go (lt h) t None e = rw (lt-leb 48 b h)
    go (lt h) t (Some d) e = absurd (omega (arith, e.0))
    go (ge h) (lt i) None e = absurd (e (omega arith))
    go (ge h) (lt i) (Some d) e = rw (le-leb 48 b h, le-leb b 57 (omega arith)) (ap Some e.1)
    go (ge h) (ge i) None e = rw (lt-leb b 57 (omega arith), and-false (leb 48 b))
    go (ge h) (ge i) (Some d) e = absurd (omega (arith, high i, e.0))

-- ---- numbers that 32 bits hold

value_from-le : (l : List ℕ) (v : ℕ) → v ≤ value_from v l
value_from-le [] v = omega arith
value_from-le (b ∷ l) v = omega (arith, value_from-le l (v * 10 + (b - 48)))

-- to hold a number before its further digits or after them is the same
pub held-value_from : (l : List ℕ) (v : ℕ) → held (value_from (held v) l) ≡ held (value_from v l)
held-value_from l v = go (lt? last v)
  where
    go : {t : Bool} → Lt? last v t → held (value_from (held v) l) ≡ held (value_from v l)
    go (lt h) = omega (arith, value_from-le l (held v), value_from-le l v)
    go (ge h) = ap (λ (x : ℕ). held (value_from x l)) (let e : held v ≡ v = omega arith in e)

digits_from-held : (l : List ℕ) (v : ℕ) → digits_from (held v) l ≡ digits_from v l
unfolding digits_from
digits_from-held l v = ap (λ (x : ℕ). cond (all is_digit l) (Some x) None) (held-value_from l v)

digits_from-cons : (b d : ℕ) (l : List ℕ) (v : ℕ) → digit_of b ≡ Some d → digits_from v (b ∷ l) ≡ digits_from (v * 10 + d) l
unfolding digits_from
digits_from-cons b d l v e = rw ((digit_of-is b d e).0, (digit_of-is b d e).1)

-- ---- digits, read up to the i-th: v is what they say

module _ (s : List ℕ) (v i : ℕ) where
  pub record Counted : Type 0 where
    pub fits : v ≤ last
    pub so_far : digits_from v (drop i s) ≡ digits_from 0 s

module _ (s : List ℕ) where
  pub counted_start : Counted s 0 0
  counted_start = record { fits = omega arith; so_far = refl }

  pub counted_stop : (v i : ℕ) → i < length s → None ≡ digit_of (get_or s i 0) → Counted s v i → None ≡ digits_from 0 s
  unfolding digits_from
  counted_stop v i h e w =
      let none : digits_from v (drop i s) ≡ None = rw (all_drop is_digit s i h, digit_of-none (get_or s i 0) (sym e)) in
      sym none ∙ w.so_far

  pub counted-more : (v i : ℕ) {d r : ℕ} → i < length s → Some d ≡ digit_of (get_or s i 0) → r ≡ held (v * 10 + d) → Counted s v i → Counted s r (i + 1)
  counted-more v i {d} {r} h e g w =
      let more : digits_from v (drop i s) ≡ digits_from (v * 10 + d) (drop (i + 1) s)
      = rw (drop-cons s i 0 h, add-one i) (digits_from-cons (get_or s i 0) d (drop (suc i) s) v (sym e)) in
      record {
        fits = omega arith;
        so_far = rw g (digits_from-held (drop (i + 1) s) (v * 10 + d) ∙ sym more ∙ w.so_far);
      }

  pub counted-end : (v i : ℕ) → length s ≤ i → Counted s v i → Some v ≡ digits_from 0 s
  unfolding digits_from
  counted-end v i h w =
      let whole : digits_from v (drop i s) ≡ Some v = rw (drop_of_length-le s h) (ap Some (let e : held v ≡ v = omega (arith, w.fits) in e)) in
      sym whole ∙ w.so_far

-- ---- numbers, by how they begin

pub value_in-empty : (s : List ℕ) → length s ≡ 0 → None ≡ value_in s
unfolding value_in is_number
value_in-empty s e = rw e

pub value_in-leading : (s : List ℕ) → (length s ≡ 1 → ⊥) → get_or s 0 0 ≡ 48 → None ≡ value_in s
unfolding value_in is_number
value_in-leading s h e = rw (ne_eqb (length s) 1 h, e, and-false (ltb 0 (length s)))

pub value_in-digits : (s : List ℕ) → (length s ≡ 0 → ⊥) → (2 ≤ length s → get_or s 0 0 ≡ 48 → ⊥) → digits_from 0 s ≡ value_in s
unfolding value_in is_number digits_from
value_in-digits [] h e = absurd (h refl)
value_in-digits (b ∷ []) h e = refl
value_in-digits (b ∷ c ∷ l) h e =
    let s : List ℕ = b ∷ c ∷ l in
    rw (lt-ltb 0 (length s) (omega arith), ne_eqb b 48 (e (omega arith)), or-true (eqb (length s) 1))

-- ---- words

pub is_printable-is : (b : ℕ) → is_ascii_graphic b ≡ is_printable b
unfolding between
is_printable-is b = refl

-- what `all` answers
pub is_word-from : (s : List ℕ) {r : Bool} → 0 < length s → r ≡ list_all is_printable s → r ≡ is_word s
unfolding is_word
is_word-from s h e =
    let same : list_all is_printable s ≡ all is_printable s
    = same_from_clauses (list_all is_printable) (all is_printable) (λ b t. is_printable b && t) refl (λ b l. refl) (λ b l. refl) s in
    rw (lt-ltb 0 (length s) h) (e ∙ same)
