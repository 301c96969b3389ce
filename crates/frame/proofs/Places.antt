-- Where the numbers of a well formed frame stand.
use mathlib.Core.Bool.{true}
use mathlib.Core.List.{List, [], ◌∷◌}
use mathlib.Core.Path.{◌≡◌, refl, sym, ap, ◌∙◌}
use Prim.Native.Nat.{ℕ, ◌+◌, ◌-◌, ◌*◌, ◌/◌, ◌%◌, ◌≤◌}
use native.Mathlib.Omega.{arith}
use lib.ListN.{length, take, drop, length-drop}
use lib.Seq.{drop-drop}
use borrow.Author.Tests.{eqb-true}
use Rattle.rules.specs.Bytes.{number, all_numbers}
use Rattle.rules.specs.Fields.{table, row_of, length_of, fits, numbers}
use Rattle.rules.proofs.MapsLaws.{and_both}
use Rattle.rules.proofs.FieldsLaws.{is_field}
use Rattle.frame.specs.Acks.{count_at}
use Rattle.frame.proofs.Here.{length_at, length-here}

-- a field of tag t at p, of n bytes, and fields of the tags ts after it
record Step (t : ℕ) (ts l : List ℕ) (p n : ℕ) : Type 0 where
  pub rest : fits table ts (drop (p + 3 + n) l) ≡ true
  pub split :
      numbers table (t ∷ ts) (drop p l)
      ≡ all_numbers (row_of table t).width (n / (row_of table t).width) (drop (p + 3) l) ∷ numbers table ts (drop (p + 3 + n) l)
  pub inside : p + 3 + n ≤ length l
  pub least : (row_of table t).least ≤ n
  pub greatest : n ≤ (row_of table t).greatest
  pub whole : n % (row_of table t).width ≡ 0

module _ (t : ℕ) (ts l : List ℕ) (p n : ℕ) (h : fits table (t ∷ ts) (drop p l) ≡ true) where
  step : length_at l p ≡ n → Step t ts l p n
  step e =
      let k = and_both _ _ h in
      let f = is_field table t (drop p l) k.0 in
      let m : length_of (drop p l) ≡ n = length-here l p ∙ e in
      let place : p + (3 + n) ≡ p + 3 + n = omega arith in
      let after : drop (3 + length_of (drop p l)) (drop p l) ≡ drop (p + 3 + n) l =
      ap (λ i. drop (3 + i) (drop p l)) m ∙ drop-drop (3 + n) p l ∙ ap (λ i. drop i l) place in
      record {
        rest = ap (fits table ts) (sym after) ∙ k.1;
        split = rw (after, m, drop-drop 3 p l);
        inside = omega (arith, f.long, f.inside, length-drop p l);
        least = rw m at f.least;
        greatest = rw m at f.greatest;
        whole = rw m at f.whole;
      }

  -- where the table fixes the length
  fixed : (row_of table t).least ≡ n → (row_of table t).greatest ≡ n → Step t ts l p n
  fixed low high =
      let f = is_field table t (drop p l) (and_both _ _ h).0 in
      step (omega (arith, length-here l p, f.least, f.greatest))

-- a number stands alone
then : {x : List ℕ} {v w : List (List ℕ)} → v ≡ w → ◌≡◌ {A = List (List ℕ)} (x ∷ v) (x ∷ w)
then {x = x} e = ap (λ v. x ∷ v) e

-- ---- the four fields that both kinds begin with

abbrev pub number_at : List ℕ → ℕ → ℕ → List ℕ
number_at l p w = number (take w (drop p l)) ∷ []

abbrev pub headed : List ℕ → List (List ℕ) → List (List ℕ)
headed l v = number_at l 3 1 ∷ number_at l 7 1 ∷ number_at l 11 4 ∷ number_at l 18 1 ∷ v

pub record Head (ts l : List ℕ) : Type 0 where
  pub rest : fits table ts (drop 19 l) ≡ true
  pub split : numbers table (1 ∷ 2 ∷ 3 ∷ 4 ∷ ts) l ≡ headed l (numbers table ts (drop 19 l))
  pub long : 19 ≤ length l

pub head : (ts l : List ℕ) → fits table (1 ∷ 2 ∷ 3 ∷ 4 ∷ ts) l ≡ true → Head ts l
unfolding table row_of
head ts l h =
    let s1 = fixed 1 (2 ∷ 3 ∷ 4 ∷ ts) l 0 1 h refl refl in
    let s2 = fixed 2 (3 ∷ 4 ∷ ts) l 4 1 s1.rest refl refl in
    let s3 = fixed 3 (4 ∷ ts) l 8 4 s2.rest refl refl in
    let s4 = fixed 4 ts l 15 1 s3.rest refl refl in
    record { rest = s4.rest; split = s1.split ∙ then (s2.split ∙ then (s3.split ∙ then s4.split)); long = s4.inside }

-- ---- a data frame: n numbers of ACK

pub record DataPlaces (l : List ℕ) (n : ℕ) : Type 0 where
  pub split :
      numbers table (5 ∷ 6 ∷ 7 ∷ 10 ∷ []) (drop 19 l)
      ≡ number_at l 22 4
      ∷ all_numbers 4 n (drop 29 l)
      ∷ number_at l (32 + 4 * n) 2
      ∷ all_numbers 1 (length l - (37 + 4 * n)) (drop (37 + 4 * n) l)
      ∷ []
  pub long : 37 + 4 * n ≤ length l
  pub few : n ≤ 8

pub data-places : (l : List ℕ) → fits table (5 ∷ 6 ∷ 7 ∷ 10 ∷ []) (drop 19 l) ≡ true → DataPlaces l (count_at l 27)
unfolding table row_of
data-places l h =
    let a = length_at l 26 in
    let n = count_at l 27 in
    let s5 = fixed 5 (6 ∷ 7 ∷ 10 ∷ []) l 19 4 h refl refl in
    let s6 = step 6 (7 ∷ 10 ∷ []) l 26 a s5.rest refl in
    let s7 = fixed 7 (10 ∷ []) l (29 + a) 2 s6.rest refl refl in
    let d = length_at l (29 + a + 3 + 2) in
    let s10 = step 10 [] l (29 + a + 3 + 2) d s7.rest refl in
    let none_left : length (drop (29 + a + 3 + 2 + 3 + d) l) ≡ 0 = eqb-true _ _ s10.rest in
    let four : a ≡ 4 * n = omega (arith, s6.whole) in
    let all : length l ≡ 37 + a + d = omega (arith, length-drop (29 + a + 3 + 2 + 3 + d) l, s10.inside) in
    let buf-place : 29 + a + 3 ≡ 32 + 4 * n = omega arith in
    let data-place : 29 + a + 3 + 2 + 3 ≡ 37 + 4 * n = omega arith in
    let data-count : d / 1 ≡ length l - (37 + 4 * n) = omega arith in
    record {
      split = s5.split ∙ then (s6.split ∙ then (s7.split ∙ then s10.split)) ∙ rw (data-count, data-place, buf-place);
      long = omega arith;
      few = omega (arith, s6.greatest);
    }

-- ---- a request

pub record RequestPlaces (l : List ℕ) (n : ℕ) : Type 0 where
  pub split :
      numbers table (6 ∷ 8 ∷ 9 ∷ []) (drop 19 l)
      ≡ all_numbers 4 n (drop 22 l) ∷ number_at l (25 + 4 * n) 1 ∷ number_at l (29 + 4 * n) 4 ∷ []
  pub long : 33 + 4 * n ≤ length l
  pub few : n ≤ 8

pub request-places : (l : List ℕ) → fits table (6 ∷ 8 ∷ 9 ∷ []) (drop 19 l) ≡ true → RequestPlaces l (count_at l 20)
unfolding table row_of
request-places l h =
    let a = length_at l 19 in
    let n = count_at l 20 in
    let s6 = step 6 (8 ∷ 9 ∷ []) l 19 a h refl in
    let s8 = fixed 8 (9 ∷ []) l (22 + a) 1 s6.rest refl refl in
    let s9 = fixed 9 [] l (22 + a + 3 + 1) 4 s8.rest refl refl in
    let four : a ≡ 4 * n = omega (arith, s6.whole) in
    let lsrc-place : 22 + a + 3 ≡ 25 + 4 * n = omega arith in
    let lseq-place : 22 + a + 3 + 1 + 3 ≡ 29 + 4 * n = omega arith in
    record {
      split = s6.split ∙ then (s8.split ∙ then s9.split) ∙ rw (lseq-place, lsrc-place);
      long = omega (arith, s9.inside);
      few = omega (arith, s6.greatest);
    }
