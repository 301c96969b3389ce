-- Reading and writing fields undo each other, over any table whose lengths fit two bytes and whose widths are not 0,
-- and over any list of tags.
use mathlib.Core.Bool.{Bool, true, false, cond, false≢true, ◌&&◌}
use mathlib.Core.List.{List, [], ◌∷◌, ◌++◌, append_assoc}
use mathlib.Core.Path.{◌≡◌, refl, sym, ap, ap₂, ◌∙◌, subst}
use Prim.Native.Nat.{ℕ, zero, suc, ◌+◌, ◌-◌, ◌*◌, ◌/◌, ◌%◌, ◌≤◌, ◌<◌}
use native.Mathlib.Nat.{eq_of_mul-eq-mul_left, mul-div_right, mul-mod_right, div-add-mod}
use native.Mathlib.Omega.{arith}
use lib.Dec.{eqb, ltb, eqb-suc-zero}
use lib.ListN.{length, get_or, take, drop, length-append, length-drop, take-append-drop}
use lib.Seq.{length-take-le, drop_at, drop-cons, drop-drop, drop-length}
use borrow.Author.Tests.{ltb-true, leb-true, eqb-true, le-leb, eq-eqb}
use Rattle.rules.specs.Maps.{all, among}
use Rattle.rules.specs.Bytes.{bytes, all_bytes}
use Rattle.rules.specs.Fields.{Row, no_row, row_of, tags_from, field, print, length_of, field_fits, fits, first_numbers, numbers}
use Rattle.rules.specs.Lawful.{nil, cons, Bytes, Content, Contents}
use Rattle.rules.proofs.MapsLaws.{and_left, and_right, and_both}
use Rattle.rules.proofs.BytesLaws.{each-head, each_tail, each-++, each_take, each-drop, each-bytes, each-all_bytes, number-bytes, bytes-number, length-all_bytes, length-all_numbers, each-all_numbers, all_numbers-all_bytes, all_bytes-all_numbers}

-- ---- the table

all_get_d : (p : Row → Bool) → p no_row ≡ true → (rs : List Row) → all p rs ≡ true → (i : ℕ) → p (get_or rs i no_row) ≡ true
all_get_d p d [] h i = d
all_get_d p d (r ∷ rs) h zero = and_left (p r) (all p rs) h
all_get_d p d (r ∷ rs) h (suc i) = all_get_d p d rs (and_right (p r) (all p rs) h) i

-- what the test finds of each line of a table holds of the line of any tag
pub all-row_of : (p : Row → Bool) → p no_row ≡ true → (rs : List Row) → all p rs ≡ true → (t : ℕ) → p (row_of rs t) ≡ true
unfolding row_of
all-row_of p d rs h zero = d
all-row_of p d rs h (suc i) = all_get_d p d rs h i

-- the line of a tag from 1 on, counted from 0
pub row_of-line : (rs : List Row) (t : ℕ) → 1 ≤ t → row_of rs t ≡ get_or rs (t - 1) no_row
unfolding row_of
row_of-line rs zero h = absurd (omega arith)
row_of-line rs (suc i) h = ap (λ x. get_or rs x no_row) (let e : i ≡ suc i - 1 = omega arith in e)

-- the test of a table: each width is not 0, and each length fits two bytes
abbrev usable_row : Row → Bool
usable_row r = ltb 0 r.width && ltb r.greatest 65536

abbrev pub usable : List Row → Bool
usable rs = all usable_row rs

pub record Usable (r : Row) : Type 0 where
  pub width : 0 < r.width
  pub short : r.greatest < 65536

pub usable-row_of : (rs : List Row) → usable rs ≡ true → (t : ℕ) → Usable (row_of rs t)
usable-row_of rs u t =
    let k = and_both _ _ (all-row_of usable_row refl rs u t) in
    record { width = ltb-true _ _ k.0; short = ltb-true _ _ k.1 }

-- ---- the tags of a kind, one line of the table after the other

-- those from tag t on
abbrev pub tags_left : List Row → ℕ → ℕ → List ℕ
tags_left rs t k = tags_from t (drop (t - 1) rs) k

module _ (rs : List Row) (t k : ℕ) where
  pub tags_left-step : 1 ≤ t → t ≤ length rs
      → tags_left rs t k ≡ cond (among k (row_of rs t).kinds) (t ∷ tags_left rs (t + 1) k) (tags_left rs (t + 1) k)
  tags_left-step low high =
      let after : ℕ → ℕ → List ℕ = λ i u. tags_from u (drop i rs) k in
      let next : suc t ≡ t + 1 = omega arith in
      let place : suc (t - 1) ≡ t + 1 - 1 = omega arith in
      ap (λ l. tags_from t l k) (drop-cons rs (t - 1) no_row (omega arith))
      ∙ ap (λ r. cond (among k r.kinds) (t ∷ after (suc (t - 1)) (suc t)) (after (suc (t - 1)) (suc t))) (sym (row_of-line rs t low))
      ∙ ap₂ (λ i u. cond (among k (row_of rs t).kinds) (t ∷ after i u) (after i u)) place next

  pub tags_left-end : t ≡ length rs + 1 → tags_left rs t k ≡ []
  tags_left-end e =
      let place : t - 1 ≡ length rs = omega arith in
      rw (place, drop-length rs)

-- ---- one field

-- what the test of a field says
pub record IsField (r : Row) (t : ℕ) (l : List ℕ) : Type 0 where
  pub long : 3 ≤ length l
  pub tag : get_or l 0 0 ≡ t
  pub least : r.least ≤ length_of l
  pub greatest : length_of l ≤ r.greatest
  pub whole : length_of l % r.width ≡ 0
  pub inside : 3 + length_of l ≤ length l

module _ (rs : List Row) (t : ℕ) where
  pub is_field : (l : List ℕ) → field_fits rs t l ≡ true → IsField (row_of rs t) t l
  unfolding field_fits
  is_field l h =
      let inside = and_both _ _ h in
      let whole = and_both _ _ inside.0 in
      let greatest = and_both _ _ whole.0 in
      let least = and_both _ _ greatest.0 in
      let tag = and_both _ _ least.0 in
      record {
        long = leb-true _ _ tag.0;
        tag = eqb-true _ _ tag.1;
        least = leb-true _ _ least.1;
        greatest = leb-true _ _ greatest.1;
        whole = eqb-true _ _ whole.1;
        inside = leb-true _ _ inside.1;
      }

  pub field_is : (l : List ℕ) → IsField (row_of rs t) t l → field_fits rs t l ≡ true
  unfolding field_fits
  field_is l f =
      simp (le-leb 3 (length l) f.long, eq-eqb (get_or l 0 0) t f.tag, le-leb _ _ f.least, le-leb _ _ f.greatest, eq-eqb _ _ f.whole, le-leb _ _ f.inside)

-- ---- a field that was written

module _ (t : ℕ) (c r : List ℕ) (h : length c < 65536) where
  length_of-field : length_of (field t c ++ r) ≡ length c
  length_of-field = number-bytes 2 (length c) h

  drop-field : drop (3 + length_of (field t c ++ r)) (field t c ++ r) ≡ r
  drop-field = rw length_of-field (sym (drop-drop (length c) 3 (field t c ++ r)) ∙ drop_at c r (length c) refl)

module _ (rs : List Row) (u : usable rs ≡ true) (t : ℕ) (v r : List ℕ) (k : Content (row_of rs t) v) where
  abbrev w : ℕ
  w = (row_of rs t).width

  fits-two : length (all_bytes w v) < 65536
  fits-two = omega (arith, length-all_bytes w v, k.greatest, (usable-row_of rs u t).short)

  field_fits-field : field_fits rs t (field t (all_bytes w v) ++ r) ≡ true
  field_fits-field =
      let e : length_of (field t (all_bytes w v) ++ r) ≡ w * length v = length_of-field t (all_bytes w v) r fits-two ∙ length-all_bytes w v in
      field_is rs t (field t (all_bytes w v) ++ r)
      (record {
        long = omega arith;
        tag = refl;
        least = rw e k.least;
        greatest = rw e k.greatest;
        whole = rw e (mul-mod_right w (length v));
        inside = rw (e, length-append, length-all_bytes) (omega arith);
      })

  first_numbers-field : first_numbers rs t (field t (all_bytes w v) ++ r) ≡ v
  first_numbers-field =
      let e : length_of (field t (all_bytes w v) ++ r) ≡ w * length v = length_of-field t (all_bytes w v) r fits-two ∙ length-all_bytes w v in
      rw (e, mul-div_right (length v) (usable-row_of rs u t).width) (all_numbers-all_bytes w v r k.each)

-- ---- a field that was read

module _ (rs : List Row) (u : usable rs ≡ true) (t : ℕ) (l : List ℕ) (b : Bytes l) (f : IsField (row_of rs t) t l) where
  abbrev width : ℕ
  width = (row_of rs t).width

  abbrev count : ℕ
  count = length_of l / width

  -- the count of numbers, and their bytes
  counted : width * count ≡ length_of l
  counted = omega (arith, div-add-mod (length_of l) width, f.whole)

  room : width * count ≤ length (drop 3 l)
  room = rw (counted, length-drop) (omega (arith, f.inside))

  content : Content (row_of rs t) (first_numbers rs t l)
  content =
      record {
        least = rw (length-all_numbers, counted) f.least;
        greatest = rw (length-all_numbers, counted) f.greatest;
        each = each-all_numbers width count (drop 3 l) room (each-drop 3 b);
      }

  split-3 : (l : List ℕ) → 3 ≤ length l → get_or l 0 0 ∷ take 2 (drop 1 l) ++ drop 3 l ≡ l
  split-3 [] h = absurd (omega arith)
  split-3 (x ∷ []) h = absurd (omega arith)
  split-3 (x ∷ y ∷ []) h = absurd (omega arith)
  split-3 (x ∷ y ∷ z ∷ r) h = refl

  field-first_numbers : field t (all_bytes width (first_numbers rs t l)) ++ drop (3 + length_of l) l ≡ l
  field-first_numbers =
      let n = length_of l in
      let front = take 2 (drop 1 l) in
      let content-is : all_bytes width (first_numbers rs t l) ≡ take n (drop 3 l) =
      all_bytes-all_numbers width count (drop 3 l) room (each-drop 3 b) ∙ ap (λ k. take k (drop 3 l)) counted in
      let long : length (take n (drop 3 l)) ≡ n = length-take-le n (drop 3 l) (rw length-drop (omega (arith, f.inside))) in
      let two : length front ≡ 2 = length-take-le 2 (drop 1 l) (rw length-drop (omega (arith, f.long))) in
      let length-is : bytes 2 n ≡ front = subst (λ k. bytes k n ≡ front) two (bytes-number front (each_take 2 (each-drop 1 b))) in
      rw (content-is, long)
      (ap (λ q. t ∷ (q ++ take n (drop 3 l)) ++ drop (3 + n) l) length-is
      ∙ rw
      (append_assoc front (take n (drop 3 l)) (drop (3 + n) l), ← drop-drop n 3 l, take-append-drop n (drop 3 l), ← f.tag)
      (split-3 l f.long))

-- ---- the fields of any tags

module _ (rs : List Row) (u : usable rs ≡ true) where
  abbrev written : ℕ → List ℕ → List ℕ
  written t v = field t (all_bytes (row_of rs t).width v)

  drop-written : (t : ℕ) (v r : List ℕ) → Content (row_of rs t) v → drop (3 + length_of (written t v ++ r)) (written t v ++ r) ≡ r
  drop-written t v r k = drop-field t (all_bytes (row_of rs t).width v) r (fits-two rs u t v r k)

  pub fits-print : (ts : List ℕ) (vs : List (List ℕ)) → Contents rs ts vs → fits rs ts (print rs ts vs) ≡ true
  fits-print [] [] k = refl
  fits-print [] (v ∷ vs) k = absurd k
  fits-print (t ∷ ts) [] k = absurd k
  fits-print (t ∷ ts) (v ∷ vs) k =
      rw (field_fits-field rs u t v (print rs ts vs) k.0, drop-written t v (print rs ts vs) k.0) (fits-print ts vs k.1)

  pub numbers-print : (ts : List ℕ) (vs : List (List ℕ)) → Contents rs ts vs → numbers rs ts (print rs ts vs) ≡ vs
  numbers-print [] [] k = refl
  numbers-print [] (v ∷ vs) k = absurd k
  numbers-print (t ∷ ts) [] k = absurd k
  numbers-print (t ∷ ts) (v ∷ vs) k =
      rw (first_numbers-field rs u t v (print rs ts vs) k.0, drop-written t v (print rs ts vs) k.0, numbers-print ts vs k.1)

  pub print-numbers : (ts l : List ℕ) → Bytes l → fits rs ts l ≡ true → print rs ts (numbers rs ts l) ≡ l
  print-numbers [] [] b h = refl
  print-numbers [] (x ∷ l) b h = absurd (false≢true (sym (eqb-suc-zero (length l)) ∙ h))
  print-numbers (t ∷ ts) l b h =
      let k = and_both _ _ h in
      rw (print-numbers ts (drop (3 + length_of l) l) (each-drop (3 + length_of l) b) k.1)
      (field-first_numbers rs u t l b (is_field rs t l k.0))

  pub contents-numbers : (ts l : List ℕ) → Bytes l → fits rs ts l ≡ true → Contents rs ts (numbers rs ts l)
  contents-numbers [] l b h = tt
  contents-numbers (t ∷ ts) l b h =
      let k = and_both _ _ h in
      (content rs u t l b (is_field rs t l k.0), contents-numbers ts (drop (3 + length_of l) l) (each-drop (3 + length_of l) b) k.1)

-- ---- fields of one number

-- where the table says one number, it alone
abbrev pub alone : Row → List ℕ → List ℕ
alone r v = cond (eqb r.least r.width && eqb r.greatest r.width) (get_or v 0 0 ∷ []) v

abbrev pub all_alone : List Row → List ℕ → List (List ℕ) → List (List ℕ)
all_alone rs [] vs = []
all_alone rs (t ∷ ts) [] = []
all_alone rs (t ∷ ts) (v ∷ vs) = alone (row_of rs t) v ∷ all_alone rs ts vs

single : (v : List ℕ) → length v ≡ 1 → get_or v 0 0 ∷ [] ≡ v
single [] h = absurd (omega arith)
single (x ∷ []) h = refl
single (x ∷ y ∷ v) h = absurd (omega arith)

alone-is : (r : Row) → Usable r → (v : List ℕ) → Content r v → alone r v ≡ v
alone-is r u v k = go (eqb r.least r.width && eqb r.greatest r.width) refl
  where
    go : (b : Bool) → eqb r.least r.width && eqb r.greatest r.width ≡ b → cond b (get_or v 0 0 ∷ []) v ≡ v
    go false e = refl
    go true e =
        let same = and_both (eqb r.least r.width) (eqb r.greatest r.width) e in
        let least : r.least ≡ r.width = eqb-true _ _ same.0 in
        let greatest : r.greatest ≡ r.width = eqb-true _ _ same.1 in
        let all : r.width * length v ≡ r.width * 1 = omega (arith, k.least, k.greatest) in
        single v (eq_of_mul-eq-mul_left r.width u.width (length v) 1 all)

module _ (rs : List Row) (u : usable rs ≡ true) where
  pub all_alone-is : (ts : List ℕ) (vs : List (List ℕ)) → Contents rs ts vs → all_alone rs ts vs ≡ vs
  all_alone-is [] [] k = refl
  all_alone-is [] (v ∷ vs) k = absurd k
  all_alone-is (t ∷ ts) [] k = absurd k
  all_alone-is (t ∷ ts) (v ∷ vs) k = ap₂ ◌∷◌ (alone-is (row_of rs t) (usable-row_of rs u t) v k.0) (all_alone-is ts vs k.1)

-- ---- the bytes of the fields, and how many

abbrev pub size : List Row → List ℕ → List (List ℕ) → ℕ
size rs [] vs = 0
size rs (t ∷ ts) [] = 0
size rs (t ∷ ts) (v ∷ vs) = 3 + (row_of rs t).width * length v + size rs ts vs

pub length-print : (rs : List Row) (ts : List ℕ) (vs : List (List ℕ)) → length (print rs ts vs) ≡ size rs ts vs
length-print rs [] vs = refl
length-print rs (t ∷ ts) [] = refl
length-print rs (t ∷ ts) (v ∷ vs) =
    let w = (row_of rs t).width in
    omega (arith, length-append (all_bytes w v) (print rs ts vs), length-all_bytes w v, length-print rs ts vs)

pub each-tags_from : (t : ℕ) (rs : List Row) (k : ℕ) → t + length rs ≤ 256 → Bytes (tags_from t rs k)
each-tags_from t [] k h = nil
each-tags_from t (r ∷ rs) k h = go (among k r.kinds) (each-tags_from (suc t) rs k (omega arith))
  where
    go : (b : Bool) → Bytes (tags_from (suc t) rs k) → Bytes (cond b (t ∷ tags_from (suc t) rs k) (tags_from (suc t) rs k))
    go true e = cons {x = t} (omega arith) e
    go false e = e

module _ (rs : List Row) (u : usable rs ≡ true) where
  pub each-print : (ts : List ℕ) (vs : List (List ℕ)) → Bytes ts → Contents rs ts vs → Bytes (print rs ts vs)
  each-print [] vs b k = nil
  each-print (t ∷ ts) [] b k = nil
  each-print (t ∷ ts) (v ∷ vs) b k =
      let w = (row_of rs t).width in
      cons (each-head b)
      (each-++
      (each-++ (each-bytes 2 (length (all_bytes w v)) (fits-two rs u t v [] k.0)) (each-all_bytes w v k.0.each))
      (each-print ts vs (each_tail b) k.1))
