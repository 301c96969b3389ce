-- A field at a place of a frame, and a part of a frame, in the terms that `field_at` and `part_at` test: one law for each of their ways out.
use mathlib.Core.Bool.{true, false, false≢true, ◌&&◌}
use mathlib.Core.List.{List}
use mathlib.Core.Logic.{◌≢◌}
use mathlib.Core.Path.{◌≡◌, sym, ap, ◌∙◌}
use Prim.Native.Nat.{ℕ, ◌+◌, ◌-◌, ◌≤◌, ◌<◌}
use native.Mathlib.Nat.{add-zero}
use native.Mathlib.Omega.{arith}
use lib.Dec.{leb}
use lib.ListN.{length, get_or, take, drop, length-drop}
use lib.Seq.{get_or-drop, drop-drop}
use borrow.Author.Tests.{leb-true, eqb-true, le-leb, eq-eqb}
use Rattle.rules.specs.Bytes.{number}
use Rattle.rules.specs.Fields.{table, length_of, field_fits}
use Rattle.rules.proofs.MapsLaws.{and_both, not-true}
use Rattle.rules.proofs.FieldsLaws.{is_field, field_is}
use Rattle.frame.specs.Table.{length_fits}
use Rattle.frame.specs.Field.{field_at, part_at}
use Rattle.std.specs.Prelude.{Some, None}

-- the length that the field at p says
abbrev pub length_at : List ℕ → ℕ → ℕ
length_at l p = number (take 2 (drop (p + 1) l))

pub record Here (l : List ℕ) (p t : ℕ) : Type 0 where
  pub long : p + 3 ≤ length l
  pub tag : get_or l p 0 ≡ t
  pub fit : length_fits t (length_at l p) ≡ true
  pub inside : p + 3 + length_at l p ≤ length l

pub length-here : (l : List ℕ) (p : ℕ) → length_of (drop p l) ≡ length_at l p
length-here l p = ap (λ r. number (take 2 r)) (drop-drop 1 p l)

module _ (l : List ℕ) (p t : ℕ) where
  tag-here : get_or (drop p l) 0 0 ≡ get_or l p 0
  tag-here = get_or-drop p l 0 0 ∙ ap (λ k. get_or l k 0) (add-zero p)

  pub here : field_fits table t (drop p l) ≡ true → Here l p t
  unfolding length_fits
  here h =
      let f = is_field table t (drop p l) h in
      let e = length-here l p in
      let n = length-drop p l in
      record {
        long = omega (arith, f.long);
        tag = sym tag-here ∙ f.tag;
        fit = rw (le-leb _ _ (rw e at f.least), le-leb _ _ (rw e at f.greatest), eq-eqb _ _ (rw e at f.whole));
        inside = omega (arith, f.long, f.inside);
      }

  pub is-here : Here l p t → field_fits table t (drop p l) ≡ true
  unfolding length_fits
  is-here f =
      let e = length-here l p in
      let n = length-drop p l in
      let whole = and_both _ _ f.fit in
      let bounds = and_both _ _ whole.0 in
      field_is table t (drop p l)
      (record {
        long = omega (arith, f.long);
        tag = tag-here ∙ f.tag;
        least = rw e (leb-true _ _ bounds.0);
        greatest = rw e (leb-true _ _ bounds.1);
        whole = rw e (eqb-true _ _ whole.1);
        inside = omega (arith, f.long, f.inside);
      })

  no-field : (Here l p t → ⊥) → None ≡ field_at l p t
  unfolding field_at
  no-field h = rw (not-true (field_fits table t (drop p l)) (λ e. h (here e)))

  pub short-slice : length l < 3 → None ≡ field_at l p t
  short-slice h = no-field (λ (f : Here l p t). omega arith)

  pub past_end : length l - 3 < p → None ≡ field_at l p t
  past_end h = no-field (λ (f : Here l p t). omega arith)

  pub other_tag : get_or l p 0 ≢ t → None ≡ field_at l p t
  other_tag h = no-field (λ (f : Here l p t). h f.tag)

  module _ (n : ℕ) (e : n ≡ length_at l p) where
    pub other_length : length_fits t n ≡ false → None ≡ field_at l p t
    other_length h = no-field (λ (f : Here l p t). false≢true (sym h ∙ ap (length_fits t) e ∙ f.fit))

    pub cut : 3 ≤ length l → p ≤ length l - 3 → length l - (p + 3) < n → None ≡ field_at l p t
    cut a b h = no-field (λ (f : Here l p t). omega arith)

    pub a-field : 3 ≤ length l → p ≤ length l - 3 → get_or l p 0 ≡ t → length_fits t n ≡ true → n ≤ length l - (p + 3)
        → Some (record { start = p + 3; end = p + 3 + n }) ≡ field_at l p t
    unfolding field_at
    a-field a b tag fit inside =
        let f : Here l p t = record { long = omega arith; tag = tag; fit = rw e at fit; inside = omega arith } in
        rw (is-here f, e, length-here l p)

-- ---- part_at

module _ (l : List ℕ) (a e : ℕ) where
  no_part : ((a ≤ e) × (e ≤ length l) → ⊥) → take 0 l ≡ part_at l a e
  unfolding part_at
  no_part h =
      let part = leb a e && leb e (length l) in
      rw (not-true part (λ t. let b = and_both (leb a e) (leb e (length l)) t in h (leb-true a e b.0, leb-true e (length l) b.1)))

  pub backward : e < a → take 0 l ≡ part_at l a e
  backward h = no_part (λ b. omega (arith, b.0))

  pub past-frame : length l < e → take 0 l ≡ part_at l a e
  past-frame h = no_part (λ b. omega (arith, b.1))

  pub a-part : a ≤ e → e ≤ length l → take (e - a) (drop a l) ≡ part_at l a e
  unfolding part_at
  a-part low high = rw (le-leb a e low, le-leb e (length l) high)
