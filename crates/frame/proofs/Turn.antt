-- One turn of the loop over the table's tags, in the terms of `well_formed`.
use mathlib.Core.Bool.{Bool, true, false, cond, ◌&&◌}
use mathlib.Core.List.{List}
use mathlib.Core.Path.{◌≡◌, refl, sym, ap, ◌∙◌}
use Prim.Native.Nat.{ℕ, ◌+◌, ◌≤◌}
use native.Mathlib.Omega.{arith}
use lib.Dec.{eqb}
use lib.ListN.{length, drop, length-drop}
use lib.Seq.{drop-drop}
use borrow.Author.Tests.{eqb-true, eq-eqb}
use Rattle.rules.specs.Fields.{table, tags_of, length_of, field_fits, fits}
use Rattle.rules.proofs.MapsLaws.{same_test}
use Rattle.rules.proofs.FieldsLaws.{is_field, tags_left}
use Rattle.frame.specs.declared.field.Field.{Field}
use Rattle.frame.specs.Table.{has}
use Rattle.frame.specs.Field.{found, field_at}
use Rattle.std.specs.Prelude.{Some, None}
use Rattle.frame.proofs.Lines.{tags-step, tags-end}

-- what was found says whether the field fits, and where it ends
module _ (l : List ℕ) (p t : ℕ) where
  fits-not : None ≡ field_at l p t → field_fits table t (drop p l) ≡ false
  unfolding field_at
  fits-not h = go (field_fits table t (drop p l)) h
    where
      go : (b : Bool) → None ≡ cond b (Some (found l p)) None → b ≡ false
      go true e = cc e
      go false e = refl

  module _ (f : Field) where
    fits-here : Some f ≡ field_at l p t → field_fits table t (drop p l) ≡ true
    unfolding field_at
    fits-here h = go (field_fits table t (drop p l)) h
      where
        go : (b : Bool) → Some f ≡ cond b (Some (found l p)) None → b ≡ true
        go true e = refl
        go false e = cc e

    ends-here : Some f ≡ field_at l p t → f.end ≡ p + 3 + length_of (drop p l)
    unfolding field_at
    ends-here h = go (field_fits table t (drop p l)) h
      where
        go : (b : Bool) → Some f ≡ cond b (Some (found l p)) None → f.end ≡ p + 3 + length_of (drop p l)
        go true e = let same : f ≡ found l p = cc e in ap (λ (x : Field). x.end) same
        go false e = cc e

module _ (l : List ℕ) (p t k : ℕ) (low : 1 ≤ t) (high : t ≤ 10) where
  pass-by : has t k ≡ false → fits table (tags_left table t k) (drop p l) ≡ fits table (tags_left table (t + 1) k) (drop p l)
  pass-by n = ap (λ ts. fits table ts (drop p l)) (tags-step t k low high false n)

  here : has t k ≡ true
      → fits table (tags_left table t k) (drop p l)
      ≡ field_fits table t (drop p l) && fits table (tags_left table (t + 1) k) (drop (3 + length_of (drop p l)) (drop p l))
  here y = ap (λ ts. fits table ts (drop p l)) (tags-step t k low high true y)

  module _ (y : has t k ≡ true) where
    refused : None ≡ field_at l p t → fits table (tags_left table t k) (drop p l) ≡ false
    refused e = here y ∙ rw (fits-not l p t e)

    module _ (f : Field) (e : Some f ≡ field_at l p t) where
      over : fits table (tags_left table t k) (drop p l) ≡ fits table (tags_left table (t + 1) k) (drop f.end l)
      over =
          let place : p + (3 + length_of (drop p l)) ≡ f.end = omega (arith, ends-here l p t f e) in
          here y ∙ rw (fits-here l p t f e, drop-drop (3 + length_of (drop p l)) p l, place)

      inside : f.end ≤ length l
      inside =
          let x = is_field table t (drop p l) (fits-here l p t f e) in
          omega (arith, ends-here l p t f e, length-drop p l, x.long, x.inside)

-- ---- the walk: the fields of the tags below `tag` are passed, up to `at`

pub record Walked (l : List ℕ) (k at tag : ℕ) : Type 0 where
  pub low : 1 ≤ tag
  pub high : tag ≤ 11
  pub inside : at ≤ length l
  pub rest : fits table (tags_left table tag k) (drop at l) ≡ fits table (tags_of table k) l

pub none-walked : (l : List ℕ) (k : ℕ) → Walked l k 0 1
unfolding tags_of
none-walked l k = record { low = omega arith; high = omega arith; inside = omega arith; rest = refl }

module _ (l : List ℕ) (k at tag : ℕ) (w : Walked l k at tag) where
  pub walked_by : tag ≤ 10 → has tag k ≡ false → Walked l k at (tag + 1)
  walked_by h n =
      record { low = omega arith; high = omega arith; inside = w.inside; rest = sym (pass-by l at tag k w.low h n) ∙ w.rest }

  module _ (h : tag ≤ 10) (y : has tag k ≡ true) where
    pub stopped : None ≡ field_at l at tag → false ≡ fits table (tags_of table k) l
    stopped e = sym (refused l at tag k w.low h y e) ∙ w.rest

    pub walked-over : (f : Field) → Some f ≡ field_at l at tag → Walked l k f.end (tag + 1)
    walked-over f e =
        record {
          low = omega arith;
          high = omega arith;
          inside = inside l at tag k w.low h y f e;
          rest = sym (over l at tag k w.low h y f e) ∙ w.rest;
        }

  -- past the table nothing is left, and nothing may follow
  pub walked_all : tag ≡ 11 → eqb at (length l) ≡ fits table (tags_of table k) l
  walked_all e =
      same_test (eqb at (length l)) (eqb (length (drop at l)) 0)
      (λ x. eq-eqb (length (drop at l)) 0 (omega (arith, length-drop at l, eqb-true at (length l) x)))
      (λ x. eq-eqb at (length l) (omega (arith, length-drop at l, w.inside, eqb-true (length (drop at l)) 0 x)))
      ∙ ap (λ ts. fits table ts (drop at l)) (sym (tags-end tag k e))
      ∙ w.rest
