-- The code's table is the rules' table, entry by entry; no line is of a kind beyond data and request.
use mathlib.Core.Bool.{Bool, true, false, cond, and-false}
use mathlib.Core.Logic.{◌≢◌}
use mathlib.Core.List.{List, [], ◌∷◌, map}
use mathlib.Core.Path.{◌≡◌, refl, sym, ap, ◌∙◌}
use Prim.Native.Nat.{ℕ, zero, suc, ◌+◌, ◌-◌, ◌%◌, ◌≤◌, ◌<◌}
use native.Mathlib.Omega.{arith}
use lib.Dec.{eqb}
use lib.ListN.{length, get_or, get_or-map}
use borrow.Author.Tests.{ne_eqb, le-leb, lt-leb}
use Rattle.rules.specs.Maps.{between, all, among}
use Rattle.rules.specs.Fields.{Row as Line, no_row, table, row_of}
use Rattle.rules.proofs.MapsLaws.{Eq?, same, other, eq?, and_both, between-low, between-high}
use Rattle.rules.proofs.FieldsLaws.{all-row_of, row_of-line, usable-row_of, tags_left, tags_left-step, tags_left-end}
use Rattle.rules.proofs.MessageLaws.{table-usable}
use Rattle.frame.specs.declared.table.Row.{Row}
use Rattle.frame.specs.declared.table.Kind.{Kind}
use Rattle.frame.specs.declared.table.Kind.TheVariants.{Data, Request}
use Rattle.frame.specs.declared.table.UnknownKind.{UnknownKind}
use Rattle.std.specs.Prelude.{Result, Ok, Err, Some, None}
use Rattle.std.specs.Result.{result_ok}
use Rattle.frame.specs.declared.table.Tag.{Tag}
use Rattle.frame.specs.declared.table.TheConstants.{TAGS}
use Rattle.frame.specs.Table.{line_of, tag_number, code_of, kind_of, is_of, has, length_fits}

-- what the table gives for a tag, and where it has no line, a line of no kind
pub row-got : (t : ℕ) → 0 < t → get_or (map line_of table) (t - 1) (line_of no_row) ≡ line_of (row_of table t)
row-got t h = get_or-map line_of table (t - 1) no_row ∙ ap line_of (sym (row_of-line table t h))

-- the test of a table: each kind is 1 or 2
abbrev two_kinds : Line → Bool
two_kinds r = all (between 1 2) r.kinds

table-two_kinds : all two_kinds table ≡ true
unfolding table between
table-two_kinds = refl

among-no-other : (k : ℕ) (l : List ℕ) → all (between 1 2) l ≡ true → k ≢ 1 → k ≢ 2 → among k l ≡ false
among-no-other k [] h a b = refl
among-no-other k (x ∷ l) h a b =
    let now = and_both (between 1 2 x) (all (between 1 2) l) h in
    let low : 1 ≤ x = between-low 1 2 x now.0 in
    let high : x ≤ 2 = between-high 1 2 x now.0 in
    rw (ne_eqb k x (λ e. omega arith), among-no-other k l now.1 a b)

-- ---- a number and the kind that it gives, or none

abbrev kind_when : Bool → Bool → ℕ → Result Kind UnknownKind
kind_when a b n = cond a (Ok Data) (cond b (Ok Request) (Err (record { 0 = n })))

module _ (n : ℕ) where
  pub number-is : (k : Kind) → Some k ≡ result_ok (kind_of n) → n ≡ code_of k
  number-is k e = go (eq? n 1) (eq? n 2) e
    where
      go : {a b : Bool} → Eq? n 1 a → Eq? n 2 b → Some k ≡ result_ok (kind_when a b n) → n ≡ code_of k
      go (same e₁) e₂ h = let x : k ≡ Data = cc h in rw x e₁
      go (other a) (same e₂) h = let x : k ≡ Request = cc h in rw x e₂
      go (other a) (other b) h = cc h

  pub number-of-none : None ≡ result_ok (kind_of n) → (n ≢ 1) × (n ≢ 2)
  number-of-none e = go (eq? n 1) (eq? n 2) e
    where
      go : {a b : Bool} → Eq? n 1 a → Eq? n 2 b → None ≡ result_ok (kind_when a b n) → (n ≢ 1) × (n ≢ 2)
      go (same e₁) e₂ h = cc h
      go (other a) (same e₂) h = cc h
      go (other a) (other b) h = (a, b)

module _ (t : ℕ) where
  pub has-of : (k : Kind) → is_of (line_of (row_of table t)) k ≡ has t (code_of k)
  unfolding has
  has-of Data = refl
  has-of Request = refl

  -- what `has_tag` says of the number of a tag, which is u, and of a kind's
  pub has-told : (u : ℕ) → u ≡ t → (n : ℕ) → n ≡ u → (k : Kind) (c : ℕ) → c ≡ code_of k → (b : Bool) → b ≡ has n c → (x : Bool) → b ≡ x → has t (code_of k) ≡ x
  has-told u e n is k c of b says x h = ap (λ i. has i (code_of k)) (sym (is ∙ e)) ∙ ap (has n) (sym of) ∙ sym says ∙ h

  has-no-other : (k : ℕ) → k ≢ 1 → k ≢ 2 → has t k ≡ false
  unfolding has
  has-no-other k a b = among-no-other k (row_of table t).kinds (all-row_of two_kinds refl table table-two_kinds t) a b

  pub has-some : (n : ℕ) (k : Kind) → Some k ≡ result_ok (kind_of n) → is_of (line_of (row_of table t)) k ≡ has t n
  has-some n k e = has-of k ∙ ap (has t) (sym (number-is n k e))

  pub has-none : (n : ℕ) → None ≡ result_ok (kind_of n) → false ≡ has t n
  has-none n e = let other = number-of-none n e in sym (has-no-other n other.0 other.1)

-- ---- a loop over the table's tags

-- the tag at a place is the place's number from 1 on
pub tag-at : (i : ℕ) → i < 10 → (d : Tag) → tag_number (get_or TAGS i d) ≡ i + 1
tag-at zero h d = refl
tag-at (suc zero) h d = refl
tag-at (suc (suc zero)) h d = refl
tag-at (suc (suc (suc zero))) h d = refl
tag-at (suc (suc (suc (suc zero)))) h d = refl
tag-at (suc (suc (suc (suc (suc zero))))) h d = refl
tag-at (suc (suc (suc (suc (suc (suc zero)))))) h d = refl
tag-at (suc (suc (suc (suc (suc (suc (suc zero))))))) h d = refl
tag-at (suc (suc (suc (suc (suc (suc (suc (suc zero)))))))) h d = refl
tag-at (suc (suc (suc (suc (suc (suc (suc (suc (suc zero))))))))) h d = refl
tag-at (suc (suc (suc (suc (suc (suc (suc (suc (suc (suc i)))))))))) h d = absurd (omega arith)

ten : length table ≡ 10
unfolding table
ten = refl

module _ (t k : ℕ) where
  pub tags-step : 1 ≤ t → t ≤ 10 → (b : Bool) → has t k ≡ b
      → tags_left table t k ≡ cond b (t ∷ tags_left table (t + 1) k) (tags_left table (t + 1) k)
  unfolding has
  tags-step low high b e =
      tags_left-step table t k low (omega (arith, ten)) ∙ ap (λ b. cond b (t ∷ tags_left table (t + 1) k) (tags_left table (t + 1) k)) e

  pub tags-end : t ≡ 11 → tags_left table t k ≡ []
  tags-end e = tags_left-end table t k (omega (arith, ten))

-- ---- the ways out of `length_fits`

module _ (t n : ℕ) (r : Row) (e : r ≡ line_of (row_of table t)) where
  least-is : r.least ≡ (row_of table t).least
  least-is = ap (λ (x : Row). x.least) e

  greatest-is : r.greatest ≡ (row_of table t).greatest
  greatest-is = ap (λ (x : Row). x.greatest) e

  width_is : r.width ≡ (row_of table t).width
  width_is = ap (λ (x : Row). x.width) e

  pub width_positive : 0 < r.width
  width_positive = omega (arith, width_is, (usable-row_of table table-usable t).width)

  pub too_short : n < r.least → false ≡ length_fits t n
  unfolding length_fits
  too_short h = rw (lt-leb (row_of table t).least n (omega (arith, least-is)))

  pub too_long : r.greatest < n → false ≡ length_fits t n
  unfolding length_fits
  too_long h = rw (lt-leb n (row_of table t).greatest (omega (arith, greatest-is)), and-false)

  pub within : r.least ≤ n → n ≤ r.greatest → eqb (n % r.width) 0 ≡ length_fits t n
  unfolding length_fits
  within low high =
      rw (le-leb (row_of table t).least n (omega (arith, least-is)), le-leb n (row_of table t).greatest (omega (arith, greatest-is)), width_is)
