-- A table as a map on the units 1 to n: its cells, a column written, the least of a row.
use mathlib.Core.Bool.{Bool, true, false, cond, false≢true}
use mathlib.Core.List.{List}
use mathlib.Core.Path.{◌≡◌, refl, sym, ap, ◌∙◌, fun_ext}
use Prim.Native.Nat.{ℕ, zero, suc, ◌+◌, ◌-◌, ◌*◌, ◌/◌, ◌%◌, ◌≤◌}
use native.Mathlib.Omega.{arith}
use native.Mathlib.Nat.{zero-add}
use lib.Dec.{eqb}
use lib.ListN.{length, get_or, drop, get_or-eq_default}
use lib.Seq.{get_or-drop}
use borrow.Author.Tests.{ne_eqb}
use Rattle.rules.specs.Maps.{between, units, at, column, least}
use Rattle.rules.proofs.MapsLaws.{Lt?, lt, ge, lt?, between-low, between-high, is-between, units_in, least-mono, get_or-listed}
use Rattle.tables.specs.Rows.{part, row_of, grid, with_column}
use Rattle.tables.proofs.ListedLaws.{length_part}
use Rattle.tables.proofs.RowLaws.{at_before}

-- whether k is a unit: match on it, and the test becomes true or false
pub data Unit? (n k : ℕ) : Bool → Type 0 where
  inside : 1 ≤ k → k ≤ n → Unit? n k true
  outside : (1 ≤ k → k ≤ n → ⊥) → Unit? n k false

pub unit? : (n k : ℕ) → Unit? n k (between 1 n k)
unit? n k = go (between 1 n k) (λ e. between-low 1 n k e) (λ e. between-high 1 n k e) (is-between 1 n k)
  where
    go : (t : Bool) → (t ≡ true → 1 ≤ k) → (t ≡ true → k ≤ n) → (1 ≤ k → k ≤ n → t ≡ true) → Unit? n k t
    go true f g h = inside (f refl) (g refl)
    go false f g h = outside (λ a b. false≢true (h a b))

-- ---- a part of a list, a row of a table

module _ (l : List ℕ) where
  pub at_from : (a k : ℕ) → 1 ≤ k → at (drop a l) k ≡ get_or l (a + (k - 1)) 0
  at_from a k h = sym (at_before (drop a l) k (λ e. omega arith)) ∙ get_or-drop a l (k - 1) 0

  pub at_part : (a n k : ℕ) → 1 ≤ k → k ≤ n → at (part l a n) k ≡ get_or l (a + (k - 1)) 0
  at_part a n k h e = sym (at_before (part l a n) k (λ x. omega arith)) ∙ get_or-listed a n (λ i. get_or l i 0) (k - 1) (omega arith)

  at-part-outside : (a n k : ℕ) → (1 ≤ k → k ≤ n → ⊥) → at (part l a n) k ≡ 0
  at-part-outside a n zero h = refl
  at-part-outside a n (suc k) h = go (lt? k n)
    where
      go : {t : Bool} → Lt? k n t → get_or (part l a n) k 0 ≡ 0
      go (lt x) = absurd (h (omega arith) (omega arith))
      go (ge x) = get_or-eq_default (part l a n) 0 (let e : length (part l a n) ≤ k = omega (arith, length_part l a n) in e)

-- ---- the least of a row

least-same : (n : ℕ) (f g : ℕ → ℕ) → 1 ≤ n → ((k : ℕ) → 1 ≤ k → k ≤ n → f k ≡ g k) → least n f ≡ least n g
least-same n f g one h =
    omega (arith, least-mono n f g one (λ k a b. omega (arith, h k a b)), least-mono n g f one (λ k a b. omega (arith, h k a b)))

pub grid-row : (n : ℕ) (t : List ℕ) (k : ℕ) → 1 ≤ k → k ≤ n → grid n t k ≡ units n (at (row_of t k))
unfolding grid
grid-row n t k a b = fun_ext (λ j. rw (is-between 1 n k a b))

pub least-grid : (n : ℕ) (t : List ℕ) (k : ℕ) → 1 ≤ k → k ≤ n → least n (grid n t k) ≡ least n (at (row_of t k))
least-grid n t k a b =
    ap (least n) (grid-row n t k a b)
    ∙ least-same n (units n (at (row_of t k))) (at (row_of t k)) (omega arith) (λ i x y. units_in n (at (row_of t k)) i x y)

-- ---- a column written

module _ (n : ℕ) (most : n ≤ 8) (t v : List ℕ) (a j : ℕ) (low : 1 ≤ j) (high : j ≤ n) where
  abbrev new : List ℕ
  new = with_column t j (drop a v)

  -- a cell of the new table
  cell : (k c : ℕ) → 1 ≤ k → k ≤ n → 1 ≤ c → c ≤ n → at (row_of new k) c ≡ cond (eqb c j) (at (part v a n) k) (at (row_of t k) c)
  unfolding with_column
  cell k c k-low k-high c-low c-high =
      at_from new (8 * (k - 1)) c c-low
      ∙ get_or-listed 0 64 written q (omega arith)
      ∙ ap written (zero-add q)
      ∙ ap (λ (i : ℕ). cond (eqb i j) (get_or (drop a v) (q / 8) 0) (get_or t q 0)) (let e : q % 8 + 1 ≡ c = omega arith in e)
      ∙ ap (λ (i : ℕ). cond (eqb c j) (get_or (drop a v) i 0) (get_or t q 0)) (let e : q / 8 ≡ k - 1 = omega arith in e)
      ∙ ap (λ (x : ℕ). cond (eqb c j) x (get_or t q 0)) (get_or-drop a v (k - 1) 0 ∙ sym (at_part v a n k k-low k-high))
      ∙ ap (λ (x : ℕ). cond (eqb c j) (at (part v a n) k) x) (sym (at_from t (8 * (k - 1)) c c-low))
    where
      q : ℕ
      q = 8 * (k - 1) + (c - 1)

      written : ℕ → ℕ
      written i = cond (eqb (i % 8 + 1) j) (get_or (drop a v) (i / 8) 0) (get_or t i 0)

  -- a row of it, as a map
  row-column : (k c : ℕ) → 1 ≤ k → k ≤ n → cond (eqb c j) (at (part v a n) k) (units n (at (row_of t k)) c) ≡ units n (at (row_of new k)) c
  unfolding units
  row-column k c k-low k-high = go (unit? n c)
    where
      go : {b : Bool} → Unit? n c b → cond (eqb c j) (at (part v a n) k) (cond b (at (row_of t k) c) 0) ≡ cond b (at (row_of new k) c) 0
      go (inside x y) = sym (cell k c k-low k-high x y)
      go (outside x) = rw (ne_eqb c j (λ e. x (omega arith) (omega arith)))

  pub grid-column : column (grid n t) j (at (part v a n)) ≡ grid n new
  unfolding column grid
  grid-column = fun_ext (λ k. fun_ext (λ c. go k c (unit? n k)))
    where
      nought : (b : Bool) → ◌≡◌ {A = ℕ} (cond b 0 0) 0
      nought true = refl
      nought false = refl

      go : (k c : ℕ) {b : Bool} → Unit? n k b → cond (eqb c j) (at (part v a n) k) (cond b (units n (at (row_of t k)) c) 0) ≡ cond b (units n (at (row_of new k)) c) 0
      go k c (inside x y) = row-column k c x y
      go k c (outside x) = ap (λ (z : ℕ). cond (eqb c j) z 0) (at-part-outside v a n k x) ∙ nought (eqb c j)
