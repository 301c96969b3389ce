-- A column of a table, and a row raised to another, read at a unit.
use mathlib.Core.Bool.{cond}
use mathlib.Core.List.{List}
use mathlib.Core.Path.{◌≡◌, sym, ap, ◌∙◌}
use Prim.Native.Nat.{ℕ, ◌-◌, ◌*◌, ◌≤◌, max}
use native.Mathlib.Omega.{arith}
use native.Mathlib.Nat.{zero-add}
use lib.Dec.{ltb}
use lib.ListN.{get_or, drop}
use borrow.Author.Tests.{lt-ltb}
use Rattle.rules.specs.Maps.{at, listed}
use Rattle.rules.proofs.MapsLaws.{units_in, get_or-listed}
use Rattle.tables.specs.Rows.{row_of, grid, column_of, raised}
use Rattle.tables.proofs.GridLaws.{grid-row}
use Rattle.tables.proofs.RowLaws.{at_before}

-- the k-th of eight
at-eighth : (f : ℕ → ℕ) (k : ℕ) → 1 ≤ k → k ≤ 8 → at (listed 0 8 f) k ≡ f (k - 1)
at-eighth f k a b =
    sym (at_before (listed 0 8 f) k (λ e. omega arith)) ∙ get_or-listed 0 8 f (k - 1) (omega arith) ∙ ap f (zero-add (k - 1))

module _ (n : ℕ) (most : n ≤ 8) (k : ℕ) (low : 1 ≤ k) (high : k ≤ n) where
  pub at-column : (t : List ℕ) (j : ℕ) → 1 ≤ j → j ≤ n → at (column_of t j) k ≡ grid n t k j
  unfolding column_of
  at-column t j a b =
      at-eighth (λ i. at (drop (8 * i) t) j) k low (omega arith)
      ∙ sym (units_in n (at (row_of t k)) j a b)
      ∙ sym (ap (λ (f : ℕ → ℕ). f j) (grid-row n t k low high))

  pub at-raised : (l r : List ℕ) → at (raised n l r) k ≡ max (at l k) (at r k)
  unfolding raised
  at-raised l r =
      at-eighth (λ i. cond (ltb i n) (max (get_or l i 0) (get_or r i 0)) (get_or l i 0)) k low (omega arith)
      ∙ rw (lt-ltb (k - 1) n (omega arith), at_before l k (λ e. omega arith), at_before r k (λ e. omega arith))
