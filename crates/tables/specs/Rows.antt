-- Rows of numbers, and tables of eight rows of eight, as lists.
use Rattle.std.specs.Prelude.{Bool, true, cond, List, ℕ, ◌+◌, ◌-◌, ◌*◌, ◌/◌, ◌%◌, max, eqb, leb, ltb, get_or, drop}
use Rattle.rules.specs.Maps.{between, units, at, listed, every}

-- the m numbers from index a on, 0 past the end
abbrev pub part : List ℕ → ℕ → ℕ → List ℕ
part l a m = listed a m (λ i. get_or l i 0)

-- row k of a table, the first being 1: what stands from there on
abbrev pub row_of : List ℕ → ℕ → List ℕ
row_of t k = drop (8 * (k - 1)) t

-- the table as a map on the units 1 to n, 0 elsewhere
unfoldable pub grid : ℕ → List ℕ → ℕ → ℕ → ℕ
grid n t k j = cond (between 1 n k) (units n (at (row_of t k)) j) 0

-- none of f 1 to f n is 0
unfoldable pub none_zero : ℕ → (ℕ → ℕ) → Bool
none_zero n f = every 1 n (λ k. ltb 0 (f k))

-- f k is at most g k, for each k from 1 to n other than j
unfoldable pub below_but : ℕ → ℕ → (ℕ → ℕ) → (ℕ → ℕ) → Bool
below_but n j f g = every 1 n (λ k. cond (eqb k j) true (leb (f k) (g k)))

-- the table with v as column j
unfoldable pub with_column : List ℕ → ℕ → List ℕ → List ℕ
with_column t j v = listed 0 64 (λ q. cond (eqb (q % 8 + 1) j) (get_or v (q / 8) 0) (get_or t q 0))

-- column j of the table
unfoldable pub column_of : List ℕ → ℕ → List ℕ
column_of t j = listed 0 8 (λ k. at (drop (8 * k) t) j)

-- each of the first n of a raised to at least that of b
unfoldable pub raised : ℕ → List ℕ → List ℕ → List ℕ
raised n a b = listed 0 8 (λ k. cond (ltb k n) (max (get_or a k 0) (get_or b k 0)) (get_or a k 0))
