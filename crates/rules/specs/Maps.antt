-- Maps and lists over the units, which are numbered from 1, and tests of each of a list.
use Rattle.std.specs.Prelude.{Bool, true, false, cond, ◌&&◌, ◌||◌, List, [], ◌∷◌, ℕ, zero, suc, min, eqb, leb, get_or}

-- x is from a to b
unfoldable pub between : ℕ → ℕ → ℕ → Bool
between a b x = leb a x && leb x b

module _ {A : Type 0} where
  -- f, with v at j
  unfoldable pub upd : (ℕ → A) → ℕ → A → ℕ → A
  upd f j v k = cond (eqb k j) v (f k)

  -- the test holds of each of the list
  abbrev pub all : (A → Bool) → List A → Bool
  all p [] = true
  all p (x ∷ l) = p x && all p l

-- k stands in the list
abbrev pub among : ℕ → List ℕ → Bool
among k [] = false
among k (x ∷ l) = eqb k x || among k l

-- the table t, with v as its column j
unfoldable pub column : (ℕ → ℕ → ℕ) → ℕ → (ℕ → ℕ) → ℕ → ℕ → ℕ
column t j v k c = cond (eqb c j) (v k) (t k c)

-- f of the units 1 to n, and 0 elsewhere
unfoldable pub units : ℕ → (ℕ → ℕ) → ℕ → ℕ
units n f k = cond (between 1 n k) (f k) 0

-- the k-th of a list, the first being 1; 0 where there is none
abbrev pub at : List ℕ → ℕ → ℕ
at l zero = 0
at l (suc k) = get_or l k 0

-- the m numbers from a on: f of each, and the test of each
abbrev pub listed : ℕ → ℕ → (ℕ → ℕ) → List ℕ
listed a zero f = []
listed a (suc m) f = f a ∷ listed (suc a) m f

abbrev pub every : ℕ → ℕ → (ℕ → Bool) → Bool
every a zero p = true
every a (suc m) p = p a && every (suc a) m p

-- the least of f 1 to f n
abbrev pub least : ℕ → (ℕ → ℕ) → ℕ
least zero f = f 1
least (suc m) f = min (least m f) (f (suc m))
