-- Bytes in lines.
use Rattle.std.specs.Prelude.{cond, List, [], ◌∷◌, ◌≡◌, ℕ, ◌<◌, eqb, ltb, length, Option, Some, None, IfSome}

-- b, before the first of these
abbrev pub onto : ℕ → List (List ℕ) → List (List ℕ)
onto b [] = (b ∷ []) ∷ []
onto b (x ∷ l) = (b ∷ x) ∷ l

-- the parts of a text that each byte c ends; `rest` is what there is where nothing is left
abbrev pub parted : ℕ → List (List ℕ) → List ℕ → List (List ℕ)
parted c rest [] = rest
parted c rest (b ∷ l) = cond (eqb b c) ([] ∷ parted c rest l) (onto b (parted c rest l))

abbrev pub line_feed : ℕ
line_feed = 10

-- A line feed ends a line. After a final one nothing follows; a last line without one counts.
abbrev pub lines : List ℕ → List (List ℕ)
lines l = parted line_feed [] l

-- lines are at most this many bytes, their line feed not counted
abbrev pub longest : ℕ
longest = 80

-- the bytes before the first c
abbrev pub before : ℕ → List ℕ → List ℕ
before c [] = []
before c (b ∷ l) = cond (eqb b c) [] (b ∷ before c l)

-- the place of the first c in s, where there is one
unfoldable pub place_of : ℕ → List ℕ → Option ℕ
place_of c s = cond (ltb (length (before c s)) (length s)) (Some (length (before c s))) None

-- r is that place
pub record Found (s : List ℕ) (c : ℕ) (r : Option ℕ) : Type 0 where
  pub place : r ≡ place_of c s
  pub within : IfSome r (λ i. i < length s)
