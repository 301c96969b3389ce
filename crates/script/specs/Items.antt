-- A line of a script, read: its items, and the command that they are.
use Rattle.std.specs.Prelude.{Bool, cond, not, ◌&&◌, ◌||◌, List, [], ◌∷◌, ◌++◌, ℕ, ◌+◌, ◌-◌, ◌*◌, eqb, leb, ltb, length, get_or}
use Prim.Native.Char.{code}
use Rattle.rules.specs.Maps.{between, all}
use Rattle.script.specs.Lines.{parted, longest}

abbrev pub space : ℕ
space = 32

-- Items are parted by one space: where a space leads, trails or is doubled, an item is empty.
abbrev pub items : List ℕ → List (List ℕ)
items l = parted space ([] ∷ []) l

-- such a line: the items with a space between any two
abbrev pub glued : List (List ℕ) → List ℕ
glued [] = []
glued (x ∷ []) = x
glued (x ∷ y ∷ l) = x ++ (space ∷ glued (y ∷ l))

-- ---- numbers: plain decimal, no leading zeros, of any length

abbrev pub is_digit : ℕ → Bool
is_digit b = between 48 57 b

unfoldable pub is_number : List ℕ → Bool
is_number l = ltb 0 (length l) && (eqb (length l) 1 || not (eqb (get_or l 0 0) 48)) && all is_digit l

-- v, with further digits
abbrev pub value_from : ℕ → List ℕ → ℕ
value_from v [] = v
value_from v (b ∷ l) = value_from (v * 10 + (b - 48)) l

abbrev pub value : List ℕ → ℕ
value l = value_from 0 l

-- ---- words: one or more printable bytes, none of them a space

abbrev pub is_printable : ℕ → Bool
is_printable b = between 33 126 b

unfoldable pub is_word : List ℕ → Bool
is_word l = ltb 0 (length l) && all is_printable l

-- ---- commands

pub data Command : Type 0 where
  groups : (n w : ℕ) → Command
  sends : (u : ℕ) (word : List ℕ) → Command
  arrives : (u f : ℕ) → Command
  requests : (u k : ℕ) → Command
  takes : (u : ℕ) → Command
  unreadable : Command

-- an item of one byte is that letter, any other is 0
abbrev pub letter : List ℕ → ℕ
letter [] = 0
letter (b ∷ []) = b
letter (b ∷ c ∷ l) = 0

-- `T u`
unfoldable pub of_two : ℕ → ℕ → Command
of_two c u = cond (eqb c (code "T")) (takes u) unreadable

-- `G n W`, `S u word`, `A u f`, `R u k`
unfoldable pub of_three : ℕ → ℕ → List ℕ → Command
of_three c u z =
    cond (eqb c (code "S") && is_word z) (sends u z)
    (cond (eqb c (code "G") && is_number z) (groups u (value z))
    (cond (eqb c (code "A") && is_number z) (arrives u (value z))
    (cond (eqb c (code "R") && is_number z) (requests u (value z)) unreadable)))

-- a letter, a number, and in a line of three items a number or a word
abbrev pub of_items : List (List ℕ) → Command
of_items [] = unreadable
of_items (x ∷ []) = unreadable
of_items (x ∷ y ∷ []) = cond (is_number y) (of_two (letter x) (value y)) unreadable
of_items (x ∷ y ∷ z ∷ []) = cond (is_number y) (of_three (letter x) (value y) z) unreadable
of_items (x ∷ y ∷ z ∷ t ∷ l) = unreadable

-- a line of at most 80 bytes; any other line is unreadable
unfoldable pub command : List ℕ → Command
command l = cond (leb (length l) longest) (of_items (items l)) unreadable
