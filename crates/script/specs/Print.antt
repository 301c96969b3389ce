-- What is printed: numbers in plain decimal, and lines of items.
use Rattle.std.specs.Prelude.{cond, List, [], ◌∷◌, ◌++◌, ℕ, zero, suc, ◌+◌, ◌/◌, ◌%◌, ltb}
use Prim.Native.Char.{code}
use Prim.Native.String.{String}
use Rattle.script.specs.Lines.{line_feed}
use Rattle.script.specs.Items.{glued}
use Rattle.script.specs.Desk.{Reply, unknown, answers, took}

-- the bytes of a text
abbrev pub text : String → List ℕ
text String.[] = []
text (String.◌∷◌ c s) = code c ∷ text s

-- the digits of x, of which there are at most m
abbrev pub digits : ℕ → ℕ → List ℕ
digits zero x = []
digits (suc m) x =
    let more : List ℕ = digits m (x / 10) ++ ((48 + x % 10) ∷ []) in
    cond (ltb x 10) ((48 + x) ∷ []) more

unfoldable pub decimal : ℕ → List ℕ
decimal x = digits (suc x) x

-- a line of these items, ended
abbrev pub joined : List (List ℕ) → List ℕ
joined l = glued l ++ (line_feed ∷ [])

-- ---- the lines

unfoldable pub group_line : ℕ → ℕ → List ℕ
group_line n w = joined (text "group" ∷ decimal n ∷ decimal w ∷ [])

unfoldable pub no_group_line : List ℕ
no_group_line = joined (text "group" ∷ text "?" ∷ [])

abbrev pub reply_items : Reply → List (List ℕ)
reply_items unknown = text "?" ∷ []
reply_items (answers a) = decimal a ∷ []
reply_items (took j x word) = decimal 0 ∷ decimal j ∷ decimal x ∷ word ∷ []

-- line number k, and the reply
unfoldable pub reply_line : ℕ → Reply → List ℕ
reply_line k p = joined (decimal k ∷ reply_items p)
