-- House fields (01, "Frames"): one byte tag, two bytes length, content; and the table of the ten tags.
use Rattle.std.specs.Prelude.{Bool, cond, ◌&&◌, List, [], ◌∷◌, ◌++◌, ℕ, zero, suc, ◌+◌, ◌/◌, ◌%◌, eqb, leb, length, get_or, take, drop}
use Rattle.rules.specs.Maps.{among}
use Rattle.rules.specs.Bytes.{bytes, number, all_bytes, all_numbers}

-- A line of a table of tags. The content is numbers of `width` bytes each; its length in bytes is from `least` to
-- `greatest`; frames of these kinds have the field.
pub record Row : Type 0 where
  pub width : ℕ
  pub least : ℕ
  pub greatest : ℕ
  pub kinds : List ℕ

abbrev row : ℕ → ℕ → ℕ → List ℕ → Row
row w a b k = record { width = w; least = a; greatest = b; kinds = k }

-- the kinds, by their number in tag 2: 1 data, 2 request
abbrev data_only : List ℕ
data_only = 1 ∷ []

abbrev request_only : List ℕ
request_only = 2 ∷ []

abbrev both : List ℕ
both = 1 ∷ 2 ∷ []

-- 01's table: edition, kind, CID, SRC, SEQ, ACK, BUF, LSRC, LSEQ, data
unfoldable pub table : List Row
table =
    row 1 1 1 both
    ∷ row 1 1 1 both
    ∷ row 4 4 4 both
    ∷ row 1 1 1 both
    ∷ row 4 4 4 data_only
    ∷ row 4 8 32 both
    ∷ row 2 2 2 data_only
    ∷ row 1 1 1 request_only
    ∷ row 4 4 4 request_only
    ∷ row 1 0 48 data_only
    ∷ []

-- Reading and writing go by any table rs, so that an edition is a table.

-- a line of no kind
abbrev pub no_row : Row
no_row = row 1 0 0 []

-- the line of tag t, the first being 1; of no kind for tag 0 and past the table
unfoldable pub row_of : List Row → ℕ → Row
row_of rs zero = no_row
row_of rs (suc i) = get_or rs i no_row

-- the tags of kind k, in rising order: from tag t on, in the lines rs
abbrev pub tags_from : ℕ → List Row → ℕ → List ℕ
tags_from t [] k = []
tags_from t (r ∷ rs) k = cond (among k r.kinds) (t ∷ tags_from (suc t) rs k) (tags_from (suc t) rs k)

unfoldable pub tags_of : List Row → ℕ → List ℕ
tags_of rs k = tags_from 1 rs k

-- the field of tag t with this content
abbrev pub field : ℕ → List ℕ → List ℕ
field t c = t ∷ bytes 2 (length c) ++ c

-- the fields of the tags ts, of which vs are the numbers
abbrev pub print : List Row → List ℕ → List (List ℕ) → List ℕ
print rs [] vs = []
print rs (t ∷ ts) [] = []
print rs (t ∷ ts) (v ∷ vs) = field t (all_bytes (row_of rs t).width v) ++ print rs ts vs

-- the length that the first field of l says
abbrev pub length_of : List ℕ → ℕ
length_of l = number (take 2 (drop 1 l))

-- l starts with a whole field of tag t, its length as the table says
unfoldable pub field_fits : List Row → ℕ → List ℕ → Bool
field_fits rs t l =
    leb 3 (length l)
    && eqb (get_or l 0 0) t
    && leb (row_of rs t).least (length_of l)
    && leb (length_of l) (row_of rs t).greatest
    && eqb (length_of l % (row_of rs t).width) 0
    && leb (3 + length_of l) (length l)

-- l is fields of the tags ts, each exactly once and in this order, and nothing follows
abbrev pub fits : List Row → List ℕ → List ℕ → Bool
fits rs [] l = eqb (length l) 0
fits rs (t ∷ ts) l = field_fits rs t l && fits rs ts (drop (3 + length_of l) l)

-- the numbers in the first field of l, and in each field
abbrev pub first_numbers : List Row → ℕ → List ℕ → List ℕ
first_numbers rs t l = all_numbers (row_of rs t).width (length_of l / (row_of rs t).width) (drop 3 l)

abbrev pub numbers : List Row → List ℕ → List ℕ → List (List ℕ)
numbers rs [] l = []
numbers rs (t ∷ ts) l = first_numbers rs t l ∷ numbers rs ts (drop (3 + length_of l) l)
