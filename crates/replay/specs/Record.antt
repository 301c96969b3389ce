-- A call as a record of bytes, and the bytes of what it gave (docs/REPLAY.md).
use Rattle.std.specs.Prelude.{List, [], ◌∷◌, ◌++◌, ℕ, ◌+◌, ◌*◌, ◌/◌, ◌%◌, get_or, take, drop}

-- ---- a call

-- byte p, and the number of four bytes from there on
abbrev pub byte_at : List ℕ → ℕ → ℕ
byte_at l p = get_or l p 0

abbrev pub number_at : List ℕ → ℕ → ℕ
number_at l p = 16777216 * byte_at l p + 65536 * byte_at l (p + 1) + 256 * byte_at l (p + 2) + byte_at l (p + 3)

abbrev pub call_of : List ℕ → ℕ
call_of l = byte_at l 0

abbrev pub x_of : List ℕ → ℕ
x_of l = number_at l 2

-- the unit that is named by the last byte of x
abbrev pub k_of : List ℕ → ℕ
k_of l = x_of l % 256

-- how many bytes of the output are lent
abbrev pub room_of : List ℕ → ℕ
room_of l = byte_at l 6

-- those of the 200 bytes that count
abbrev pub text_of : List ℕ → List ℕ
text_of l = take (byte_at l 7) (take 200 (drop 8 l))

-- ---- what it gave

abbrev pub four : ℕ → List ℕ
four x = x / 16777216 % 256 ∷ x / 65536 % 256 ∷ x / 256 % 256 ∷ x % 256 ∷ []

abbrev pub head_of : ℕ → ℕ → ℕ → ℕ → List ℕ
head_of answer a b c = answer % 256 ∷ four a ++ four b ++ four c ++ (0 ∷ 0 ∷ 0 ∷ [])
