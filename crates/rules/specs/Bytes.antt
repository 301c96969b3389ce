-- Numbers as bytes, high byte first, at any width.
use Rattle.std.specs.Prelude.{List, [], ◌∷◌, ◌++◌, ℕ, zero, suc, ◌+◌, ◌*◌, ◌/◌, ◌%◌, ◌^◌, length, take, drop}

-- the w bytes of x
abbrev pub bytes : ℕ → ℕ → List ℕ
bytes zero x = []
bytes (suc w) x = x / 256 ^ w ∷ bytes w (x % 256 ^ w)

-- the number that the bytes say
abbrev pub number : List ℕ → ℕ
number [] = 0
number (b ∷ l) = b * 256 ^ length l + number l

-- numbers one after the other, w bytes each
abbrev pub all_bytes : ℕ → List ℕ → List ℕ
all_bytes w [] = []
all_bytes w (x ∷ xs) = bytes w x ++ all_bytes w xs

-- the n numbers that the bytes say, w bytes each
abbrev pub all_numbers : ℕ → ℕ → List ℕ → List ℕ
all_numbers w zero l = []
all_numbers w (suc n) l = number (take w l) ∷ all_numbers w n (drop w l)
