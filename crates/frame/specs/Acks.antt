-- The numbers of ACK as the code holds them.
use Rattle.std.specs.Prelude.{List, ◌++◌, ℕ, ◌+◌, ◌-◌, ◌*◌, ◌/◌, ◌≤◌, length, take, drop, replicate}
use Rattle.rules.specs.Bytes.{number, all_numbers}

-- the numbers, and 0 for the others of the eight
unfoldable pub eight : List ℕ → List ℕ
eight l = l ++ replicate (8 - length l) 0

-- how many stand after the length at p, and which
abbrev pub count_at : List ℕ → ℕ → ℕ
count_at l p = number (take 2 (drop p l)) / 4

abbrev pub acks_at : List ℕ → ℕ → List ℕ
acks_at l p = all_numbers 4 (count_at l p) (drop (p + 2) l)

-- they are at most eight, and the slice has them
pub record AckFits (l : List ℕ) (p : ℕ) : Type 0 where
  pub few : count_at l p ≤ 8
  pub inside : p + 2 + 4 * count_at l p ≤ length l
