-- The parts of the input that are read one after the other, and what they print.
use Rattle.std.specs.Prelude.{List, [], ◌∷◌, ◌++◌, ◌≡◌, ℕ, ◌*◌, length, take}
use Rattle.script.specs.Reader.{read_part}
use Rattle.bench.specs.declared.reading.Bench.{Bench}
use Rattle.bench.specs.Reading.{reader_of, Ready, part_said, Reads}

-- the part that was read is what standard input gave: no contract knows it
pub record Turns (b e : Bench) : Type 0 where
  pub part : List ℕ
  pub next : e ≡ (part_said b part).next
  pub means : reader_of e ≡ (read_part (reader_of b) part).next
  pub ready : Ready e

-- calls of `feed`, each on the bench that the one before left: the parts, and all that was printed
pub data Run : Bench → List (List ℕ) → List ℕ → Bench → Type 0 where
  none : {b : Bench} → Run b [] [] b
  then : {b m e : Bench} {part out out' text : List ℕ} {ps : List (List ℕ)} {len : ℕ}
      → Reads (part_said b part) (read_part (reader_of b) part) (84 * length part) out m len out' → Run m ps text e
      → Run b (part ∷ ps) (take len out' ++ text) e
