-- What it is to write a text to lent output, at a place and whole.
use Rattle.std.specs.Prelude.{cond, List, ◌≡◌, ℕ, ◌+◌, leb, length, Option, Some, None}
use Rattle.std.proofs.lemmas.List.Edits.{sets}
use Rattle.rules.specs.Calls.{written}

-- the answer is the text's length, none where `out` is too short; `after` is what the output then holds
pub record Wrote (out text : List ℕ) (answer : Option ℕ) (after : List ℕ) : Type 0 where
  pub count : answer ≡ cond (leb (length text) (length out)) (Some (length text)) None
  pub bytes : after ≡ cond (leb (length text) (length out)) (written out text) out

-- the text stands from `at` on; `next` is the place after it
pub record Put (out : List ℕ) (at : ℕ) (text : List ℕ) (next : ℕ) (after : List ℕ) : Type 0 where
  pub bytes : after ≡ sets out at text
  pub place : next ≡ at + length text
  pub long : length after ≡ length out
