-- What it is to print a text at the front of an output.
use Rattle.std.specs.Prelude.{List, ◌≡◌, ℕ, ◌≤◌, length}
use Rattle.rules.specs.Calls.{written}

-- no line that is printed is longer
abbrev pub longest : ℕ
longest = 84

pub record Prints (text out : List ℕ) (len : ℕ) (out' : List ℕ) : Type 0 where
  pub count : len ≡ length text
  pub bytes : out' ≡ written out text

-- and the text is a line
pub record PrintsLine (text out : List ℕ) (len : ℕ) (out' : List ℕ) : Type 0 where
  pub prints : Prints text out len out'
  pub short : len ≤ longest
