-- How the code holds the line that is not ended yet.
use Rattle.std.specs.Prelude.{true, false, cond, ◌≡◌, ℕ, ◌+◌, ltb, take, set, replicate}
use Rattle.script.specs.Lines.{longest}
use Rattle.script.specs.Reader.{Begun, longer}
use Rattle.script.specs.declared.collector.Collector.{Collector}

unfoldable pub emptied : Collector
emptied = record { bytes = replicate longest 0; len = 0; long = false }

-- the line that it holds
abbrev pub begun_of : Collector → Begun
begun_of c = record { bytes = take c.len c.bytes; long = c.long }

-- a further byte: it is stored, or the line is too long
abbrev pub storing : Collector → ℕ → Collector
storing c b = record { bytes = set c.bytes c.len b; len = c.len + 1; long = c.long }

abbrev pub overrun : Collector → Collector
overrun c = record { bytes = c.bytes; len = c.len; long = true }

unfoldable pub pushed : Collector → ℕ → Collector
pushed c b = cond (ltb c.len longest) (storing c b) (overrun c)

-- r is c with a further byte
pub record Pushed (c : Collector) (b : ℕ) (r : Collector) : Type 0 where
  pub exact : r ≡ pushed c b
  pub means : begun_of r ≡ longer (begun_of c) b
