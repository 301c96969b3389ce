-- Writing one field.
use Rattle.std.specs.Prelude.{List, ◌≡◌, ℕ, ◌+◌, ◌*◌, ◌≤◌, length}
use Rattle.std.proofs.lemmas.List.Edits.{sets}
use Rattle.rules.specs.Bytes.{all_bytes}
use Rattle.rules.specs.Fields.{table, row_of, field}
use Rattle.rules.specs.Lawful.{Content}

-- the field of tag t with the numbers v, and its length
abbrev pub field_of : ℕ → List ℕ → List ℕ
field_of t v = field t (all_bytes (row_of table t).width v)

abbrev pub size_of : ℕ → List ℕ → ℕ
size_of t v = 3 + (row_of table t).width * length v

-- the numbers can stand in it, and the output has room for it at p
pub record FieldRoom (t : ℕ) (v : List ℕ) (p : ℕ) (out : List ℕ) : Type 0 where
  pub content : Content (row_of table t) v
  pub room : p + size_of t v ≤ length out

-- it was written at p, and r is the place after it
pub record FieldWritten (t : ℕ) (v : List ℕ) (p : ℕ) (out : List ℕ) (r : ℕ) (after : List ℕ) : Type 0 where
  pub next : r ≡ p + size_of t v
  pub stores : after ≡ sets out p (field_of t v)
