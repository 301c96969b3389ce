-- What the field reader's functions hand back.
use Rattle.std.specs.Prelude.{Option, List, ℕ}
use Rattle.std.specs.Borrow.{Bor}
use Rattle.frame.specs.declared.field.Field.{Field}
use Rattle.frame.specs.declared.reader.Reader.{Reader}
use Rattle.frame.specs.Field.{field_at, part_at}

-- at the start of a frame
abbrev pub begun : Bor (List ℕ) → Reader
begun s = record { frame = s; at = 0 }

-- the field of tag t that stands at the reader's place
abbrev pub next_of : Reader → ℕ → Option Field
next_of r t = field_at r.frame.now r.at t

-- after a field of the same frame
abbrev pub after_of : Reader → Field → Reader
after_of r f = record { frame = r.frame; at = f.end }

-- a field's content
abbrev pub part_of : Reader → Field → List ℕ
part_of r f = part_at r.frame.now f.start f.end
