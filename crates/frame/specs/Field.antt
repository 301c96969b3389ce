-- A field at a place of a frame, and a part of a frame.
use Rattle.std.specs.Prelude.{Option, Some, None, cond, ◌&&◌, List, [], ℕ, ◌+◌, ◌-◌, leb, length, take, drop}
use Rattle.rules.specs.Fields.{table, length_of, field_fits}
use Rattle.frame.specs.declared.field.Field.{Field}

-- the field at p, its length as it says
abbrev pub found : List ℕ → ℕ → Field
found l p = record { start = p + 3; end = p + 3 + length_of (drop p l) }

unfoldable pub field_at : List ℕ → ℕ → ℕ → Option Field
field_at l p t =
    cond (field_fits table t (drop p l)) (Some (found l p)) None

-- the bytes from a up to e, where l has them
unfoldable pub part_at : List ℕ → ℕ → ℕ → List ℕ
part_at l a e = cond (leb a e && leb e (length l)) (take (e - a) (drop a l)) []
