-- The numbers in each field of a message as the code holds them, and the fields of its kind.
use Rattle.std.specs.Prelude.{cond, List, [], ◌∷◌, map, ℕ, ◌^◌, ◌≤◌, ◌<◌, eqb, length}
use Rattle.rules.specs.Fields.{table, tags_of, print}
use Rattle.rules.specs.Message.{edition}
use Rattle.rules.specs.Lawful.{Each, Bytes, Contents}
use Rattle.frame.specs.Table.{code_of}
use Rattle.framewrite.specs.declared.fields.Singles.{Singles}

-- the number that stands alone in the field of tag t
abbrev pub number_of : Singles → ℕ → ℕ
number_of m t =
    cond (eqb t 1) edition
    (cond (eqb t 2) (code_of m.kind)
    (cond (eqb t 3) m.cid
    (cond (eqb t 4) m.src
    (cond (eqb t 5) m.seq (cond (eqb t 7) m.buf (cond (eqb t 8) m.lsrc m.lseq))))))

module _ (m : Singles) (ack text : List ℕ) where
  -- the numbers in the field of tag t
  unfoldable pub content_of : ℕ → List ℕ
  content_of t = cond (eqb t 6) ack (cond (eqb t 10) text (number_of m t ∷ []))

  -- in each field of the kind, in rising tag order
  abbrev pub contents_of : List (List ℕ)
  contents_of = map content_of (tags_of table (code_of m.kind))

  abbrev pub fields_of : List ℕ
  fields_of = print table (tags_of table (code_of m.kind)) contents_of

  -- the numbers can stand in the fields, those of the slices being of four bytes and of one, and the output has room
  pub record FieldsRoom (out : List ℕ) : Type 0 where
    pub contents : Each (λ x. x < 256 ^ 4) ack → Bytes text → Contents table (tags_of table (code_of m.kind)) contents_of
    pub room : length fields_of ≤ length out
