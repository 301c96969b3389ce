-- The rules' table as the code holds it.
use Rattle.std.specs.Prelude.{Bool, cond, ◌&&◌, ℕ, ◌%◌, eqb, leb, Result, Ok, Err}
use Rattle.rules.specs.Maps.{among}
use Rattle.rules.specs.Fields.{Row as Line, table, row_of}
use Rattle.frame.specs.declared.table.Row.{Row}
use Rattle.frame.specs.declared.table.Tag.{Tag}
use Rattle.frame.specs.declared.table.Tag.TheVariants.{Edition, Kind, Cid, Src, Seq, Ack, Buf, Lsrc, Lseq, Data}
use Rattle.frame.specs.declared.table.Kind.{Kind as FrameKind}
use Rattle.frame.specs.declared.table.Kind.TheVariants as Of
use Rattle.frame.specs.declared.table.UnknownKind.{UnknownKind}

abbrev pub line_of : Line → Row
line_of r =
    record {
      width = r.width;
      least = r.least;
      greatest = r.greatest;
      message = among 1 r.kinds;
      request = among 2 r.kinds;
    }

abbrev pub tag_number : Tag → ℕ
tag_number Edition = 1
tag_number Kind = 2
tag_number Cid = 3
tag_number Src = 4
tag_number Seq = 5
tag_number Ack = 6
tag_number Buf = 7
tag_number Lsrc = 8
tag_number Lseq = 9
tag_number Data = 10

-- the number of a kind in tag 2, and the kind of a number
abbrev pub code_of : FrameKind → ℕ
code_of Of.Data = 1
code_of Of.Request = 2

abbrev pub kind_of : ℕ → Result FrameKind UnknownKind
kind_of c = cond (eqb c 1) (Ok Of.Data) (cond (eqb c 2) (Ok Of.Request) (Err (record { 0 = c })))

-- frames of this kind have the field
abbrev pub is_of : Row → FrameKind → Bool
is_of r Of.Data = r.message
is_of r Of.Request = r.request

-- frames of kind k have tag t
unfoldable pub has : ℕ → ℕ → Bool
has t k = among k (row_of table t).kinds

-- a field of tag t can be n bytes long
unfoldable pub length_fits : ℕ → ℕ → Bool
length_fits t n =
    let r = row_of table t in
    leb r.least n && leb n r.greatest && eqb (n % r.width) 0
