-- The input in parts: what is kept from one byte to the next, and what each byte prints.
use Rattle.std.specs.Prelude.{Bool, true, false, cond, List, [], ◌∷◌, ◌++◌, ℕ, suc, eqb, ltb, length}
use Rattle.std.proofs.Math.Option.{Option, none, some}
use Rattle.script.specs.Lines.{line_feed, longest}
use Rattle.script.specs.Items.{Command, unreadable, command}
use Rattle.script.specs.Desk.{Desk, opened_desk, Acted, act}
use Rattle.script.specs.Print.{group_line, no_group_line, reply_line}
use Rattle.script.specs.Script.{Group, group_of}

-- ---- a line that is not ended yet

-- its first 80 bytes, and whether there were more
pub record Begun : Type 0 where
  pub bytes : List ℕ
  pub long : Bool

abbrev pub empty : Begun
empty = record { bytes = []; long = false }

unfoldable pub longer : Begun → ℕ → Begun
longer l b =
    cond (ltb (length l.bytes) longest)
    (record { bytes = l.bytes ++ (b ∷ []); long = l.long })
    (record { bytes = l.bytes; long = true })

unfoldable pub command_in : Begun → Command
command_in l = cond l.long unreadable (command l.bytes)

-- ---- how far the script has come

pub data Stage : Type 0 where
  -- the first line is to come
  first : Stage
  -- line k is to come
  later : (d : Desk) (k : ℕ) → Stage
  -- no line is read any more
  over : Stage

pub record Told : Type 0 where
  pub next : Stage
  pub text : List ℕ

abbrev pub begins : Option Group → Told
begins none = record { next = over; text = no_group_line }
begins (some g) = record { next = later (opened_desk g.n g.w) 2; text = group_line g.n g.w }

-- the 64th later line is line 65
abbrev pub tells : Stage → Command → Told
tells first c = begins (group_of c)
tells (later d k) c =
    let a : Acted = act d c in
    record { next = cond (ltb k 65) (later a.desk (suc k)) over; text = reply_line k a.reply }
tells over c = record { next = over; text = [] }

-- what the end of the input prints, where no line is begun
abbrev pub closes : Stage → List ℕ
closes first = no_group_line
closes (later d k) = []
closes over = []

-- ---- bytes and parts

pub record Reader : Type 0 where
  pub line : Begun
  pub stage : Stage

abbrev pub start : Reader
start = record { line = empty; stage = first }

-- the next reader, and what is printed on the way
pub record Read : Type 0 where
  pub next : Reader
  pub text : List ℕ

abbrev pub read_line : Reader → Read
read_line r =
    let t : Told = tells r.stage (command_in r.line) in
    record { next = record { line = empty; stage = t.next }; text = t.text }

unfoldable pub read_byte : Reader → ℕ → Read
read_byte r b =
    cond (eqb b line_feed) (read_line r)
    (record { next = record { line = longer r.line b; stage = r.stage }; text = [] })

-- one after the other
abbrev pub read_each : {A : Type 0} → (Reader → A → Read) → Reader → List A → Read
read_each f r [] = record { next = r; text = [] }
read_each f r (x ∷ l) =
    let s : Read = f r x in
    let t : Read = read_each f s.next l in
    record { next = t.next; text = s.text ++ t.text }

abbrev pub read_part : Reader → List ℕ → Read
read_part r l = read_each read_byte r l

abbrev pub read_parts : Reader → List (List ℕ) → Read
read_parts r ps = read_each read_part r ps

-- what the end of the input prints: a last line without a line feed counts
unfoldable pub ends : Reader → List ℕ
ends r = cond (ltb 0 (length r.line.bytes)) (read_line r).text (closes r.stage)

-- what an input prints that comes in these parts
unfoldable pub printed_parts : List (List ℕ) → List ℕ
printed_parts ps =
    let s : Read = read_parts start ps in
    s.text ++ ends s.next
