-- The script as the code reads it: what it holds from one byte to the next, and that this is the script's reader.
use Rattle.std.specs.Prelude.{cond, Option, Some, None, List, [], ◌∷◌, ◌++◌, ◌≡◌, ⊤, ℕ, ◌+◌, ◌-◌, ◌≤◌, eqb, ltb, length}
use Rattle.script.specs.Lines.{line_feed}
use Rattle.script.specs.Items.{Command}
use Rattle.script.specs.Print.{group_line, no_group_line, reply_line}
use Rattle.script.specs.Shown.{shown, said, group_in}
use Rattle.script.specs.Gathered.{emptied, begun_of, pushed}
use Rattle.script.specs.Reader.{Begun, command_in, first, later, over, Told, Reader, start, Read, ends}
use Rattle.script.specs.Reader as script
use Rattle.script.specs.declared.line.Group.{Group}
use Rattle.script.specs.declared.collector.Collector.{Collector}
use Rattle.bench.specs.declared.desk.Desk.{Desk}
use Rattle.bench.specs.declared.reading.Stage.{Stage}
use Rattle.bench.specs.declared.reading.Stage.TheVariants.{First, Later, Over}
use Rattle.bench.specs.declared.reading.Bench.{Bench}
use Rattle.bench.specs.Desk.{desk_of, Fits, started_desk}
use Rattle.bench.specs.Commands.{Acted, reply_of, acted_of}
use Rattle.bench.specs.Prints.{longest, Prints}

-- ---- what it shows

unfoldable pub stage_of : Stage → script.Stage
stage_of First = first
stage_of (Later d k) = later (desk_of d) k
stage_of Over = over

abbrev pub reader_of : Bench → Reader
reader_of b = record { line = begun_of b.line; stage = stage_of b.stage }

-- line k is a later one, and each later line before it wrote a frame at most
pub record FitsLine (d : Desk) (k : ℕ) : Type 0 where
  pub desk : Fits d
  pub some : 2 ≤ k
  pub most : k ≤ 65
  pub frames : d.count ≤ k - 2

abbrev pub CanGo : Stage → Type 0
CanGo First = ⊤
CanGo (Later d k) = FitsLine d k
CanGo Over = ⊤

abbrev pub Ready : Bench → Type 0
Ready b = CanGo b.stage

-- ---- a line

-- the next stage, and what is printed
pub record Stepped : Type 0 where
  pub next : Stage
  pub text : List ℕ

abbrev pub begins_with : Option Group → Stepped
begins_with None = record { next = Over; text = no_group_line }
begins_with (Some g) = record { next = Later (started_desk g.n g.w) 2; text = group_line g.n g.w }

-- the command of the line, its word cut from the line's own bytes
abbrev pub command_of : Begun → Command
command_of l = said (shown (command_in l)) l.bytes

-- line k is the last that is read, or the next one is to come
abbrev pub after_line : ℕ → Acted → Stepped
after_line k a = record { next = cond (ltb k 65) (Later a.desk (k + 1)) Over; text = reply_line k (reply_of a.reply) }

unfoldable pub stage_said : Stage → Collector → Stepped
stage_said First l = begins_with (group_in (shown (command_in (begun_of l))))
stage_said (Later d k) l = after_line k (acted_of d (command_of (begun_of l)))
stage_said Over l = record { next = Over; text = [] }

-- in the script's words
abbrev pub as_told : Stepped → Told
as_told s = record { next = stage_of s.next; text = s.text }

-- the bench with what was read, and what that prints
pub record Said : Type 0 where
  pub next : Bench
  pub text : List ℕ

abbrev pub as_script : Said → Read
as_script s = record { next = reader_of s.next; text = s.text }

-- at this stage, and nothing of the next line has been read
abbrev pub before : Stage → Bench
before s = record { line = emptied; stage = s }

abbrev pub line_said : Bench → Said
line_said b = record { next = before (stage_said b.stage b.line).next; text = (stage_said b.stage b.line).text }

-- ---- bytes

abbrev pub pushed_to : Bench → ℕ → Bench
pushed_to b x = record { line = pushed b.line x; stage = b.stage }

unfoldable pub byte_said : Bench → ℕ → Said
byte_said b x = cond (eqb x line_feed) (line_said b) (record { next = pushed_to b x; text = [] })

unfoldable pub part_said : Bench → List ℕ → Said
part_said b [] = record { next = b; text = [] }
part_said b (x ∷ l) =
    let s : Said = byte_said b x in
    let t : Said = part_said s.next l in
    record { next = t.next; text = s.text ++ t.text }

-- an empty input names no group
unfoldable pub stage_ends : Stage → List ℕ
stage_ends First = no_group_line
stage_ends (Later d k) = []
stage_ends Over = []

unfoldable pub end_said : Bench → List ℕ
end_said b = cond (ltb 0 (length (begun_of b.line).bytes)) (line_said b).text (stage_ends b.stage)

-- ---- contracts: `next` and `text` determine the result and every byte of the output

-- a line has ended at a stage: the next stage, and how many bytes were printed
pub record Steps (s : Stepped) (out : List ℕ) (r : Stage × ℕ) (out' : List ℕ) : Type 0 where
  pub next : r.0 ≡ s.next
  pub text : Prints s.text out r.1 out'
  pub short : r.1 ≤ longest
  pub ready : CanGo r.0

-- and this is what the script's reader does
pub record Moves (s : Stepped) (meant : Told) (out : List ℕ) (r : Stage × ℕ) (out' : List ℕ) : Type 0 where
  pub steps : Steps s out r out'
  pub means : as_told s ≡ meant

-- s was said, and left the bench e; at most so many bytes were printed
pub record Tells (s : Said) (most : ℕ) (out : List ℕ) (e : Bench) (len : ℕ) (out' : List ℕ) : Type 0 where
  pub next : e ≡ s.next
  pub text : Prints s.text out len out'
  pub short : len ≤ most
  pub ready : Ready e

-- and this is what the script's reader does
pub record Reads (s : Said) (meant : Read) (most : ℕ) (out : List ℕ) (e : Bench) (len : ℕ) (out' : List ℕ) : Type 0 where
  pub tells : Tells s most out e len out'
  pub means : as_script s ≡ meant

pub record Starts (r : Bench) : Type 0 where
  pub exact : r ≡ before First
  pub means : reader_of r ≡ start
  pub ready : Ready r

-- the input has ended
pub record Ends (b : Bench) (out : List ℕ) (len : ℕ) (out' : List ℕ) : Type 0 where
  pub text : Prints (end_said b) out len out'
  pub short : len ≤ longest
  pub means : end_said b ≡ ends (reader_of b)
