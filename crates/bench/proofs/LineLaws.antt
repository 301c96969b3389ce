-- What the end of a line, and of the input, does on the bench is what it does at the script's reader.
use mathlib.Core.Bool.{Bool, true, false, cond}
use mathlib.Core.List.{List}
use mathlib.Core.Path.{◌≡◌, refl, ap}
use Prim.Native.Nat.{ℕ, ◌+◌, ◌<◌, ◌≤◌}
use native.Mathlib.Omega.{arith}
use native.Mathlib.Nat.{le_trans}
use lib.ListN.{length}
use borrow.Author.Tests.{lt-ltb, le-ltb}
use Rattle.std.specs.Prelude.{Option, Some, None}
use Rattle.script.specs.Script.{in_range}
use Rattle.script.specs.Print.{group_line, no_group_line}
use Rattle.script.specs.Shown.{shown, group_in}
use Rattle.script.specs.Written.{Wrote}
use Rattle.script.specs.Gathered.{emptied, begun_of}
use Rattle.script.specs.Reader.{command_in, tells, closes, Read, read_line, ends}
use Rattle.script.specs.declared.line.Line.{Line}
use Rattle.script.specs.declared.line.Line.TheVariants.{Group, Send, Arrive, Request, Take}
use Rattle.script.specs.declared.line.Group.{Group as Opening}
use Rattle.script.specs.declared.collector.Collector.{Collector}
use Rattle.script.proofs.LinesLaws.{none≢some}
use Rattle.bench.specs.declared.desk.Desk.{Desk}
use Rattle.bench.specs.declared.reading.Stage.{Stage}
use Rattle.bench.specs.declared.reading.Stage.TheVariants.{First, Later, Over}
use Rattle.bench.specs.declared.reading.Bench.{Bench}
use Rattle.bench.specs.Desk.{started_desk}
use Rattle.script.specs.Print.{reply_line}
use Rattle.bench.specs.declared.reply.Reply.{Reply}
use Rattle.bench.specs.Prints.{Prints, PrintsLine}
use Rattle.bench.specs.Commands.{reply_of, Acts}
use Rattle.bench.specs.Reading.{stage_of, reader_of, begins_with, command_of, stage_said, line_said, stage_ends, end_said}
use Rattle.bench.specs.Reading.{FitsLine, Steps, Moves, Starts, Reads, Ends}
use Rattle.bench.proofs.PrintLaws.{wrote-prints, no-group-short, group-short}
use Rattle.bench.proofs.StartLaws.{started-fits}
use Rattle.bench.proofs.ReadLaws.{range-few, first-means, later-means, over-means, line-read}
use Rattle.bench.proofs.FeedLaws.{prints-none}

-- ---- a stage

pub starts_first : {c : Collector} → c ≡ emptied → Starts (record { line = c; stage = First })
unfolding emptied stage_of
starts_first fresh = record { exact = rw fresh; means = rw fresh; ready = tt }

started-line : (n w : ℕ) → n ≤ 3 → FitsLine (started_desk n w) 2
unfolding started_desk
started-line n w few = record { desk = started-fits n w few; some = omega arith; most = omega arith; frames = omega arith }

module _ {out out' : List ℕ} {r : Option ℕ} {len : ℕ} (room : 84 ≤ length out) (is : r ≡ Some len) where
  pub begins-none : Wrote out no_group_line r out' → Steps (begins_with None) out (Over, len) out'
  begins-none w =
      let p = wrote-prints (le_trans no-group-short room) w is in
      record { next = refl; text = p; short = omega (arith, p.count, no-group-short); ready = tt }

  pub begins-group : (g : Opening) {d : Desk} → g.n ≤ 3 → g.w ≤ 4 → d ≡ started_desk g.n g.w → Wrote out (group_line g.n g.w) r out'
      → Steps (begins_with (Some g)) out (Later d 2, len) out'
  begins-group g few narrow e x =
      let short = group-short g.n g.w (omega arith) (omega arith) in
      let p = wrote-prints (le_trans short room) x is in
      record { next = rw e; text = p; short = omega (arith, p.count); ready = rw e (started-line g.n g.w few) }

-- the group that is named has at most three units, and a window of at most 4
pub group-range : (l : Option Line) (g : Opening) → group_in l ≡ Some g → (g.n ≤ 3) × (g.w ≤ 4)
unfolding group_in
group-range (Some (Group m)) g e = go (in_range m.n m.w) refl e
  where
    go : (t : Bool) → in_range m.n m.w ≡ t → cond t (Some m) None ≡ Some g → (g.n ≤ 3) × (g.w ≤ 4)
    go true r q =
        let same : m ≡ g = cc in
        rw same at (range-few m.n m.w r)
    go false r q = absurd (none≢some q)
group-range (Some (Send u len)) g e = absurd (none≢some e)
group-range (Some (Arrive u f)) g e = absurd (none≢some e)
group-range (Some (Request u k)) g e = absurd (none≢some e)
group-range (Some (Take u)) g e = absurd (none≢some e)
group-range None g e = absurd (none≢some e)

-- ---- a line has ended

-- at stage s, where this line has ended
abbrev pub Ended : Stage → Collector → List ℕ → Stage × ℕ → List ℕ → Type 0
Ended s l out r out' = Moves (stage_said s l) (tells (stage_of s) (command_in (begun_of l))) out r out'

module _ (l : Collector) {out : List ℕ} where
  pub first_ended : {r : Stage × ℕ} {out' : List ℕ} → Steps (begins_with (group_in (shown (command_in (begun_of l))))) out r out' → Ended First l out r out'
  unfolding stage_said
  first_ended t = record { steps = t; means = first-means l }

  pub over_ended : Ended Over l out (Over, 0) out
  unfolding stage_said
  over_ended = record { steps = record { next = refl; text = prints-none out; short = omega arith; ready = tt }; means = over-means l }

  module _ (d : Desk) (k : ℕ) (R : FitsLine d k) {e : Desk} {p : Reply} {len : ℕ} {out' : List ℕ}
      (a : Acts d (command_of (begun_of l)) e p) (w : PrintsLine (reply_line k (reply_of p)) out len out') where
    pub later-ended : k < 65 → Ended (Later d k) l out (Later e (k + 1), len) out'
    unfolding stage_said
    later-ended h =
        record {
          steps = record {
            next = rw (lt-ltb k 65 h, a.next);
            text = rw a.reply at w.prints;
            short = w.short;
            ready = record { desk = a.fits; some = omega (arith, R.some); most = omega arith; frames = omega (arith, a.more, R.frames, R.some) };
          };
          means = later-means d k R.desk l a.means;
        }

    pub last-ended : 65 ≤ k → Ended (Later d k) l out (Over, len) out'
    unfolding stage_said
    last-ended h =
        record {
          steps = record { next = rw (le-ltb k 65 h); text = rw a.reply at w.prints; short = w.short; ready = tt };
          means = later-means d k R.desk l a.means;
        }

pub line_reads : (b : Bench) {out out' : List ℕ} {c : Collector} {r : Stage × ℕ} → c ≡ emptied → Ended b.stage b.line out r out'
    → Reads (line_said b) (read_line (reader_of b)) 84 out (record { line = c; stage = r.0 }) r.1 out'
line_reads b fresh m =
    let t = m.steps in
    record { tells = record { next = rw (fresh, t.next); text = t.text; short = t.short; ready = t.ready }; means = line-read b m.means }

-- ---- the end

stage_ends-means : (s : Stage) → stage_ends s ≡ closes (stage_of s)
unfolding stage_ends stage_of
stage_ends-means First = refl
stage_ends-means (Later d k) = refl
stage_ends-means Over = refl

module _ (b : Bench) {out : List ℕ} where
  pub line-ends : {out' : List ℕ} {e : Bench} {len : ℕ} → 0 < length (begun_of b.line).bytes → Reads (line_said b) (read_line (reader_of b)) 84 out e len out'
      → Ends b out len out'
  unfolding end_said ends
  line-ends h t =
      record {
        text = rw (lt-ltb 0 (length (begun_of b.line).bytes) h) t.tells.text;
        short = t.tells.short;
        means = rw (lt-ltb 0 (length (begun_of b.line).bytes) h) (ap (λ (s : Read). s.text) t.means);
      }

  module _ (h : length (begun_of b.line).bytes ≤ 0) where
    pub stage-ends : {out' : List ℕ} {len : ℕ} → Prints (stage_ends b.stage) out len out' → len ≤ 84 → Ends b out len out'
    unfolding end_said ends
    stage-ends p short =
        record {
          text = rw (le-ltb 0 (length (begun_of b.line).bytes) h) p;
          short = short;
          means = rw (le-ltb 0 (length (begun_of b.line).bytes) h) (stage_ends-means b.stage);
        }
