-- What the code holds and prints is what the script's reader holds and prints.
use mathlib.Core.Bool.{Bool, true, false, cond}
use mathlib.Core.Option.{Option, none, some}
use Rattle.std.specs.Prelude.{Option as Maybe}
use mathlib.Core.Path.{◌≡◌, refl, ap, ◌∙◌}
use Prim.Native.Nat.{ℕ, suc, ◌+◌, ◌≤◌}
use native.Mathlib.Omega.{arith}
use native.Mathlib.Numerals.{add-one}
use lib.Dec.{leb, ltb}
use borrow.Author.Tests.{leb-true}
use Rattle.rules.specs.Sound.{ranges_fit}
use Rattle.rules.proofs.MapsLaws.{and_left, and_right}
use Rattle.rules.proofs.SoundLaws.{ranges_fit-facts}
use Rattle.script.specs.Items.{Command, groups, sends, arrives, requests, takes, unreadable}
use Rattle.script.specs.Desk.{act}
use Rattle.script.specs.Desk as script
use Rattle.script.specs.Print.{reply_line}
use Rattle.script.specs.Script.{Group, group_of, in_range}
use Rattle.script.specs.Shown.{shown, group_in}
use Rattle.script.specs.Gathered.{emptied, begun_of}
use Rattle.script.specs.Reader.{Begun, empty, command_in, later, over, Told, begins, tells, read_line}
use Rattle.script.specs.declared.line.Group.{Group as Opening}
use Rattle.script.proofs.SaidLaws.{act-said, shown_group, group_in-shown}
use Rattle.bench.specs.declared.desk.Desk.{Desk}
use Rattle.script.specs.declared.collector.Collector.{Collector}
use Rattle.bench.specs.declared.reading.Stage.{Stage}
use Rattle.bench.specs.declared.reading.Stage.TheVariants.{First, Later, Over}
use Rattle.bench.specs.declared.reading.Bench.{Bench}
use Rattle.bench.specs.Desk.{desk_of, Fits}
use Rattle.bench.specs.Commands as commands
use Rattle.bench.specs.Commands.{acted_of}
use Rattle.bench.specs.Reading.{stage_of, reader_of, as_script, as_told, begins_with, command_of, stage_said, line_said}
use Rattle.bench.proofs.StartLaws.{started-means}
use Rattle.bench.proofs.DeskLaws.{length-frames}

-- ---- the first line

begun-empty : begun_of emptied ≡ empty
unfolding emptied
begun-empty = refl

-- a group that is named is in range
pub range-few : (n w : ℕ) → in_range n w ≡ true → (n ≤ 3) × (w ≤ 4)
unfolding in_range
range-few n w e =
    (leb-true n 3 (and_right (ranges_fit 1 n w) (leb n 3) e), (ranges_fit-facts 1 n w (and_left (ranges_fit 1 n w) (leb n 3) e)).w-high)

none≢some : {g : Group} → none ≡ some g → ⊥
none≢some e =
    let z : ◌≡◌ {A = ℕ} 0 1 = cc in
    omega arith

group-few : (c : Command) (g : Group) → group_of c ≡ some g → g.n ≤ 3
group-few (groups n w) g e = go (in_range n w) refl e
  where
    go : (t : Bool) → in_range n w ≡ t → cond t (some (record { n = n; w = w })) none ≡ some g → g.n ≤ 3
    go true r q =
        let same : n ≡ g.n = cc in
        omega (arith, (range-few n w r).0)
    go false r q = absurd (none≢some q)
group-few (sends u word) g e = absurd (none≢some e)
group-few (arrives u f) g e = absurd (none≢some e)
group-few (requests u k) g e = absurd (none≢some e)
group-few (takes u) g e = absurd (none≢some e)
group-few unreadable g e = absurd (none≢some e)

-- ---- the stage, where a line has ended

begins-means : (c : Command) → as_told (begins_with (group_in (shown c))) ≡ begins (group_of c)
unfolding stage_of
begins-means c = ap (λ (g : Maybe Opening). as_told (begins_with g)) (group_in-shown c) ∙ go (group_of c) (group-few c)
  where
    go : (g : Option Group) → ((h : Group) → g ≡ some h → h.n ≤ 3) → as_told (begins_with (shown_group g)) ≡ begins g
    go none few = refl
    go (some g) few = rw (started-means g.n g.w (few g refl))

-- a line's end, at a stage whose command means what it does on the script's desk
abbrev pub Means : Stage → Collector → Type 0
Means s l = as_told (stage_said s l) ≡ tells (stage_of s) (command_in (begun_of l))

-- line k
module _ (d : Desk) (k : ℕ) (fits : Fits d) (l : Collector) where
  abbrev line : Begun
  line = begun_of l

  abbrev a : commands.Acted
  a = acted_of d (command_of line)

  next-means : stage_of (cond (ltb k 65) (Later a.desk (k + 1)) Over) ≡ cond (ltb k 65) (later (desk_of a.desk) (suc k)) over
  unfolding stage_of
  next-means = go (ltb k 65)
    where
      go : (t : Bool) → stage_of (cond t (Later a.desk (k + 1)) Over) ≡ cond t (later (desk_of a.desk) (suc k)) over
      go true = ap (later (desk_of a.desk)) (add-one k)
      go false = refl

  abbrev told : script.Acted → Told
  told x = record { next = cond (ltb k 65) (later x.desk (suc k)) over; text = reply_line k x.reply }

  pub later-means : commands.as_script a ≡ act (desk_of d) (command_of line) → Means (Later d k) l
  unfolding stage_said stage_of
  later-means m =
      (rw next-means)
      ∙ ap told (m ∙ act-said (desk_of d) (omega (arith, fits.units)) (omega (arith, fits.frames, length-frames d.frames d.count)) line)

pub first-means : (l : Collector) → Means First l
unfolding stage_said stage_of
first-means l = begins-means (command_in (begun_of l))

pub over-means : (l : Collector) → Means Over l
unfolding stage_said stage_of
over-means l = refl

pub line-read : (b : Bench) → Means b.stage b.line → as_script (line_said b) ≡ read_line (reader_of b)
line-read b m = (rw begun-empty) ∙ ap (λ (t : Told). record { next = record { line = empty; stage = t.next }; text = t.text }) m
