-- What a whole run prints is what 01 says of the whole input.
use mathlib.Core.List.{List, [], ◌++◌, append-nil, flatten}
use mathlib.Core.Path.{◌≡◌, refl, sym, ap, ◌∙◌}
use Prim.Native.Nat.{ℕ}
use lib.ListN.{length, take, drop}
use lib.Seq.{take-append_seam}
use Rattle.script.specs.Script.{printed}
use Rattle.script.specs.Gathered.{begun_of}
use Rattle.script.specs.Reader.{over, Reader, start, Read, read_part, read_parts, ends, printed_parts}
use Rattle.script.proofs.ReaderLaws.{Silent, read_each-++, read_parts-flatten, printed_parts-printed, over-silent}
use Rattle.bench.specs.declared.reading.Stage.TheVariants.{Over}
use Rattle.bench.specs.declared.reading.Bench.{Bench}
use Rattle.bench.specs.Prints.{Prints}
use Rattle.bench.specs.Reading.{stage_of, reader_of, Ready, part_said, Starts, Reads, Ends}
use Rattle.bench.specs.Runs.{Turns, Run, none, then}

-- the bytes that were printed
prints-text : {text out after : List ℕ} {len : ℕ} → Prints text out len after → take len after ≡ text
prints-text {text} {out} p = rw (p.count, p.bytes) (take-append_seam text (drop (length text) out))

over_shown : (b : Bench) → b.stage ≡ Over → stage_of b.stage ≡ over
unfolding stage_of
over_shown b e = rw e

-- one turn

pub none-turns : (b : Bench) → Ready b → Turns b b
unfolding part_said
none-turns b R = record { part = []; next = refl; means = refl; ready = R }

pub read-turns : (b : Bench) (part : List ℕ) {out out' : List ℕ} {most len : ℕ} {e : Bench}
    → Reads (part_said b part) (read_part (reader_of b) part) most out e len out' → Turns b e
read-turns b part t =
    record {
      part = part;
      next = t.tells.next;
      means = ap reader_of t.tells.next ∙ ap (λ (s : Read). s.next) t.means;
      ready = t.tells.ready;
    }

-- all of them

abbrev reached : Bench → List ℕ → Read
reached b text = record { next = reader_of b; text = text }

part-reached : (b : Bench) (part : List ℕ) {out out' : List ℕ} {most len : ℕ} {e : Bench}
    → Reads (part_said b part) (read_part (reader_of b) part) most out e len out'
    → read_part (reader_of b) part ≡ reached e (take len out')
part-reached b part t = sym t.means ∙ (rw (t.tells.next, prints-text t.tells.text))

run-reached : {b e : Bench} {ps : List (List ℕ)} {text : List ℕ} → Run b ps text e → read_parts (reader_of b) ps ≡ reached e text
run-reached none = refl
run-reached (then {b} {part = part} t more) = rw (part-reached b part t, run-reached more)

from_start : {b e : Bench} {ps : List (List ℕ)} {text : List ℕ} → Starts b → Run b ps text e → read_parts start ps ≡ reached e text
from_start {ps = ps} s run = ap (λ (r : Reader). read_parts r ps) (sym s.means) ∙ run-reached run

module _ {b e : Bench} {ps : List (List ℕ)} {text : List ℕ} (s : Starts b) (run : Run b ps text e) where
  -- the input was read to its end
  pub ended-printed : {out out' : List ℕ} {len : ℕ} → Ends e out len out' → text ++ take len out' ≡ printed (flatten ps)
  unfolding printed_parts
  ended-printed t =
      ap (λ (l : List ℕ). text ++ l) (prints-text t.text ∙ t.means)
      ∙ sym (ap (λ (r : Read). r.text ++ ends r.next) (from_start s run))
      ∙ printed_parts-printed ps

  -- no line is read any more: whatever follows, nothing is missing
  pub over-printed : e.stage ≡ Over → (more : List (List ℕ)) → text ≡ printed (flatten (ps ++ more))
  unfolding printed_parts
  over-printed h more =
      sym (rw (quiet.nothing, quiet.never) (append-nil (text ++ []) ∙ append-nil text))
      ∙ sym (ap (λ (r : Read). r.text ++ ends r.next) both)
      ∙ printed_parts-printed (ps ++ more)
    where
      rest : Read
      rest = read_parts (reader_of e) more

      both : read_parts start (ps ++ more) ≡ record { next = rest.next; text = text ++ rest.text }
      both = read_each-++ read_part ps more start ∙ (rw (from_start s run))

      quiet : Silent rest
      quiet = rw (read_parts-flatten more (reader_of e), over_shown e h) (over-silent (flatten more) (begun_of e.line))
