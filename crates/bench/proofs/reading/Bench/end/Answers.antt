-- `Bench::end` meets its contract: a line that is begun ends, an empty input names no group, and else nothing is printed.
use native.Mathlib.Omega.{arith}
use native.Mathlib.Nat.{le_trans}
use mathlib.Core.List.{[]}
use mathlib.Core.Path.{◌≡◌, refl}
use Rattle.bench.specs.declared.reading.Stage.{Stage}
use Rattle.bench.specs.declared.reading.Stage.TheVariants.{First, Later, Over}
use Rattle.bench.specs.Reading.{stage_ends}
use Rattle.bench.proofs.PrintLaws.{wrote-some, wrote-prints, no-group-short}
use Rattle.bench.proofs.FeedLaws.{prints-none}
use Rattle.bench.proofs.LineLaws.{line-ends, stage-ends}
use Rattle.bench.proofs.reading.Bench.end.Goals as goal

silent : (s : Stage) → (s ≡ First → ⊥) → stage_ends s ≡ []
unfolding stage_ends
silent First h = absurd (h refl)
silent (Later d k) h = refl
silent Over h = refl

pub returns-then-size-gt0 : goal.returns-then-size-gt0
returns-then-size-gt0 c = line-ends _ (rw c.size.ensures.0 at c.if-size-gt0.true) c.end_line.ensures

pub unwrap-requires : goal.unwrap-requires
unwrap-requires c = wrote-some (le_trans no-group-short c.requires.1) c.no_group_line.ensures

pub returns-in-First : goal.returns-in-First
unfolding stage_ends
returns-in-First c =
    let p = wrote-prints (le_trans no-group-short c.requires.1) c.no_group_line.ensures c.unwrap.ensures in
    stage-ends _ (rw c.size.ensures.0 at c.if-size-gt0.false) (rw c.in-First.is p) (omega (arith, p.count, no-group-short))

pub returns-in_default : goal.returns-in_default
returns-in_default c =
    stage-ends _ (rw c.size.ensures.0 at c.if-size-gt0.false) (rw (silent c.args.self.stage c.in_default.not-First) (prints-none c.args.out.now)) (omega arith)
