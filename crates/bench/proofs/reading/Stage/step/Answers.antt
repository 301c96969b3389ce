-- `Stage::step` meets its contract: the first line, a later one, the last one, and one that is not read any more.
use Prim.Native.Nat.{ℕ}
use mathlib.Core.Path.{ap, ◌∙◌}
use lib.ListN.{take}
use Rattle.script.proofs.GatheredLaws.{take-length-take}
use Rattle.bench.proofs.LineLaws.{first_ended, over_ended, later-ended, last-ended}
use Rattle.bench.proofs.reading.Stage.step.Goals as goal

pub returns-in-First : goal.returns-in-First
returns-in-First c = rw c.in-First.is (first_ended _ (rw c.read.ensures at c.begin.ensures))

pub returns-then-number-lt-LAST : goal.returns-then-number-lt-LAST
returns-then-number-lt-LAST c =
    let l = c.args.line in
    let m = c.in-Later in
    let whole = ap (λ (n : ℕ). take n l.bytes) c.size.ensures.0 ∙ take-length-take l.len l.bytes in
    let R = (rw m.is at c.requires).0 in
    rw m.is (later-ended l m.desk m.number R (rw (c.read-in-Later.ensures, whole) at c.act.ensures) c.print-len.ensures c.if-number-lt-LAST.true)

pub returns-else-number-lt-LAST : goal.returns-else-number-lt-LAST
returns-else-number-lt-LAST c =
    let l = c.args.line in
    let m = c.in-Later in
    let whole = ap (λ (n : ℕ). take n l.bytes) c.size.ensures.0 ∙ take-length-take l.len l.bytes in
    let R = (rw m.is at c.requires).0 in
    rw m.is (last-ended l m.desk m.number R (rw (c.read-in-Later.ensures, whole) at c.act.ensures) c.print-len.ensures c.if-number-lt-LAST.false)

pub returns-in-Over : goal.returns-in-Over
returns-in-Over c = rw c.in-Over.is (over_ended c.args.line)
