use mathlib.Core.Path.{◌∙◌}
use native.Mathlib.Omega.{arith}
use borrow.Author.Tests.{lt-ltb, le-ltb}
use Rattle.tables.specs.Rows.{raised}
use Rattle.tables.proofs.FillLaws.{filled-set, filled-skip, filled-end}
use Rattle.tables.proofs.raised_to.Invariants.{cell}
use Rattle.tables.proofs.raised_to.Goals as goal
use Rattle.tables.proofs.raised_to.Goals.{then-k-n, else-k-n}

pub loop-k-preserved : goal.loop-k-preserved
loop-k-preserved c =
    let s = c.args in
    let k = c.loop-k.k in
    let f = cell s.n s.a s.b in
    elim c.if-k-n.branch [
      | then-k-n w ↦ w.c-is ∙ filled-set s.a f k _ (omega arith) (rw (lt-ltb k s.n w.if-k-n.true) w.max.ensures) c.loop-k.invariant
      | else-k-n w ↦ w.c-is ∙ filled-skip s.a f k (omega arith) (rw (le-ltb k s.n w.if-k-n.false)) c.loop-k.invariant
    ]

pub returns : goal.returns
unfolding raised
returns c =
    let s = c.args in
    filled-end s.a (cell s.n s.a s.b) 8 c.loop-k.k (omega arith) (omega arith) c.loop-k.invariant
