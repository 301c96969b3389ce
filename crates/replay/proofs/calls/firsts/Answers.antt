use borrow.Author.Rules.{rules}
use native.Mathlib.Omega.{arith}
use Rattle.tables.proofs.FillLaws.{filled-set, filled-end}
use Rattle.replay.proofs.calls.firsts.Invariants.{first}
use Rattle.replay.proofs.calls.firsts.Goals as goal

pub loop-k-preserved : goal.loop-k-preserved
loop-k-preserved c =
    let s = c.args.s.now in
    (search rules, filled-set _ (first s) c.loop-k.k _ (omega arith) c.number_at.ensures c.loop-k.invariant.1)

pub returns : goal.returns
returns c = filled-end _ (first c.args.s.now) 8 c.loop-k.k (omega arith) (omega arith) c.loop-k.invariant.1
