use Rattle.bench.proofs.FeedLaws.{fed-push, fed-line, fed-all}
use Rattle.bench.proofs.reading.Bench.feed.Goals as goal
use Rattle.bench.proofs.reading.Bench.feed.Goals.{then-x-eq10, else-x-eq10}

pub loop-x-preserved : goal.loop-x-preserved
loop-x-preserved c =
    let l = c.loop-x in
    elim c.if-x-eq10.branch [
      | then-x-eq10 w ↦
          let e = w.end_line-len in
          rw (w.self-is, w.len-is, w.out-is)
          (fed-line _ _ _ l.self _ _ _ l.invariant c.loop-x-test.true w.if-x-eq10.true c.requires.1 e.new.self e.result e.new.out e.ensures)
      | else-x-eq10 w ↦
          let p = w.push-self.ensures in
          rw (w.self-is, w.len-is, w.out-is, p.exact)
          (fed-push _ _ _ l.self _ _ _ l.invariant c.loop-x-test.true w.if-x-eq10.false (rw p.exact at p.means))
    ]

pub returns : goal.returns
returns c = fed-all _ _ _ _ _ _ _ c.loop-x.invariant c.loop-x-test.false
