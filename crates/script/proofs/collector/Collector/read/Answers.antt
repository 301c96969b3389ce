-- `Collector::read` meets its contract: a line that is too long, and any other.
use native.Mathlib.Omega.{arith}
use borrow.Author.Rules.{rules}
use mathlib.Core.Path.{◌≡◌, sym, ◌∙◌}
use lib.ListN.{length}
use lib.Seq.{length-take-le}
use Rattle.script.proofs.GatheredLaws.{begun-long, begun-short}
use Rattle.script.proofs.collector.Collector.read.Goals as goal

pub returns-then-self : goal.returns-then-self
returns-then-self c = begun-long c.args.self c.if-self.true

pub slice_bounds-read-end : goal.slice_bounds-read-end
slice_bounds-read-end c =
    let full : length c.args.self.bytes ≡ 80 = search rules in
    sym (length-take-le _ _ (omega arith))

pub returns : goal.returns
returns c = c.read.ensures ∙ begun-short c.args.self c.if-self.false c.size-n.ensures.0
