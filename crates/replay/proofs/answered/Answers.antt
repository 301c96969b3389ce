-- `answered` meets its contract: answer and numbers first, then the output as the call leaves it.
use borrow.Author.Rules.{rules}
use native.Mathlib.Omega.{arith}
use mathlib.Core.Path.{sym, ap}
use lib.ListN.{length}
use lib.Seq.{length-take-le}
use Rattle.replay.specs.Calls.{made}
use Rattle.replay.specs.Run.{blank}
use Rattle.replay.proofs.RunLaws.{lent-long, answered-gives, front-given}
use Rattle.replay.proofs.answered.Goals as goal

pub slice_bounds-make-end : goal.slice_bounds-make-end
unfolding blank
slice_bounds-make-end c = sym (length-take-le _ _ (omega (arith, ap length c.blank-lent.ensures)))

pub slice_bounds-put-end-2 : goal.slice_bounds-put-end-2
-- what is lent and what is not are the whole output
slice_bounds-put-end-2 c =
    sym (lent-long c.blank-lent.result c.make-given.new.out c.get_or-room.result c.blank-lent.ensures (search rules))

pub returns : goal.returns
returns c =
    let a = c.args in
    let front = front-given c.make-given.result _ c.unwrap_or-a.result _ c.answer.ensures c.unwrap_or-a.ensures c.head-front.ensures in
    let m = made c.make-given.result c.make-given.new.u in
    answered-gives a.u.now a.s.now a.out.now a.at _ _ m _ _ _ _ c.get_or-room.ensures c.blank-lent.ensures c.make-given.ensures
    front c.put.ensures c.put-2.ensures
