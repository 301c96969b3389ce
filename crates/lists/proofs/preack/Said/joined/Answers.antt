-- The place goes where `spot` says, which is at most behind the ordered ones.
use native.Mathlib.Omega.{arith}
use Rattle.lists.specs.Order.{entry}
use Rattle.lists.proofs.JoinLaws.{before-le}
use Rattle.lists.proofs.preack.Said.joined.Goals as goal

pub moved-requires : goal.moved-requires
moved-requires c =
    let s = c.args in
    omega (arith, before-le s.first.order s.self.now.seqs.now s.self.now.acks.now (entry s.first.order s.q))
