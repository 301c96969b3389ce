-- What is left to do with the ordered places that remain decides.
use mathlib.Core.Path.{◌≡◌}
use Prim.Native.Nat.{◌≤◌}
use Rattle.lists.specs.Order.{total}
use Rattle.lists.specs.Settle.{confirmed_all}
use Rattle.lists.proofs.confirm.all.Given as goal

abbrev pub invariant-loop-o : goal.invariant-loop-o
invariant-loop-o l = (total l.o ≤ 128) × (confirmed_all l.o.ordered l.o l.seqs l.n ≡ confirmed_all l.initial.o.ordered l.initial.o l.seqs l.n)

abbrev pub decreases-loop-o : goal.decreases-loop-o
decreases-loop-o l = l.o.ordered
