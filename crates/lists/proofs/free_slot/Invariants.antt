-- After k turns the first free slot is the first from k on.
use mathlib.Core.Path.{◌≡◌}
use Prim.Native.Nat.{◌-◌}
use Rattle.lists.proofs.SlotLaws.{unmarked}
use Rattle.lists.proofs.free_slot.Given as goal

abbrev pub invariant-loop-k : goal.invariant-loop-k
invariant-loop-k l = unmarked l.marks l.k (l.most - l.k) ≡ unmarked l.marks 0 l.most
