-- After q turns the places from index q on are still to be marked.
use mathlib.Core.Path.{◌≡◌}
use Prim.Native.Nat.{◌-◌}
use Rattle.rules.specs.Maps.{listed}
use Rattle.lists.specs.Order.{total, entry, marked, slots_in, slots_of}
use Rattle.lists.proofs.slots.Given as goal

abbrev pub invariant-loop-q : goal.invariant-loop-q
invariant-loop-q l = (l.q-end ≡ total l.o) × (marked l.marks (slots_in l.j (listed l.q (l.q-end - l.q) (entry l.o))) ≡ slots_of l.o l.j)
