-- After q turns the places before index q fit and are marked, and the pass over the others decides.
use mathlib.Core.Path.{◌≡◌}
use Prim.Native.Nat.{◌-◌}
use Rattle.rules.specs.Maps.{listed}
use Rattle.lists.specs.Order.{total, entry}
use Rattle.state.specs.Soundness.{place_of, places_of}
use Rattle.state.proofs.MarkLaws.{passes}
use Rattle.state.proofs.soundness.places_fit.Given as goal

abbrev pub invariant-loop-q : goal.invariant-loop-q
invariant-loop-q l =
    (l.q-end ≡ total l.c.order) × (passes (place_of l.c.n l.c.w l.c.seqs l.c.lens l.acks) l.marks (listed l.q (l.q-end - l.q) (entry l.c.order)) ≡ places_of l.c.n l.c.w l.c.seqs l.c.lens l.acks l.c.order)
