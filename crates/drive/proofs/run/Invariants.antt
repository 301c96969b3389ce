-- `run` meets its contract: after i visits it has the group of i visits.
use mathlib.Core.Path.{◌≡◌}
use Prim.Native.Nat.{◌≤◌}
use lib.ListN.{length}
use Rattle.drive.specs.Run.{Group, run_of}
use Rattle.drive.proofs.run.Given as goal

abbrev pub invariant-loop-i : goal.invariant-loop-i
invariant-loop-i l =
    ((l.i ≤ l.visits) × ((length l.units ≡ 8) × ((length l.text ≡ 16) × (length l.frame ≡ 117))))
    × (◌≡◌ {A = Group} (record { units = l.units; text = l.text; frame = l.frame; sum = l.sum }) (run_of l.n l.w l.i))
