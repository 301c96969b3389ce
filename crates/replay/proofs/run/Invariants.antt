-- `run` meets its contract: after i records it has the units and the replies of i records.
use mathlib.Core.Path.{◌≡◌}
use Prim.Native.Nat.{◌≤◌}
use lib.ListN.{length}
use Rattle.replay.proofs.RunLaws.{After}
use Rattle.replay.proofs.run.Given as goal

abbrev pub invariant-loop-i : goal.invariant-loop-i
invariant-loop-i l = ((l.i ≤ l.records) × ((length l.units ≡ 8) × (length l.out ≡ length l.initial.out))) × After l.initial.units l.input l.initial.out l.i l.units l.out
