-- `all_taken` meets its contract: the take at hand and all that may follow it give the whole sum.
use mathlib.Core.Path.{◌≡◌}
use Prim.Native.Nat.{◌-◌}
use lib.ListN.{length}
use Rattle.drive.specs.Run.{all_taken}
use Rattle.drive.proofs.all_taken.Given as goal

abbrev pub invariant-loop-count : goal.invariant-loop-count
invariant-loop-count l =
    (length l.out ≡ 16) × (all_taken (128 - l.count) l.unit l.taken l.out l.sum ≡ all_taken 128 l.initial.unit l.initial.taken l.initial.out l.initial.sum)
