-- `opened` meets its contract: unit k + 1 is opened at index k.
use mathlib.Core.Path.{◌≡◌}
use Prim.Native.Nat.{◌≤◌}
use Rattle.drive.specs.Run.{opened_units}
use Rattle.drive.proofs.opened.Given as goal

abbrev pub invariant-loop-k : goal.invariant-loop-k
invariant-loop-k l = (l.k ≤ 8) × (l.units ≡ opened_units l.n l.w l.k)
