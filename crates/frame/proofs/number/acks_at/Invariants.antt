-- `acks_at` meets its contract. The invariant: the first i numbers are read, and the others of the eight are 0.
use Prim.Native.Nat.{◌≤◌}
use mathlib.Core.Path.{◌≡◌}
use lib.ListN.{drop}
use Rattle.frame.specs.Acks.{eight}
use Rattle.rules.specs.Bytes.{all_numbers}
use Rattle.frame.proofs.number.acks_at.Given as goal

abbrev pub invariant-loop-i : goal.invariant-loop-i
invariant-loop-i l = (l.i ≤ l.n) × (l.ack ≡ eight (all_numbers 4 l.i (drop l.at l.s)))
