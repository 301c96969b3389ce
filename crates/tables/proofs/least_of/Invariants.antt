-- After k turns m is the least of the first k numbers.
use mathlib.Core.Path.{◌≡◌}
use Prim.Native.Nat.{◌≤◌, max}
use Rattle.rules.specs.Maps.{at, least}
use Rattle.tables.proofs.least_of.Given as goal

abbrev pub invariant-loop-k : goal.invariant-loop-k
invariant-loop-k l = (l.m ≡ least l.k (at l.a)) × (l.k ≤ max l.n 1)
