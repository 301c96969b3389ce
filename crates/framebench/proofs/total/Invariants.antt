-- `total` meets its contract: after i rounds it has the sum of the first i messages.
use Rattle.std.proofs.Common.{◌≡◌}
use Rattle.framebench.specs.Rounds.{total_of}
use Rattle.framebench.proofs.total.Given as goal

abbrev pub invariant-loop-i : goal.invariant-loop-i
invariant-loop-i l = l.total ≡ total_of l.i
