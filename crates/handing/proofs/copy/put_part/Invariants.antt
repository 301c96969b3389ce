-- After i turns the first i bytes are those of the part, and the others as they were.
use mathlib.Core.Path.{◌≡◌}
use Prim.Native.Nat.{◌+◌, ◌≤◌}
use lib.ListN.{length, get_or}
use Rattle.tables.proofs.FillLaws.{filled}
use Rattle.handing.proofs.copy.put_part.Given as goal

abbrev pub invariant-loop-i : goal.invariant-loop-i
invariant-loop-i l = ((l.i ≤ l.count) × (length l.out ≡ length l.initial.out)) × (l.out ≡ filled l.initial.out (λ k. get_or l.list (l.start + k) 0) l.i)
