-- `calls::firsts` meets its contract: after k turns the first k numbers stand there.
use mathlib.Core.List.{List}
use mathlib.Core.Path.{◌≡◌}
use Prim.Native.Nat.{ℕ, ◌+◌, ◌*◌}
use lib.ListN.{length}
use Rattle.tables.proofs.FillLaws.{filled}
use Rattle.replay.specs.Record.{number_at}
use Rattle.replay.proofs.calls.firsts.Given as goal

abbrev pub first : List ℕ → ℕ → ℕ
first s k = number_at s (11 + 4 * k)

abbrev pub invariant-loop-k : goal.invariant-loop-k
invariant-loop-k l = (length l.initial.first ≡ 8) × (l.first ≡ filled l.initial.first (first l.s) l.k)
