-- After j turns the columns 1 to j are filled.
use mathlib.Core.Path.{◌≡◌}
use Rattle.state.specs.Opening.{rows_of}
use Rattle.state.proofs.fresh.rows.Given as goal

abbrev pub invariant-loop-j : goal.invariant-loop-j
invariant-loop-j l = l.t ≡ rows_of l.j l.v
