-- After i turns, whether one of the other lengths is out of range decides.
use mathlib.Core.Bool.{Bool}
use mathlib.Core.List.{List}
use mathlib.Core.Path.{◌≡◌}
use Prim.Native.Nat.{ℕ, ◌+◌, ◌-◌, ◌*◌}
use Rattle.rules.specs.Maps.{between, at, every}
use Rattle.state.specs.Soundness.{kept_lengths}
use Rattle.state.proofs.soundness.kept_fit.Given as goal

abbrev pub fits : List ℕ → ℕ → ℕ → Bool
fits kept n k = between (37 + 4 * n) (85 + 4 * n) (at kept k)

abbrev pub invariant-loop-i : goal.invariant-loop-i
invariant-loop-i l = every (l.i + 1) (l.m - l.i) (fits l.kept l.n) ≡ kept_lengths l.kept l.n l.m
