-- A number that names no call.
use mathlib.Core.List.{List}
use mathlib.Core.Path.{◌≡◌}
use Prim.Native.Nat.{ℕ, ◌<◌}
use native.Mathlib.Omega.{arith}
use borrow.Author.Tests.{ne_eqb}
use Rattle.unit.specs.declared.Unit.{Unit}
use Rattle.replay.specs.Record.{call_of}
use Rattle.replay.specs.Calls.{gives, writes_none, seen_made, made_of}

pub made_none : (u : Unit) (l out : List ℕ) → 12 < call_of l → writes_none out (gives 0 0 0 u) ≡ made_of u l out
unfolding made_of seen_made
made_none u l out h =
    let n : ℕ = call_of l in
    rw (
      ne_eqb n 0 (λ e. omega arith),
      ne_eqb n 1 (λ e. omega arith),
      ne_eqb n 2 (λ e. omega arith),
      ne_eqb n 3 (λ e. omega arith),
      ne_eqb n 4 (λ e. omega arith),
      ne_eqb n 5 (λ e. omega arith),
      ne_eqb n 12 (λ e. omega arith),
      ne_eqb n 6 (λ e. omega arith),
      ne_eqb n 7 (λ e. omega arith),
      ne_eqb n 8 (λ e. omega arith),
      ne_eqb n 9 (λ e. omega arith),
      ne_eqb n 10 (λ e. omega arith),
      ne_eqb n 11 (λ e. omega arith),
    )
