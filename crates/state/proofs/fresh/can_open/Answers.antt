-- `can_open` meets its contract: a number of 32 bits is at most the last.
use mathlib.Core.Path.{◌∙◌}
use Prim.Native.Nat.{ℕ, ◌≤◌}
use native.Mathlib.Omega.{arith}
use lib.ListN.{get_or}
use mir.Syntax.{w32}
use mir.Val.{Fits}
use borrow.Author.Rules.{rules}
use borrow.Author.Tests.{le-leb}
use Rattle.rules.specs.Message.{last}
use Rattle.state.proofs.OpeningLaws.{firsts-fit}
use Rattle.state.proofs.fresh.can_open.Goals as goal

pub returns-then-ranges_fit : goal.returns-then-ranges_fit
returns-then-ranges_fit c =
    let ranges = c.ranges_fit in
    let s = c.args in
    let group : s.o.cid ≤ last = omega arith in
    let first : (i : ℕ) → get_or s.o.first i 0 ≤ last = λ i. (let h : Fits w32 (get_or s.o.first i 0) = search rules in omega arith) in
    rw (← ranges.ensures, c.if-ranges_fit.true, le-leb _ _ group)
    (c.none_zero.ensures ∙ firsts-fit s.o.first s.o.n first)

pub returns-else-ranges_fit : goal.returns-else-ranges_fit
returns-else-ranges_fit c =
    let ranges = c.ranges_fit in
    rw (← ranges.ensures, c.if-ranges_fit.false)
