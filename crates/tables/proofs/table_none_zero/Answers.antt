use mathlib.Core.Path.{sym, ap, ◌∙◌}
use mathlib.Core.List.{List}
use Prim.Native.Nat.{ℕ}
use Rattle.rules.specs.Maps.{at}
use Rattle.tables.specs.Rows.{none_zero}
use Rattle.tables.proofs.EveryLaws.{every_more, every-stop}
use Rattle.tables.proofs.table_none_zero.Invariants.{full}
use Rattle.tables.proofs.table_none_zero.Goals as goal

pub returns-then-not-none_zero : goal.returns-then-not-none_zero
returns-then-not-none_zero c =
    let s = c.args in
    let e = sym (c.none_zero.ensures ∙ ap (λ (l : List ℕ). none_zero s.n (at l)) c.row.ensures) in
    every-stop (full s.n s.t.now) s.n c.loop-k.k c.loop-k-test.true (e ∙ c.if-not-none_zero.true) c.loop-k.invariant

pub loop-k-preserved : goal.loop-k-preserved
loop-k-preserved c =
    let s = c.args in
    let e = sym (c.none_zero.ensures ∙ ap (λ (l : List ℕ). none_zero s.n (at l)) c.row.ensures) in
    every_more (full s.n s.t.now) s.n c.loop-k.k c.loop-k-test.true (e ∙ c.if-not-none_zero.false) c.loop-k.invariant
