use mathlib.Core.List.{List}
use mathlib.Core.Path.{◌≡◌, sym, ap, ◌∙◌}
use Prim.Native.Nat.{ℕ, ◌+◌}
use native.Mathlib.Omega.{arith}
use native.Mathlib.Numerals.{add-one}
use Rattle.tables.specs.Rows.{with_column}
use Rattle.state.specs.Opening.{rows_of}
use Rattle.state.proofs.fresh.rows.Goals as goal

pub loop-j-preserved : goal.loop-j-preserved
loop-j-preserved c =
    let v = c.args.v in
    let j = c.loop-j.j in
    c.with_column-more.ensures
    ∙ ap (λ (t : List ℕ). with_column t (j + 1) v) c.loop-j.invariant
    ∙ ap (λ (i : ℕ). with_column (rows_of j v) i v) (add-one j)
    ∙ ap (λ (i : ℕ). rows_of i v) (sym (add-one j))

pub returns : goal.returns
returns c =
    c.loop-j.invariant ∙ ap (λ (j : ℕ). rows_of j c.args.v) (let e : c.loop-j.j ≡ c.args.n = omega arith in e)
