-- `reading::begin` meets its contract: a first line that names no group in range ends the script.
use mathlib.Core.Path.{sym, ◌∙◌}
use native.Mathlib.Omega.{arith}
use native.Mathlib.Nat.{le_trans}
use Rattle.bench.proofs.PrintLaws.{wrote-some, no-group-short, group-short}
use Rattle.bench.proofs.LineLaws.{begins-none, begins-group, group-range}
use Rattle.bench.proofs.reading.begin.Goals as goal

pub unwrap-requires : goal.unwrap-requires
unwrap-requires c = wrote-some (le_trans no-group-short c.requires) c.no_group_line.ensures

pub returns-in_default : goal.returns-in_default
returns-in_default c = rw (sym c.group_of.ensures ∙ c.in_default.is) (begins-none c.requires c.unwrap.ensures c.no_group_line.ensures)

pub overflow_cast-g : goal.overflow_cast-g
overflow_cast-g c =
    let range = group-range _ _ (sym c.group_of.ensures ∙ c.in-Some.is) in
    omega (arith, range.0)

pub overflow_cast-g-2 : goal.overflow_cast-g-2
overflow_cast-g-2 c =
    let range = group-range _ _ (sym c.group_of.ensures ∙ c.in-Some.is) in
    omega (arith, range.1)

pub unwrap-requires-2 : goal.unwrap-requires-2
unwrap-requires-2 c =
    let range = group-range _ _ (sym c.group_of.ensures ∙ c.in-Some.is) in
    wrote-some (le_trans (group-short c.in-Some.g.n c.in-Some.g.w (omega (arith, range.0)) (omega (arith, range.1))) c.requires) c.group_line.ensures

pub returns : goal.returns
returns c =
    let named = sym c.group_of.ensures ∙ c.in-Some.is in
    let range = group-range _ _ named in
    rw named (begins-group c.requires c.unwrap-2.ensures c.in-Some.g range.0 range.1 c.open-desk.ensures c.group_line.ensures)
