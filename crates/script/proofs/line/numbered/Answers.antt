-- `line::numbered` meets its contract: `G`, `A`, `R`, and any other letter.
use Rattle.script.specs.Shown.{of_numbers}
use mathlib.Core.Logic.{◌≢◌}
use borrow.Author.Rules.{rules}
use borrow.Author.Tests.{ne_eqb}
use Rattle.script.proofs.line.numbered.Goals as goal

pub returns-in-71 : goal.returns-in-71
unfolding of_numbers
returns-in-71 c = rw c.in-71.is

pub returns-in-65 : goal.returns-in-65
unfolding of_numbers
returns-in-65 c = rw c.in-65.is

pub returns-in-82 : goal.returns-in-82
unfolding of_numbers
returns-in-82 c = rw c.in-82.is

pub returns-in_default : goal.returns-in_default
unfolding of_numbers
returns-in_default c =
    let x = c.args.c in
    let g : x ≢ 71 = search rules in
    let a : x ≢ 65 = search rules in
    let r : x ≢ 82 = search rules in
    rw (ne_eqb x 71 g, ne_eqb x 65 a, ne_eqb x 82 r)
