-- `line::read` meets its contract: a line that is too long, has no letter, and any other.
use native.Mathlib.Omega.{arith}
use mathlib.Core.Path.{sym, ap, ◌∙◌}
use Rattle.script.specs.Shown.{shown}
use Rattle.script.proofs.LinesLaws.{found_at}
use Rattle.script.proofs.CommandLaws.{command-long, place-is, place-other, command-unlettered, command-rest}
use Rattle.script.proofs.line.read.Goals as goal

pub returns-then-s-gt-LONGEST : goal.returns-then-s-gt-LONGEST
unfolding shown
returns-then-s-gt-LONGEST c = rw (command-long _ c.if-s-gt-LONGEST.true)

pub returns-then-ne : goal.returns-then-ne
unfolding shown
returns-then-ne c = rw (command-unlettered _ _ c.find.ensures (place-other _ c.if-ne.ensures))

pub returns : goal.returns
returns c =
    let f = found_at _ _ 1 (rw (place-is c.find.result c.if-ne.ensures) at c.find.ensures) in
    c.after_letter.ensures ∙ ap shown (command-rest _ c.if-s-gt-LONGEST.false (sym f.0) (λ e. omega (arith, f.1)))
