-- `line::of_two` meets its contract: `T`, and any other letter.
use borrow.Author.Rules.{rules}
use mathlib.Core.Bool.{Bool, true, false, cond}
use mathlib.Core.Path.{◌≡◌, refl, ◌∙◌}
use lib.Dec.{eqb}
use Rattle.script.specs.Items.{of_two, takes, unreadable}
use Rattle.script.specs.Shown.{shown}
use Rattle.std.specs.Bool.{then_some}
use Rattle.script.specs.declared.line.Line.TheVariants.{Take}
use Rattle.script.proofs.ShownLaws.{held_fits}
use Rattle.script.proofs.line.of_two.Goals as goal

pub returns : goal.returns
unfolding shown of_two
returns c = c.then_some.ensures ∙ go (eqb c.args.c 84)
  where
    go : (t : Bool) → then_some t (Take c.args.u) ≡ shown (cond t (takes c.args.u) unreadable)
    go true = rw (held_fits c.args.u (search rules))
    go false = refl
