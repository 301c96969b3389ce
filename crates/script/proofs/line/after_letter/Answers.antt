-- `line::after_letter` meets its contract: by what the second item is, and by whether a third follows.
use mathlib.Core.Path.{sym, ◌∙◌}
use Rattle.script.proofs.ShownLaws.{one_none, after_none, after_two, after-three}
use Rattle.script.proofs.line.after_letter.Goals as goal

pub returns-in_err-number-in-None : goal.returns-in_err-number-in-None
returns-in_err-number-in-None c =
    c.from_residual.ensures ∙ one_none _ _ (rw c.in-None.is at c.find.ensures) (sym c.number.ensures ∙ c.in_err-number-in-None.was)

pub returns-in_err-number-in-Some : goal.returns-in_err-number-in-Some
returns-in_err-number-in-Some c =
    c.from_residual-in_err-number-in-Some.ensures
    ∙ after_none _ _ _ (rw c.in-Some.is at c.find.ensures) (sym c.number-in-Some.ensures ∙ c.in_err-number-in-Some.was)

pub returns-in_ok-number-in-None : goal.returns-in_ok-number-in-None
returns-in_ok-number-in-None c =
    c.of_two.ensures ∙ after_two _ _ (rw c.in-None.is at c.find.ensures) _ (sym c.number.ensures ∙ c.in_ok-number-in-None.was)

pub returns-in_ok-number-in-Some : goal.returns-in_ok-number-in-Some
returns-in_ok-number-in-Some c =
    c.of_three.ensures ∙ after-three _ _ _ (rw c.in-Some.is at c.find.ensures) _ (sym c.number-in-Some.ensures ∙ c.in_ok-number-in-Some.was)
