-- `line::of_three` meets its contract: by the letter, and by what the last item is.
use borrow.Author.Rules.{rules}
use mathlib.Core.Path.{sym, ◌∙◌}
use Rattle.script.proofs.ShownLaws.{shown-word, shown-no-number, shown-numbered, value_in-none, value_in-is}
use Rattle.script.proofs.line.of_three.Goals as goal

pub returns-then-c-eq83 : goal.returns-then-c-eq83
returns-then-c-eq83 c = c.then_some.ensures ∙ rw c.is_word.ensures (shown-word _ _ _ (search rules) c.if-c-eq83.true)

pub returns-in_err-number : goal.returns-in_err-number
returns-in_err-number c =
    c.from_residual.ensures ∙ shown-no-number _ _ _ (search rules) c.if-c-eq83.false (value_in-none _ (sym c.number.ensures ∙ c.in_err-number.was))

pub returns : goal.returns
returns c =
    c.numbered.ensures
    ∙ shown-numbered _ _ _ (search rules) _ c.if-c-eq83.false (value_in-is _ _ (sym c.number.ensures ∙ c.in_ok-number.was))
