-- `opened_with` meets its contract.
use mathlib.Core.Path.{ap, ◌∙◌}
use Rattle.rules.specs.Calls.{open_checks}
use Rattle.std.specs.Prelude.{Ok, Err}
use Rattle.answers.specs.declared.Refusal.TheVariants.{CannotOpen}
use Rattle.state.specs.declared.Core.{Core}
use Rattle.state.specs.Opening.{opened_of}
use Rattle.state.proofs.OpeningLaws.{closed-fresh}
use Rattle.state.proofs.opened_with.Goals as goal

pub returns-then-can_open : goal.returns-then-can_open
unfolding opened_of open_checks
returns-then-can_open c =
    rw (← c.can_open.ensures, c.if-can_open.true) (ap (λ (u : Core). (u, Ok tt)) c.unit.ensures)

pub returns : goal.returns
unfolding opened_of open_checks
returns c =
    rw (← c.can_open.ensures, c.if-can_open.false) (ap (λ (u : Core). (u, Err CannotOpen)) (c.unit-2.ensures ∙ closed-fresh))
