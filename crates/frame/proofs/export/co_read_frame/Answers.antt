-- `co_read_frame` meets its contract: one law of `Handing` for each way out.
use mathlib.Core.Path.{sym, ◌∙◌, subst⁻¹}
use Rattle.frame.specs.Export.{Exported}
use Rattle.frame.proofs.Handing.{refused-out, no_room, handed_out}
use Rattle.frame.proofs.export.co_read_frame.Goals as goal

pub returns-in_default : goal.returns-in_default
returns-in_default c =
    let a = c.args in
    subst⁻¹ (λ n. Exported a.frame.now a.numbers.now n a.numbers.now) c.from.ensures (refused-out a.frame.now (sym c.in_default.is ∙ c.read.ensures) _)

pub returns-then-numbers-lt18 : goal.returns-then-numbers-lt18
returns-then-numbers-lt18 c =
    let a = c.args in
    subst⁻¹ (λ n. Exported a.frame.now a.numbers.now n a.numbers.now) c.from-then-numbers-lt18.ensures
    (no_room a.frame.now _ (sym c.in-Some.is ∙ c.read.ensures) a.numbers.now c.if-numbers-lt18.true)

pub returns : goal.returns
returns c = handed_out _ _ (sym c.in-Some.is ∙ c.read.ensures) _ _ c.if-numbers-lt18.false c.hand_out.ensures
