use mathlib.Core.Path.{refl, sym, ◌∙◌}
use Rattle.answers.proofs.AnswersLaws.{refusal-number}
use Rattle.steps.specs.Arrival.{noting, storing, unit_arrival}
use Rattle.steps.specs.Checks.{unit_checks}
use Rattle.steps.proofs.PassedLaws.{refused-decides}
use Rattle.steps.proofs.data.Heard.arrived.Goals as goal

pub returns-in-Err : goal.returns-in-Err
unfolding unit_arrival
returns-in-Err c =
    let m = c.args.self in
    let r = c.in-Err.r in
    rw (
      refused-decides (noting m.at.core m.data) (storing m.at.core m.data) (unit_checks m.at.core m.data)
          (refl, (refl, (refl, (refl, (refl, (refl, (refl, tt))))))) r (sym c.checks.ensures ∙ c.in-Err.is),
      refusal-number r,
      c.after.ensures,
    )
