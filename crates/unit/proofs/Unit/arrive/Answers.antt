-- What `steps` says is written into the arrays; for a refusal and a request nothing is.
use mathlib.Core.Path.{refl, sym, ap, ◌∙◌}
use Rattle.std.specs.Prelude.{Ok, Err}
use Rattle.answers.specs.Answers.{Answered}
use Rattle.steps.specs.declared.Arrival.{Arrival}
use Rattle.steps.specs.declared.Arrival.TheVariants.{Asked}
use Rattle.unit.proofs.Means.{arrives-bytes}
use Rattle.unit.proofs.Shape.{shaped}
use Rattle.unit.proofs.Writing.{stored_from, arrived-passing, arrived-storing}
use Rattle.unit.proofs.Unit.arrive.Goals as goal

pub returns-in-Err : goal.returns-in-Err
returns-in-Err c =
    let u = c.args.self in
    let next = c.arrive-arrived.result.0 in
    let e = ap (λ (r : Answered Arrival). (next, r)) (sym c.in-Err.is) ∙ c.arrive-arrived.ensures in
    arrives-bytes u (shaped u _ c.well_formed.0.1.1) c.args.s.now _ (arrived-passing u _ next (Err c.in-Err.refused) e refl)

pub returns-in-Asked : goal.returns-in-Asked
returns-in-Asked c =
    let u = c.args.self in
    let next = c.arrive-arrived.result.0 in
    let asked = c.in-Ok.is ∙ ap (λ (a : Arrival). Ok a) c.in-Asked.is in
    let e = ap (λ (r : Answered Arrival). (next, r)) (sym asked) ∙ c.arrive-arrived.ensures in
    arrives-bytes u (shaped u _ c.well_formed.0.1.1) c.args.s.now _ (arrived-passing u _ next (Ok (Asked c.in-Asked.resend)) e refl)

pub returns-in-Accepted : goal.returns-in-Accepted
returns-in-Accepted c =
    let u = c.args.self in
    arrives-bytes u (shaped u _ c.well_formed.0.1.1) c.args.s.now _
    (arrived-storing u _ _ _ c.arrive-arrived.ensures _ (c.in-Ok.is ∙ ap (λ (a : Arrival). Ok a) c.in-Accepted.is) _ c.payload.ensures _
    (stored_from u _ _ _ _ _ _ c.accept.ensures))
