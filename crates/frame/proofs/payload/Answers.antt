-- `payload` meets its contract.
use mathlib.Core.Path.{sym, ap, ◌∙◌}
use Rattle.std.specs.Prelude.{Some}
use Rattle.frame.proofs.Outs.{data_is, no-data}
use Rattle.frame.proofs.payload.Goals as goal

pub returns-in-Some-Data : goal.returns-in-Some-Data
returns-in-Some-Data c =
    let w = c.in-Some-Data in
    c.content.ensures ∙ data_is c.args.s.now w.data (ap Some (sym w.field-0-is) ∙ sym w.is ∙ c.read.ensures)

pub returns-in-Some-Request : goal.returns-in-Some-Request
returns-in-Some-Request c =
    let w = c.in-Some-Request in
    no-data c.args.s.now (λ d e. cc (w.field-0-is, w.is, c.read.ensures))

pub returns-in-None : goal.returns-in-None
returns-in-None c = no-data c.args.s.now (λ d e. cc (c.in-None.is, c.read.ensures))
