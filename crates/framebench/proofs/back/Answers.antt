-- `back` meets its contract: what it reads is the message that it wrote.
use Rattle.std.proofs.Common.{sym, ap, ◌∙◌, arith, length-take-le}
use Rattle.framebench.specs.Rounds.{sum_of}
use Rattle.framebench.proofs.Messages.{no-refusal, inside, data-back, no-request, not-lost, sum_fits}
use Rattle.framebench.proofs.back.Goals as goal

pub returns-in_default : goal.returns-in_default
returns-in_default c = absurd (no-refusal c.args.i (omega (arith, c.ranges.i)) _ (omega arith) _ _ c.write_data.ensures _ c.in_default.is)

pub slice_bounds-out-end : goal.slice_bounds-out-end
slice_bounds-out-end c = omega (arith, c.write_data.auto.out, inside c.args.i (omega (arith, c.ranges.i)) _ (omega arith) _ _ c.write_data.ensures _ c.in-Ok.is)

pub slice_bounds-read-end : goal.slice_bounds-read-end
slice_bounds-read-end c = sym (length-take-le _ _ (omega (arith, c.write_data.auto.out, inside c.args.i (omega (arith, c.ranges.i)) _ (omega arith) _ _ c.write_data.ensures _ c.in-Ok.is)))

pub sum-requires : goal.sum-requires
sum-requires c =
    let w = c.in-Some-Data in
    sum_fits c.args.i _ (data-back c.args.i (omega (arith, c.ranges.i)) _ (omega arith) _ _ c.write_data.ensures _ c.in-Ok.is _ c.read.ensures _ w.is _ w.field-0-is)

pub returns-in-Some-Data : goal.returns-in-Some-Data
returns-in-Some-Data c =
    let w = c.in-Some-Data in
    c.sum.ensures ∙ ap sum_of (data-back c.args.i (omega (arith, c.ranges.i)) _ (omega arith) _ _ c.write_data.ensures _ c.in-Ok.is _ c.read.ensures _ w.is _ w.field-0-is)

pub returns-in-Some-Request : goal.returns-in-Some-Request
returns-in-Some-Request c =
    let w = c.in-Some-Request in
    absurd (no-request c.args.i (omega (arith, c.ranges.i)) _ (omega arith) _ _ c.write_data.ensures _ c.in-Ok.is _ c.read.ensures _ w.is _ w.field-0-is)

pub returns-in-None : goal.returns-in-None
returns-in-None c = absurd (not-lost c.args.i (omega (arith, c.ranges.i)) _ (omega arith) _ _ c.write_data.ensures _ c.in-Ok.is _ c.read.ensures c.in-None.is)
