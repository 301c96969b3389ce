-- `write_data` meets its contract: one law of `Answers` for each way out.
use native.Mathlib.Omega.{arith}
use mathlib.Core.Path.{sym, ap, ◌∙◌, subst⁻¹}
use lib.ListN.{length, take}
use lib.Seq.{sets, length-take-le}
use Rattle.answers.proofs.AnswersLaws.{passed_on}
use Rattle.framewrite.proofs.Answers.{fitting, data-refused, data-done, data-fields, data-room}
use Rattle.framewrite.specs.Writing.{message_of, data_written, Wrote}
use Rattle.framewrite.proofs.write_data.Goals as goal

pub returns-in_err-len : goal.returns-in_err-len
returns-in_err-len c =
    let a = c.args in
    let m = message_of a.cid a.src a.seq (take a.n a.ack.now) a.buf a.text.now in
    subst⁻¹ (λ q. Wrote (data_written a.n m a.out.now) q a.out.now) (passed_on _ _ c.from_residual.ensures.1)
    (data-refused a.n m a.out.now _ (sym c.in_err-len.was ∙ c.length_of.ensures))

pub shared_ref_as_front-put_fields : goal.shared_ref_as_front-put_fields
shared_ref_as_front-put_fields c = (fitting 37 c.args.n (length c.args.text.now) (length c.args.out.now) _ (sym c.in_ok-len.was ∙ c.length_of.ensures)).few

pub put_fields-requires : goal.put_fields-requires
put_fields-requires c =
    let a = c.args in
    let f = c.ranges in
    let m = message_of a.cid a.src a.seq (take a.n a.ack.now) a.buf a.text.now in
    let h = fitting 37 a.n (length a.text.now) (length a.out.now) _ (sym c.in_ok-len.was ∙ c.length_of.ensures) in
    data-room a.n h.count a.out.now m (length-take-le a.n a.ack.now (omega (arith, h.few))) (omega (arith, f.cid)) (omega (arith, f.src)) (omega (arith, f.seq)) (omega (arith, f.buf)) h.short h.fits

pub returns : goal.returns
returns c =
    let a = c.args in
    let m = message_of a.cid a.src a.seq (take a.n a.ack.now) a.buf a.text.now in
    let e = sym c.in_ok-len.was ∙ c.length_of.ensures in
    let h = fitting 37 a.n (length a.text.now) (length a.out.now) _ e in
    data-done a.n m a.out.now (length-take-le a.n a.ack.now (omega (arith, h.few))) _ e _ (c.put_fields.ensures ∙ ap (sets a.out.now 0) (data-fields m))
