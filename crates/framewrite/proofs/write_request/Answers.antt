-- `write_request` meets its contract: one law of `Answers` for each way out.
use native.Mathlib.Omega.{arith}
use mathlib.Core.Path.{sym, ap, ◌∙◌, subst⁻¹}
use lib.ListN.{length, take}
use lib.Seq.{sets, length-take-le}
use Rattle.answers.proofs.AnswersLaws.{passed_on}
use Rattle.framewrite.proofs.Answers.{fitting, request-refused, request-done, request-fields, request-room}
use Rattle.framewrite.specs.Writing.{request_of, request_written, Wrote}
use Rattle.framewrite.proofs.write_request.Goals as goal

pub returns-in_err-len : goal.returns-in_err-len
returns-in_err-len c =
    let a = c.args in
    let r = request_of a.cid a.src (take a.n a.ack.now) a.lsrc a.lseq in
    subst⁻¹ (λ q. Wrote (request_written a.n r a.out.now) q a.out.now) (passed_on _ _ c.from_residual.ensures.1)
    (request-refused a.n r a.out.now _ (sym c.in_err-len.was ∙ c.length_of.ensures))

pub shared_ref_as_front-put_fields : goal.shared_ref_as_front-put_fields
shared_ref_as_front-put_fields c = (fitting 33 c.args.n 0 (length c.args.out.now) _ (sym c.in_ok-len.was ∙ c.length_of.ensures)).few

pub put_fields-requires : goal.put_fields-requires
put_fields-requires c =
    let a = c.args in
    let f = c.ranges in
    let r = request_of a.cid a.src (take a.n a.ack.now) a.lsrc a.lseq in
    let h = fitting 33 a.n 0 (length a.out.now) _ (sym c.in_ok-len.was ∙ c.length_of.ensures) in
    request-room a.n h.count a.out.now r (length-take-le a.n a.ack.now (omega (arith, h.few))) (omega (arith, f.cid)) (omega (arith, f.src)) (omega (arith, f.lsrc)) (omega (arith, f.lseq)) (omega (arith, h.fits))

pub returns : goal.returns
returns c =
    let a = c.args in
    let r = request_of a.cid a.src (take a.n a.ack.now) a.lsrc a.lseq in
    let e = sym c.in_ok-len.was ∙ c.length_of.ensures in
    let h = fitting 33 a.n 0 (length a.out.now) _ e in
    request-done a.n r a.out.now (length-take-le a.n a.ack.now (omega (arith, h.few))) _ e _ (c.put_fields.ensures ∙ ap (sets a.out.now 0) (request-fields r))
