-- `read_request` meets its contract: one law of `Outs` for each way out.
use native.Mathlib.Omega.{arith}
use mathlib.Core.Path.{sym, ◌∙◌}
use Rattle.frame.proofs.Outs.{request-acks, request-long, request-room, request-zero-ack, lseq-out, a-request}
use Rattle.frame.proofs.kind.read_request.Goals as goal

pub head_at-requires : goal.head_at-requires
head_at-requires c = (omega (arith, request-long _ c.requires.0), request-acks _ c.requires.0)

pub returns-in_err-head : goal.returns-in_err-head
returns-in_err-head c =
    let pre = c.requires in
    c.from_residual.ensures ∙ request-zero-ack _ pre.0 pre.1 pre.2 (sym c.in_err-head.was ∙ c.head_at.ensures)

pub overflow_mul-lsrc : goal.overflow_mul-lsrc
overflow_mul-lsrc c = omega (arith, request-room _ c.requires.0 _ (sym c.in_ok-head.was ∙ c.head_at.ensures))

pub overflow_add-lsrc : goal.overflow_add-lsrc
overflow_add-lsrc c = omega (arith, request-room _ c.requires.0 _ (sym c.in_ok-head.was ∙ c.head_at.ensures))

pub overflow_add-lsrc-2 : goal.overflow_add-lsrc-2
overflow_add-lsrc-2 c = omega (arith, request-room _ c.requires.0 _ (sym c.in_ok-head.was ∙ c.head_at.ensures))

pub number_at-lseq-requires : goal.number_at-lseq-requires
number_at-lseq-requires c = omega (arith, request-room _ c.requires.0 _ (sym c.in_ok-head.was ∙ c.head_at.ensures))

pub returns-then-lseq-eq0 : goal.returns-then-lseq-eq0
returns-then-lseq-eq0 c =
    let pre = c.requires in
    lseq-out _ pre.0 pre.1 pre.2 _ (sym c.in_ok-head.was ∙ c.head_at.ensures) _ c.number_at-lseq.ensures c.if-lseq-eq0.true

pub returns : goal.returns
returns c =
    let pre = c.requires in
    a-request _ pre.0 pre.1 pre.2 _ (sym c.in_ok-head.was ∙ c.head_at.ensures) _ c.number_at-lseq.ensures (omega arith) _ c.number_at.ensures
