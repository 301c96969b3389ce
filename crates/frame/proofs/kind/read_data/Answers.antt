-- `read_data` meets its contract: one law of `Outs` for each way out.
use native.Mathlib.Omega.{arith}
use mathlib.Core.Path.{sym, ◌∙◌}
use Rattle.frame.proofs.Outs.{data-acks, data-long, data-room, data-zero-ack, seq-out, a-message}
use Rattle.frame.proofs.kind.read_data.Goals as goal

pub head_at-requires : goal.head_at-requires
head_at-requires c = (omega (arith, data-long _ c.requires.0), data-acks _ c.requires.0)

pub returns-in_err-head : goal.returns-in_err-head
returns-in_err-head c =
    let pre = c.requires in
    c.from_residual.ensures ∙ data-zero-ack _ pre.0 pre.1 pre.2 (sym c.in_err-head.was ∙ c.head_at.ensures)

pub number_at-seq-requires : goal.number_at-seq-requires
number_at-seq-requires c = omega (arith, data-long _ c.requires.0)

pub returns-then-seq-eq0 : goal.returns-then-seq-eq0
returns-then-seq-eq0 c =
    let pre = c.requires in
    seq-out _ pre.0 pre.1 pre.2 _ c.number_at-seq.ensures (λ low high. omega arith)

pub overflow_mul-start : goal.overflow_mul-start
overflow_mul-start c = omega (arith, data-room _ c.requires.0 _ (sym c.in_ok-head.was ∙ c.head_at.ensures))

pub overflow_add-start : goal.overflow_add-start
overflow_add-start c = omega (arith, data-room _ c.requires.0 _ (sym c.in_ok-head.was ∙ c.head_at.ensures))

pub number_at-requires : goal.number_at-requires
number_at-requires c = omega (arith, data-room _ c.requires.0 _ (sym c.in_ok-head.was ∙ c.head_at.ensures))

pub overflow_sub-result : goal.overflow_sub-result
overflow_sub-result c = omega (arith, data-room _ c.requires.0 _ (sym c.in_ok-head.was ∙ c.head_at.ensures))

pub returns : goal.returns
returns c =
    let pre = c.requires in
    a-message _ pre.0 pre.1 pre.2 _ c.number_at-seq.ensures (omega arith) (omega arith) _ (sym c.in_ok-head.was ∙ c.head_at.ensures) _ c.number_at.ensures
