use native.Mathlib.Omega.{arith}
use Prim.Native.Nat.{ℕ, ◌+◌}
use mathlib.Core.List.{List}
use mathlib.Core.Path.{subst, subst⁻¹}
use Rattle.frame.proofs.Lines.{tag-at, has-told}
use Rattle.framewrite.specs.Field.{FieldRoom, FieldWritten}
use Rattle.framewrite.specs.Fields.{content_of}
use Rattle.framewrite.proofs.Rest.{Ahead, all-ahead, passed-by, room-ahead, one-laid, none_ahead}
use Rattle.rules.proofs.BytesLaws.{each-intro}
use Rattle.framewrite.proofs.fields.put_fields.Goals as goal
use Rattle.framewrite.proofs.fields.put_fields.Goals.{then-has_tag, else-has_tag}

pub loop-tag-init : goal.loop-tag-init
loop-tag-init c =
    let a = c.args in
    all-ahead a.m a.ack.now a.text.now a.d.now c.requires
    (each-intro _ a.ack.now (λ i h. omega (arith, c.type_inv.ack i)))
    (each-intro _ a.text.now (λ i h. omega (arith, c.type_inv.text i)))

pub put_tag-at-requires : goal.put_tag-at-requires
put_tag-at-requires c =
    let l = c.loop-tag in
    let a = c.args in
    let n = tag-at l.tag-index c.loop-tag-test.true _ in
    let told = has-told (l.tag-index + 1) _ n _ c.into.ensures _ _ c.into-in-loop-tag.ensures _ c.has_tag.ensures in
    subst⁻¹ (λ t. FieldRoom t (content_of a.m a.ack.now a.text.now t) l.at l.d) n
    (room-ahead _ _ _ _ _ _ _ l.invariant (omega arith) (told _ c.if-has_tag.true))

pub loop-tag-preserved : goal.loop-tag-preserved
loop-tag-preserved c =
    let l = c.loop-tag in
    let a = c.args in
    let i = l.tag-index + 1 in
    let n = tag-at l.tag-index c.loop-tag-test.true _ in
    let told = has-told i _ n _ c.into.ensures _ _ c.into-in-loop-tag.ensures _ c.has_tag.ensures in
    let Next : List ℕ → ℕ → Type 0 = λ d at. Ahead a.m a.ack.now a.text.now a.d.now d at (i + 1) in
    elim c.if-has_tag.branch [
      | then-has_tag w ↦
          let r = w.put_tag-at.result in
          let d = w.put_tag-at.new.d in
          let written = subst (λ t. FieldWritten t (content_of a.m a.ack.now a.text.now t) l.at l.d r d) n w.put_tag-at.ensures in
          subst⁻¹ (λ x. Next x c.if-has_tag.at) w.d-is
          (subst⁻¹ (Next d) w.at-is
          (one-laid _ _ _ _ _ _ _ l.invariant (omega arith) (told _ w.if-has_tag.true) r d written w.put_tag-at.auto.d))
      | else-has_tag w ↦
          subst⁻¹ (λ x. Next x c.if-has_tag.at) w.d-is
          (subst⁻¹ (Next l.d) w.at-is (passed-by _ _ _ _ _ _ _ l.invariant (omega arith) (told _ w.if-has_tag.false)))
    ]

pub returns : goal.returns
returns c = none_ahead _ _ _ _ _ _ _ c.loop-tag.invariant (omega arith)
