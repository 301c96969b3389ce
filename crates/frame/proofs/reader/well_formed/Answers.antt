use native.Mathlib.Omega.{arith}
use Prim.Native.Nat.{◌+◌}
use mathlib.Core.Path.{◌≡◌, refl, sym, ap, ◌∙◌, subst⁻¹}
use Rattle.frame.specs.declared.reader.Reader.{Reader}
use Rattle.frame.specs.Field.{field_at}
use Rattle.frame.specs.Table.{code_of}
use Rattle.frame.proofs.Lines.{tag-at, has-told}
use Rattle.frame.proofs.Turn.{Walked, none-walked, walked_by, stopped, walked-over, walked_all}
use Rattle.frame.proofs.reader.well_formed.Goals as goal
use Rattle.frame.proofs.reader.well_formed.Goals.{then-has_tag+in-Some, else-has_tag}

pub loop-tag-init : goal.loop-tag-init
loop-tag-init c =
    let l = c.args.s.now in
    let Begun : Reader → Type 0 = λ r. (r.frame.now ≡ l) × Walked l (code_of c.args.kind) r.at 1 in
    subst⁻¹ Begun c.new-reader.ensures (refl, none-walked _ _)

pub returns-in_default : goal.returns-in_default
returns-in_default c =
    let l = c.loop-tag in
    let i = l.invariant in
    let n = tag-at l.tag-index c.loop-tag-test.true _ in
    let told = has-told (l.tag-index + 1) _ n _ c.into.ensures _ _ c.into-in-loop-tag.ensures _ c.has_tag.ensures in
    stopped _ _ _ _ i.1 (omega arith) (told _ c.if-has_tag.true)
    (sym c.in_default.is ∙ c.next.ensures ∙ ap (field_at l.reader.frame.now l.reader.at) n ∙ ap (λ s. field_at s l.reader.at (l.tag-index + 1)) i.0)

pub loop-tag-preserved : goal.loop-tag-preserved
loop-tag-preserved c =
    let l = c.loop-tag in
    let i = l.invariant in
    let t = l.tag-index + 1 in
    let n = tag-at l.tag-index c.loop-tag-test.true _ in
    let told = has-told t _ n _ c.into.ensures _ _ c.into-in-loop-tag.ensures _ c.has_tag.ensures in
    let s = c.args.s.now in
    let Next : Reader → Type 0 = λ r. (r.frame.now ≡ s) × Walked s (code_of c.args.kind) r.at (t + 1) in
    elim c.if-has_tag.branch [
      | then-has_tag+in-Some w ↦
          subst⁻¹ Next (w.reader-is ∙ w.after-reader.ensures) (
            i.0,
            walked-over _ _ _ _ i.1 (omega arith) (told _ w.if-has_tag.true) _
                (sym w.in-Some.is ∙ w.next.ensures ∙ ap (field_at l.reader.frame.now l.reader.at) n ∙ ap (λ x. field_at x l.reader.at t) i.0),
          )
      | else-has_tag w ↦
          subst⁻¹ Next w.reader-is
          (i.0, walked_by _ _ _ _ i.1 (omega arith) (told _ w.if-has_tag.false))
    ]

pub returns : goal.returns
returns c = walked_all _ _ _ _ c.loop-tag.invariant.1 (omega arith)
