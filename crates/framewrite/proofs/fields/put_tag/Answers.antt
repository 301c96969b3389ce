-- `put_tag` meets its contract.
use mathlib.Core.Path.{sym, ap, subst, subst⁻¹, ◌∙◌}
use mathlib.Core.List.{[], ◌∷◌}
use Rattle.frame.specs.Table.{tag_number}
use Rattle.framewrite.proofs.Rest.{content-ack, content-text, content-one}
use Rattle.framewrite.specs.Field.{FieldRoom, FieldWritten}
use Rattle.framewrite.proofs.fields.put_tag.Goals as goal

pub put_field-requires : goal.put_field-requires
put_field-requires c =
    let a = c.args in
    subst (λ v. FieldRoom (tag_number a.tag) v a.at a.d.now) (content-ack a.m a.ack.now a.text.now a.tag c.in-Ack.is) c.requires

pub returns-in-Ack : goal.returns-in-Ack
returns-in-Ack c =
    let a = c.args in
    subst⁻¹ (λ v. FieldWritten (tag_number a.tag) v a.at a.d.now c.put_field.result c.put_field.new.d)
    (content-ack a.m a.ack.now a.text.now a.tag c.in-Ack.is) c.put_field.ensures

pub put_text-requires : goal.put_text-requires
put_text-requires c =
    let a = c.args in
    let t = c.in-Data.is in
    subst (λ i. FieldRoom (tag_number i) a.text.now a.at a.d.now) t
    (subst (λ v. FieldRoom (tag_number a.tag) v a.at a.d.now) (content-text a.m a.ack.now a.text.now a.tag t) c.requires)

pub returns-in-Data : goal.returns-in-Data
returns-in-Data c =
    let a = c.args in
    let t = c.in-Data.is in
    let r = c.put_text.result in
    let after = c.put_text.new.d in
    subst⁻¹ (λ v. FieldWritten (tag_number a.tag) v a.at a.d.now r after) (content-text a.m a.ack.now a.text.now a.tag t)
    (subst⁻¹ (λ i. FieldWritten (tag_number i) a.text.now a.at a.d.now r after) t c.put_text.ensures)

pub put_field-requires-in_default : goal.put_field-requires-in_default
put_field-requires-in_default c =
    let a = c.args in
    subst (λ v. FieldRoom (tag_number a.tag) v a.at a.d.now)
    (content-one a.m a.ack.now a.text.now a.tag c.in_default.not-Ack c.in_default.not-Data ∙ ap (λ x. x ∷ []) (sym c.number_of.ensures)) c.requires

pub returns-in_default : goal.returns-in_default
returns-in_default c =
    let a = c.args in
    subst⁻¹ (λ v. FieldWritten (tag_number a.tag) v a.at a.d.now c.put_field-in_default.result c.put_field-in_default.new.d)
    (content-one a.m a.ack.now a.text.now a.tag c.in_default.not-Ack c.in_default.not-Data ∙ ap (λ x. x ∷ []) (sym c.number_of.ensures))
    c.put_field-in_default.ensures
