-- A field laid down: its front, its content, and the place after it.
use mathlib.Core.List.{List, ◌∷◌, ◌++◌}
use mathlib.Core.Path.{◌≡◌, refl, sym, ap, subst, ◌∙◌}
use Prim.Native.Nat.{ℕ, ◌+◌, ◌*◌, ◌^◌, ◌≤◌, ◌<◌}
use native.Mathlib.Omega.{arith}
use lib.ListN.{length}
use lib.Seq.{sets}
use Rattle.rules.specs.Bytes.{bytes, all_bytes}
use mathlib.Core.Bool.{Bool, true}
use lib.Dec.{leb}
use borrow.Author.Tests.{leb-true}
use Rattle.rules.specs.Maps.{all}
use Rattle.rules.specs.Fields.{Row as Line, table, row_of, field}
use Rattle.rules.specs.Lawful.{Each}
use Rattle.rules.proofs.BytesLaws.{length-all_bytes, all_bytes-one}
use Rattle.rules.proofs.FieldsLaws.{all-row_of}
use Rattle.frame.specs.declared.table.Row.{Row}
use Rattle.frame.specs.Table.{line_of}
use Rattle.rules.proofs.StoresLaws.{sets-++}
use Rattle.framewrite.specs.Field.{FieldRoom, FieldWritten}

field_stored : (d d₁ d₂ : List ℕ) (p t n : ℕ) (c : List ℕ) → length c ≡ n → d₁ ≡ sets d p (t ∷ bytes 2 n) → d₂ ≡ sets d₁ (p + 3) c
    → d₂ ≡ sets d p (field t c)
field_stored d d₁ d₂ p t n c e e₁ e₂ =
    e₂
    ∙ ap (λ x. sets x (p + 3) c) e₁
    ∙ sets-++ d p (t ∷ bytes 2 n) c
    ∙ ap (λ k. sets d p (t ∷ bytes 2 k ++ c)) (sym e)

-- the test of the table: no width is over 4
abbrev narrow : Line → Bool
narrow r = leb r.width 4

table-narrow : all narrow table ≡ true
unfolding table
table-narrow = refl

widths : (t : ℕ) → (row_of table t).width ≤ 4
widths t = leb-true _ _ (all-row_of narrow refl table table-narrow t)

-- numbers of the width that the table says
module _ (t : ℕ) (v : List ℕ) (p : ℕ) (d : List ℕ) (room : FieldRoom t v p d) (r : Row) (e : r ≡ line_of (row_of table t)) where
  width_is : (row_of table t).width ≡ r.width
  width_is = ap (λ (x : Row). x.width) (sym e)

  pub numbers-width : r.width ≤ 4
  numbers-width = omega (arith, width_is, widths t)

  pub numbers-narrow : Each (λ x. x < 256 ^ r.width) v
  numbers-narrow = subst (λ w. Each (λ x. x < 256 ^ w) v) width_is room.content.each

  pub numbers-room : p + (3 + r.width * length v) ≤ length d
  numbers-room = subst (λ w. p + (3 + w * length v) ≤ length d) width_is room.room

  pub numbers-written : (d₁ d₂ : List ℕ) → d₁ ≡ sets d p (t ∷ bytes 2 (r.width * length v)) → d₂ ≡ sets d₁ (p + 3) (all_bytes r.width v)
      → FieldWritten t v p d (p + 3 + r.width * length v) d₂
  numbers-written d₁ d₂ e₁ e₂ =
      let w = r.width in
      let place : p + 3 + w * length v ≡ p + (3 + w * length v) = omega arith in
      record {
        next = place ∙ ap (λ w. p + (3 + w * length v)) (sym width_is);
        stores = field_stored d d₁ d₂ p t (w * length v) (all_bytes w v) (length-all_bytes w v) e₁ e₂ ∙ ap (λ w. sets d p (field t (all_bytes w v))) (sym width_is);
      }

-- bytes, which are numbers of width 1
module _ (v : List ℕ) (p : ℕ) (d : List ℕ) (room : FieldRoom 10 v p d) where
  pub text-short : length v < 65536
  unfolding table row_of
  text-short = omega (arith, room.content.greatest)

  pub text_room : p + (3 + length v) ≤ length d
  unfolding table row_of
  text_room = omega (arith, room.room)

  pub text-written : (d₁ d₂ : List ℕ) → d₁ ≡ sets d p (10 ∷ bytes 2 (length v)) → d₂ ≡ sets d₁ (p + 3) v → FieldWritten 10 v p d (p + 3 + length v) d₂
  unfolding table row_of
  text-written d₁ d₂ e₁ e₂ =
      record {
        next = omega arith;
        stores = field_stored d d₁ d₂ p 10 (length v) v refl e₁ e₂ ∙ ap (λ c. sets d p (field 10 c)) (sym (all_bytes-one v));
      }
