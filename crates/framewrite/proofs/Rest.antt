-- The loop over the tags of a kind: what is left to write gives the whole.
use mathlib.Core.Bool.{true, false}
use mathlib.Core.List.{List, [], ◌∷◌, map}
use mathlib.Core.Path.{◌≡◌, refl, sym, ap, subst, ◌∙◌}
use Prim.Native.Nat.{ℕ, ◌+◌, ◌^◌, ◌≤◌, ◌<◌}
use native.Mathlib.Omega.{arith}
use lib.ListN.{length}
use lib.Seq.{sets}
use Rattle.rules.specs.Fields.{table, row_of, tags_of, print}
use Rattle.rules.specs.Lawful.{Each, Bytes, Contents}
use Rattle.rules.proofs.BytesLaws.{length-all_bytes}
use Rattle.rules.proofs.FieldsLaws.{tags_left, size, length-print}
use Rattle.frame.specs.declared.table.Tag.{Tag}
use Rattle.frame.specs.declared.table.Tag.TheVariants.{Edition, Kind, Cid, Src, Seq, Ack, Buf, Lsrc, Lseq, Data}
use Rattle.frame.specs.Table.{tag_number, code_of, has}
use Rattle.frame.proofs.Lines.{tags-step, tags-end}
use Rattle.rules.proofs.StoresLaws.{sets-++}
use Rattle.framewrite.specs.declared.fields.Singles.{Singles}
use Rattle.framewrite.specs.Field.{field_of, size_of, FieldRoom, FieldWritten}
use Rattle.framewrite.specs.Fields.{number_of, content_of, contents_of, fields_of, FieldsRoom}

-- ---- the content of a field

module _ (m : Singles) (ack text : List ℕ) where
  pub content-ack : (t : Tag) → t ≡ Ack → content_of m ack text (tag_number t) ≡ ack
  unfolding content_of
  content-ack t e = rw e

  pub content-text : (t : Tag) → t ≡ Data → content_of m ack text (tag_number t) ≡ text
  unfolding content_of
  content-text t e = rw e

  pub content-one : (t : Tag) → (t ≡ Ack → ⊥) → (t ≡ Data → ⊥) → content_of m ack text (tag_number t) ≡ number_of m (tag_number t) ∷ []
  unfolding content_of
  content-one Edition a b = refl
  content-one Kind a b = refl
  content-one Cid a b = refl
  content-one Src a b = refl
  content-one Seq a b = refl
  content-one Ack a b = absurd (a refl)
  content-one Buf a b = refl
  content-one Lsrc a b = refl
  content-one Lseq a b = refl
  content-one Data a b = absurd (b refl)

-- ---- the fields that are left

-- fields of the tags ts with the numbers f can be written from p on, and this leaves whole
pub record Left (f : ℕ → List ℕ) (ts d : List ℕ) (p : ℕ) (whole : List ℕ) : Type 0 where
  pub contents : Contents table ts (map f ts)
  pub room : p + size table ts (map f ts) ≤ length d
  pub rest : sets d p (print table ts (map f ts)) ≡ whole

length-field : (t : ℕ) (v : List ℕ) → length (field_of t v) ≡ size_of t v
length-field t v = omega (arith, length-all_bytes (row_of table t).width v)

module _ (f : ℕ → List ℕ) (t k : ℕ) (low : 1 ≤ t) (high : t ≤ 10) (d : List ℕ) (p : ℕ) (whole : List ℕ) (l : Left f (tags_left table t k) d p whole) where
  passed : has t k ≡ false → Left f (tags_left table (t + 1) k) d p whole
  passed n = subst (λ ts. Left f ts d p whole) (tags-step t k low high false n) l

  module _ (y : has t k ≡ true) where
    here : Left f (t ∷ tags_left table (t + 1) k) d p whole
    here = subst (λ ts. Left f ts d p whole) (tags-step t k low high true y) l

    field_room : FieldRoom t (f t) p d
    field_room = record { content = here.contents.0; room = omega (arith, here.room) }

    laid : (r : ℕ) (d' : List ℕ) → FieldWritten t (f t) p d r d' → length d' ≡ length d → Left f (tags_left table (t + 1) k) d' r whole
    laid r d' w e =
        let ts = tags_left table (t + 1) k in
        let rest = print table ts (map f ts) in
        record {
          contents = here.contents.1;
          room = omega (arith, here.room, w.next);
          rest =
              ap (λ x. sets x r rest) w.stores
              ∙ ap (λ i. sets (sets d p (field_of t (f t))) i rest) (w.next ∙ ap (λ n. p + n) (sym (length-field t (f t))))
              ∙ sets-++ d p (field_of t (f t)) rest
              ∙ here.rest;
        }

-- ---- the loop: the fields of the tags below `tag` are written, up to `at`

pub record Ahead (m : Singles) (ack text d₀ d : List ℕ) (at tag : ℕ) : Type 0 where
  pub low : 1 ≤ tag
  pub high : tag ≤ 11
  pub long : length d ≡ length d₀
  pub left : Left (content_of m ack text) (tags_left table tag (code_of m.kind)) d at (sets d₀ 0 (fields_of m ack text))

pub all-ahead : (m : Singles) (ack text d : List ℕ) → FieldsRoom m ack text d → Each (λ x. x < 256 ^ 4) ack → Bytes text → Ahead m ack text d d 0 1
unfolding tags_of
all-ahead m ack text d r a b =
    record {
      low = omega arith;
      high = omega arith;
      long = refl;
      left =
          record {
            contents = r.contents a b;
            room = omega (arith, r.room, length-print table (tags_of table (code_of m.kind)) (contents_of m ack text));
            rest = refl;
          };
    }

module _ (m : Singles) (ack text d₀ d : List ℕ) (at tag : ℕ) (r : Ahead m ack text d₀ d at tag) where
  module _ (h : tag ≤ 10) where
    pub passed-by : has tag (code_of m.kind) ≡ false → Ahead m ack text d₀ d at (tag + 1)
    passed-by n =
        record { low = omega arith; high = omega arith; long = r.long; left = passed _ tag (code_of m.kind) r.low h d at _ r.left n }

    pub room-ahead : has tag (code_of m.kind) ≡ true → FieldRoom tag (content_of m ack text tag) at d
    room-ahead y = field_room _ tag (code_of m.kind) r.low h d at _ r.left y

    pub one-laid : has tag (code_of m.kind) ≡ true → (next : ℕ) (d' : List ℕ) → FieldWritten tag (content_of m ack text tag) at d next d' → length d' ≡ length d
        → Ahead m ack text d₀ d' next (tag + 1)
    one-laid y next d' w k =
        record { low = omega arith; high = omega arith; long = k ∙ r.long; left = laid _ tag (code_of m.kind) r.low h d at _ r.left y next d' w k }

  pub none_ahead : tag ≡ 11 → d ≡ sets d₀ 0 (fields_of m ack text)
  none_ahead e = (subst (λ ts. Left (content_of m ack text) ts d at (sets d₀ 0 (fields_of m ack text))) (tags-end tag (code_of m.kind) e) r.left).rest
