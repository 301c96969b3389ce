-- Reading and writing frames undo each other, for both kinds; what is read is lawful; the lengths of frames.
use mathlib.Core.Bool.{Bool, true, false, and-false}
use mathlib.Core.List.{List, [], ◌∷◌}
use mathlib.Core.Logic.{◌⊎◌, inl, inr, ⊎_elim}
use mathlib.Core.Option.{Option, none, some}
use mathlib.Core.Path.{◌≡◌, refl, sym, ap, ap₂, subst, ◌∙◌}
use Prim.Native.Nat.{ℕ, ◌+◌, ◌*◌, ◌^◌, ◌≤◌, ◌<◌}
use native.Mathlib.Omega.{arith}
use lib.Dec.{ltb}
use lib.ListN.{length, get_or}
use borrow.Author.Tests.{ltb-true, lt-ltb, eqb-true, eq-eqb}
use Rattle.rules.specs.Fields.{Row, table, row_of, tags_of, print, fits, numbers}
use Rattle.rules.specs.Message.{Message, Request, Said, message, request, last, edition, kind_of, numbers_of, encode, no_zero, in_limits, one, as_message, as_request, when, read_as, or_else, decode}
use Rattle.rules.specs.Lawful.{Each, nil, cons, Bytes, Content, Contents, LawfulAck, Lawful}
use Rattle.rules.proofs.MapsLaws.{and_both, and_intro}
use Rattle.rules.proofs.BytesLaws.{each_at, each_map}
use Rattle.rules.proofs.FieldsLaws.{usable, all_alone, all_alone-is, fits-print, numbers-print, print-numbers, contents-numbers, length-print, each-tags_from, each-print}

-- ---- the table

pub table-usable : usable table ≡ true
unfolding table
table-usable = refl

-- ---- the limits beyond the widths

pub message-limits : (m : Message) → in_limits (message m) ≡ true → (no_zero m.ack ≡ true) × (1 ≤ m.seq) × (m.seq < last)
unfolding in_limits
message-limits m h =
    let below = and_both _ _ h in
    let above = and_both _ _ below.0 in
    (above.0, omega (arith, ltb-true), omega (arith, ltb-true))

pub request-limits : (r : Request) → in_limits (request r) ≡ true → (no_zero r.ack ≡ true) × (1 ≤ r.lseq)
unfolding in_limits
request-limits r h =
    let above = and_both _ _ h in
    (above.0, omega (arith, ltb-true))

pub message-in_limits : (m : Message) → no_zero m.ack ≡ true → 1 ≤ m.seq → m.seq < last → in_limits (message m) ≡ true
unfolding in_limits
message-in_limits m a low high = rw (a, lt-ltb 0 m.seq low, lt-ltb m.seq last high)

pub request-in_limits : (r : Request) → no_zero r.ack ≡ true → 1 ≤ r.lseq → in_limits (request r) ≡ true
unfolding in_limits
request-in_limits r a low = rw (a, lt-ltb 0 r.lseq low)

no_zero-ack : {ack : List ℕ} → Each (λ x. (1 ≤ x) × (x ≤ last)) ack → no_zero ack ≡ true
no_zero-ack nil = refl
no_zero-ack (cons {x = x} {l = l} p e) = and_intro (ltb 0 x) (no_zero l) (lt-ltb 0 x p.0) (no_zero-ack e)

lawful-in_limits : (x : Said) → Lawful x → in_limits x ≡ true
lawful-in_limits (message m) g = message-in_limits m (no_zero-ack g.ack.each) g.seq_least g.seq_greatest
lawful-in_limits (request r) g = request-in_limits r (no_zero-ack g.ack.each) g.lseq_least

-- ---- messages whose numbers fit can be written

one_number : {r : Row} {x : ℕ} → (r.least ≤ r.width) × (r.width ≤ r.greatest) × (x < 256 ^ r.width) → Content r (x ∷ [])
one_number h = record { least = omega arith; greatest = omega arith; each = cons h.2 nil }

pub ack-content : (ack : List ℕ) → 2 ≤ length ack → length ack ≤ 8 → Each (λ x. x < 256 ^ 4) ack → Content (row_of table 6) ack
unfolding table row_of
ack-content ack low high e = record { least = omega arith; greatest = omega arith; each = e }

pub text-content : (text : List ℕ) → length text ≤ 48 → Bytes text → Content (row_of table 10) text
unfolding table row_of
text-content text high e = record { least = omega arith; greatest = omega arith; each = e }

infixr 20 ◌&◌
◌&◌ : {A B : Type 0} → A → B → A × B
a & b = (a, b)

pub message-contents : (m : Message) → m.cid ≤ last → m.src < 256 → m.seq ≤ last → Content (row_of table 6) m.ack → m.buf < 65536
    → Content (row_of table 10) m.text → Contents table (tags_of table 1) (numbers_of (message m))
unfolding table tags_of row_of
message-contents m cid src seq ack buf text =
    one_number (omega arith)
    & one_number (omega arith)
    & one_number (omega arith)
    & one_number (omega arith)
    & one_number (omega arith)
    & ack
    & one_number (omega arith)
    & text
    & tt

pub request-contents : (r : Request) → r.cid ≤ last → r.src < 256 → Content (row_of table 6) r.ack → r.lsrc < 256 → r.lseq ≤ last
    → Contents table (tags_of table 2) (numbers_of (request r))
unfolding table tags_of row_of
request-contents r cid src ack lsrc lseq =
    one_number (omega arith)
    & one_number (omega arith)
    & one_number (omega arith)
    & one_number (omega arith)
    & ack
    & one_number (omega arith)
    & one_number (omega arith)
    & tt

lawful-ack-content : {ack : List ℕ} → LawfulAck ack → Content (row_of table 6) ack
lawful-ack-content {ack} a = ack-content ack a.least a.greatest (each_map (λ x h. omega arith) a.each)

contents-numbers_of : (x : Said) → Lawful x → Contents table (tags_of table (kind_of x)) (numbers_of x)
contents-numbers_of (message m) g =
    message-contents m g.cid g.src (omega arith) (lawful-ack-content g.ack) g.buf (text-content m.text g.short g.text)
contents-numbers_of (request r) g = request-contents r g.cid g.src (lawful-ack-content g.ack) g.lsrc g.lseq_greatest

-- ---- and what was written is read

abbrev as_of : Said → List (List ℕ) → Said
as_of (message m) = as_message
as_of (request r) = as_request

record Shown (x : Said) : Type 0 where
  pub edition-is : one (numbers_of x) 0 ≡ edition
  pub kind-is : one (numbers_of x) 1 ≡ kind_of x
  pub same : as_of x (numbers_of x) ≡ x

shown : (x : Said) → Shown x
shown (message m) = record { edition-is = refl; kind-is = refl; same = refl }
shown (request r) = record { edition-is = refl; kind-is = refl; same = refl }

read_as-encode : (x : Said) → Lawful x → read_as (kind_of x) (as_of x) (encode x) ≡ some x
unfolding read_as encode
read_as-encode x g =
    let k = contents-numbers_of x g in
    let ts = tags_of table (kind_of x) in
    rw (
      fits-print table table-usable ts (numbers_of x) k,
      numbers-print table table-usable ts (numbers_of x) k,
      eq-eqb (one (numbers_of x) 0) edition (shown x).edition-is,
      eq-eqb (one (numbers_of x) 1) (kind_of x) (shown x).kind-is,
      (shown x).same,
      lawful-in_limits x g,
    )

pub request-no-message : (r : Request) → read_as 1 as_message (encode (request r)) ≡ none
unfolding read_as encode table tags_of row_of
request-no-message r = simp and-false

pub decode-encode : (x : Said) → Lawful x → decode (encode x) ≡ some x
unfolding decode
decode-encode (message m) g = rw (read_as-encode (message m) g)
decode-encode (request r) g = rw (request-no-message r, read_as-encode (request r) g)

-- ---- what is read is lawful, and the frame of what was read is the frame

-- l is read as x, of kind k
pub record Read (k : ℕ) («as» : List (List ℕ) → Said) (l : List ℕ) (x : Said) : Type 0 where
  pub fit : fits table (tags_of table k) l ≡ true
  pub edition-is : one (numbers table (tags_of table k) l) 0 ≡ edition
  pub kind-is : one (numbers table (tags_of table k) l) 1 ≡ k
  pub limits : in_limits («as» (numbers table (tags_of table k) l)) ≡ true
  pub same : «as» (numbers table (tags_of table k) l) ≡ x

when-some : (t : Bool) (x y : Said) → when t x ≡ some y → (t ≡ true) × (x ≡ y)
when-some true x y h = (refl, cc)
when-some false x y h = let z : ◌≡◌ {A = ℕ} 0 1 = cc in absurd (omega arith)

pub read : (k : ℕ) («as» : List (List ℕ) → Said) (l : List ℕ) (x : Said) → read_as k «as» l ≡ some x → Read k «as» l x
unfolding read_as
read k «as» l x h =
    let w = when-some _ _ x h in
    let limits = and_both _ _ w.0 in
    let kind = and_both _ _ limits.0 in
    let first = and_both _ _ kind.0 in
    record {
      fit = first.0;
      edition-is = eqb-true _ _ first.1;
      kind-is = eqb-true _ _ kind.1;
      limits = limits.1;
      same = w.1;
    }

pub read_some : (k : ℕ) («as» : List (List ℕ) → Said) (l : List ℕ) (x : Said) → Read k «as» l x → read_as k «as» l ≡ some x
unfolding read_as
read_some k «as» l x r =
    rw (r.fit, eq-eqb _ _ r.edition-is, eq-eqb _ _ r.kind-is, r.limits) (ap some r.same)

pub read_none : (k : ℕ) («as» : List (List ℕ) → Said) (l : List ℕ) → ((x : Said) → Read k «as» l x → ⊥) → read_as k «as» l ≡ none
read_none k «as» l h = go (read_as k «as» l) refl
  where
    go : (o : Option Said) → read_as k «as» l ≡ o → o ≡ none
    go none e = refl
    go (some x) e = absurd (h x (read k «as» l x e))

pub decode-read : (l : List ℕ) (x : Said) → decode l ≡ some x → Read 1 as_message l x ⊎ Read 2 as_request l x
unfolding decode
decode-read l x h = go (read_as 1 as_message l) refl h
  where
    go : (o : Option Said) → read_as 1 as_message l ≡ o → or_else o (read_as 2 as_request l) ≡ some x → Read 1 as_message l x ⊎ Read 2 as_request l x
    go (some y) e p = inl (read 1 as_message l x (e ∙ p))
    go none e p = inr (read 2 as_request l x p)

each-no_zero : {ack : List ℕ} → Each (λ x. x < 256 ^ 4) ack → no_zero ack ≡ true → Each (λ x. (1 ≤ x) × (x ≤ last)) ack
each-no_zero nil h = nil
each-no_zero (cons {x = x} {l = l} p e) h =
    let k = and_both (ltb 0 x) (no_zero l) h in
    cons (ltb-true 0 x k.0, omega arith) (each-no_zero e k.1)

lawful-ack : {ack : List ℕ} → Content (row_of table 6) ack → no_zero ack ≡ true → LawfulAck ack
unfolding table row_of
lawful-ack k h = record { least = omega arith; greatest = omega arith; each = each-no_zero k.each h }

-- the one number of a field
only : {r : Row} {v : List ℕ} → Content r v → 0 < length v → get_or v 0 0 < 256 ^ r.width
only k h = each_at k.each 0 h

-- l is the frame of x, which is lawful
record IsFrame (l : List ℕ) (x : Said) : Type 0 where
  pub fit : fits table (tags_of table (kind_of x)) l ≡ true
  pub numbers-are : numbers_of x ≡ numbers table (tags_of table (kind_of x)) l
  pub lawful : Lawful x

module _ (l : List ℕ) (b : Bytes l) (x : Said) where
  module _ (k : ℕ) («as» : List (List ℕ) → Said) (r : Read k «as» l x) where
    contents : Contents table (tags_of table k) (numbers table (tags_of table k) l)
    contents = contents-numbers table table-usable (tags_of table k) l b r.fit

    -- after the edition and the kind, vs
    same_numbers : (vs : List (List ℕ)) → let v = numbers table (tags_of table k) l in
        all_alone table (tags_of table k) v ≡ (one v 0 ∷ []) ∷ (one v 1 ∷ []) ∷ vs → (edition ∷ []) ∷ (k ∷ []) ∷ vs ≡ v
    same_numbers vs e =
        let v = numbers table (tags_of table k) l in
        ap₂ (λ x y. (x ∷ []) ∷ (y ∷ []) ∷ vs) (sym r.edition-is) (sym r.kind-is)
        ∙ sym e
        ∙ all_alone-is table table-usable (tags_of table k) v contents

  from-message : Read 1 as_message l x → IsFrame l x
  unfolding table tags_of row_of
  from-message r =
      let k = (contents 1 as_message r).1.1 in
      let k₅ = k.1.1.1 in
      let limits = message-limits _ r.limits in
      subst (IsFrame l) r.same
      (record {
        fit = r.fit;
        numbers-are = same_numbers 1 as_message r _ refl;
        lawful =
            record {
              cid = omega (arith, only k.0 (omega arith));
              src = only k.1.0 (omega arith);
              seq_least = limits.1;
              seq_greatest = limits.2;
              ack = lawful-ack k₅.0 limits.0;
              buf = only k₅.1.0 (omega arith);
              short = omega (arith, k₅.1.1.0.greatest);
              text = k₅.1.1.0.each;
            };
      })

  from-request : Read 2 as_request l x → IsFrame l x
  unfolding table tags_of row_of
  from-request r =
      let k = (contents 2 as_request r).1.1 in
      let k₄ = k.1.1 in
      let limits = request-limits _ r.limits in
      subst (IsFrame l) r.same
      (record {
        fit = r.fit;
        numbers-are = same_numbers 2 as_request r _ refl;
        lawful =
            record {
              cid = omega (arith, only k.0 (omega arith));
              src = only k.1.0 (omega arith);
              ack = lawful-ack k₄.0 limits.0;
              lsrc = only k₄.1.0 (omega arith);
              lseq_least = limits.1;
              lseq_greatest = omega (arith, only k₄.1.1.0 (omega arith));
            };
      })

  is-frame : decode l ≡ some x → IsFrame l x
  is-frame h = ⊎_elim from-message from-request (decode-read l x h)

  pub decode-lawful : decode l ≡ some x → Lawful x
  decode-lawful h = (is-frame h).lawful

  pub encode-decode : decode l ≡ some x → encode x ≡ l
  unfolding encode
  encode-decode h =
      let f = is-frame h in
      ap (print table (tags_of table (kind_of x))) f.numbers-are ∙ print-numbers table table-usable (tags_of table (kind_of x)) l b f.fit

-- a message has one frame, and a frame one message
pub one-frame : (l r : List ℕ) (x : Said) → Bytes l → Bytes r → decode l ≡ some x → decode r ≡ some x → l ≡ r
one-frame l r x b c p q = sym (encode-decode l b x p) ∙ encode-decode r c x q

pub one-message : (x y : Said) → Lawful x → Lawful y → encode x ≡ encode y → x ≡ y
one-message x y g h e =
    let both : some x ≡ some y = sym (decode-encode x g) ∙ ap decode e ∙ decode-encode y h in
    cc

-- ---- the bytes of a frame, and how many

each-tags_of : (k : ℕ) → Bytes (tags_of table k)
unfolding table tags_of
each-tags_of k = each-tags_from 1 table k (omega arith)

pub each-encode : (x : Said) → Lawful x → Bytes (encode x)
unfolding encode
each-encode x g =
    each-print table table-usable (tags_of table (kind_of x)) (numbers_of x) (each-tags_of (kind_of x)) (contents-numbers_of x g)

pub length-message : (m : Message) → length (encode (message m)) ≡ 37 + 4 * length m.ack + length m.text
unfolding encode table tags_of row_of
length-message m = omega (arith, length-print table (tags_of table 1) (numbers_of (message m)))

pub length-request : (r : Request) → length (encode (request r)) ≡ 33 + 4 * length r.ack
unfolding encode table tags_of row_of
length-request r = omega (arith, length-print table (tags_of table 2) (numbers_of (request r)))

pub length-encode : (x : Said) → Lawful x → length (encode x) ≤ 117
length-encode (message m) g = omega (arith, length-message m, g.ack.greatest)
length-encode (request r) g = omega (arith, length-request r, g.ack.greatest)
