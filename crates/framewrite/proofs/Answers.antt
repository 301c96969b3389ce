-- The checks of the writers, and one law for each of their ways out.
use mathlib.Core.Bool.{Bool, true, false, cond, false≢true, ◌&&◌}
use mathlib.Core.List.{List, [], ◌∷◌}
use mathlib.Core.Path.{◌≡◌, refl, sym, ap, subst, ◌∙◌}
use Prim.Native.Nat.{ℕ, ◌+◌, ◌*◌, ◌/◌, ◌%◌, ◌≤◌, ◌<◌}
use native.Mathlib.Nat.{mul-mod_right, mod-one}
use native.Mathlib.Omega.{arith}
use lib.Dec.{eqb, leb, ltb}
use lib.ListN.{length}
use lib.Seq.{sets}
use borrow.Author.Tests.{leb-true, ltb-false, lt-ltb, le-ltb, le-leb, not-false}
use native.Mathlib.Nat.{add-zero}
use Rattle.rules.specs.Maps.{between}
use Rattle.rules.specs.Fields.{table, row_of, tags_of}
use Rattle.rules.specs.Message.{Message, Request, message, request, last, encode}
use Rattle.rules.proofs.MapsLaws.{Lt?, lt, ge, lt?, and_both, same_test, not-true, is-between, between-low, between-high}
use Rattle.rules.proofs.MessageLaws.{ack-content, text-content, message-contents, request-contents, length-message, length-request}
use Rattle.frame.specs.declared.table.Row.{Row}
use Rattle.frame.specs.Table.{line_of, length_fits}
use Rattle.rules.proofs.StoresLaws.{sets-written}
use Rattle.framewrite.specs.declared.fields.Singles.{Singles}
use Rattle.framewrite.specs.Fields.{content_of, fields_of, FieldsRoom}
use Rattle.framewrite.specs.Writing.{frame_checks, writing, data_checks, data_written, request_checks, request_written, Wrote}
use Rattle.rules.specs.Calls.{Check, written}
use Rattle.rules.proofs.CallsLaws.{Passed}
use Rattle.answers.specs.Answers.{judged, refusal_of}
use Rattle.answers.specs.declared.Refusal.{Refusal}
use Rattle.answers.specs.declared.Refusal.TheVariants.{TooLong, OutputTooShort}
use Rattle.frame.specs.declared.table.Kind.TheVariants.{Data, Request as Request'}
use Rattle.std.specs.Prelude.{Ok, Err}

-- ---- count_fits

fits_low : (n : ℕ) → length_fits 6 (4 * n) ≡ true → 8 ≤ 4 * n
unfolding table row_of length_fits
fits_low n t = leb-true _ _ (and_both _ _ (and_both _ _ t).0).0

fits_count : (n : ℕ) → between 2 8 n ≡ true → length_fits 6 (4 * n) ≡ true
unfolding table row_of length_fits
fits_count n b =
    let low : 8 ≤ 4 * n = omega (arith, between-low 2 8 n b) in
    let high : 4 * n ≤ 32 = omega (arith, between-high 2 8 n b) in
    rw (le-leb 8 (4 * n) low, le-leb (4 * n) 32 high, mul-mod_right 4 n)

module _ (r : Row) (e : r ≡ line_of (row_of table 6)) (n : ℕ) where
  pub four : r.width ≡ 4
  unfolding table row_of
  four = ap (λ (x : Row). x.width) e

  most-8 : r.greatest / r.width ≡ 8
  unfolding table row_of
  most-8 = ap (λ (x : Row). x.greatest / x.width) e

  pub too_many : r.greatest / r.width < n → false ≡ between 2 8 n
  too_many h = sym (not-true (between 2 8 n) (λ b. omega (arith, between-high 2 8 n b, most-8)))

  pub few-enough : n ≤ r.greatest / r.width → length_fits 6 (r.width * n) ≡ between 2 8 n
  few-enough h = rw four (same_test (length_fits 6 (4 * n)) (between 2 8 n) (λ t. is-between 2 8 n (omega (arith, fits_low n t)) (omega (arith, most-8))) (fits_count n))

-- ---- the data field

pub text-within : (d : ℕ) → length_fits 10 d ≡ true → d ≤ 48
unfolding table row_of length_fits
text-within d t =
    let bounds = (and_both (leb 0 d && leb d 48) (eqb (d % 1) 0) t).0 in
    leb-true d 48 (and_both (leb 0 d) (leb d 48) bounds).1

text-fits : (d : ℕ) → d ≤ 48 → length_fits 10 d ≡ true
unfolding table row_of length_fits
text-fits d h = rw (le-leb 0 d (omega arith), le-leb d 48 h, mod-one d)

pub text-over : (d : ℕ) → length_fits 10 d ≡ false → 48 < d
text-over d f = go (lt? 48 d)
  where
    go : {b : Bool} → Lt? 48 d b → 48 < d
    go (lt h) = h
    go (ge h) = absurd (false≢true (sym f ∙ text-fits d h))

-- ---- length_of: the checks of both kinds

module _ (o n d room : ℕ) (x : ℕ) where
  module _ (b : between 2 8 n ≡ true) where
    pub refuses-13 : length_fits 10 d ≡ false → Err TooLong ≡ judged (frame_checks o n d room) x
    refuses-13 f = rw (b, lt-ltb 48 d (text-over d f))

    module _ (f : length_fits 10 d ≡ true) where
      short : ltb 48 d ≡ false
      short = le-ltb 48 d (text-within d f)

      pub refuses-16 : room < o + 4 * n + d → Err OutputTooShort ≡ judged (frame_checks o n d room) x
      refuses-16 h = rw (b, short, lt-ltb room (o + 4 * n + d) h)

      pub gives-length : o + 4 * n + d ≤ room → Ok x ≡ judged (frame_checks o n d room) x
      gives-length h = rw (b, short, le-ltb room (o + 4 * n + d) h)

-- ---- what its result means

-- where it refuses, nothing is written
writing-refused : (checks : List Check) (l out : List ℕ) (x : ℕ) (e : Refusal) → Err e ≡ judged checks x → Wrote (writing checks l out) (Err e) out
writing-refused [] l out x e h = cc h
writing-refused (c ∷ checks) l out x e h = go c.holds h (writing-refused checks l out x e)
  where
    go : (t : Bool) → Err e ≡ cond t (Err (refusal_of c.answer)) (judged checks x) → (Err e ≡ judged checks x → Wrote (writing checks l out) (Err e) out)
        → Wrote (cond t (record { given = Err (refusal_of c.answer); output = out }) (writing checks l out)) (Err e) out
    go true h f = record { gives = h; leaves = refl }
    go false h f = f h

-- where it gives a length, no check refuses
given-passed : (checks : List Check) (x k : ℕ) → Ok k ≡ judged checks x → Passed checks × (k ≡ x)
given-passed [] x k h = (tt, cc h)
given-passed (c ∷ checks) x k h = go c.holds h (given-passed checks x k)
  where
    go : (t : Bool) → Ok k ≡ cond t (Err (refusal_of c.answer)) (judged checks x) → (Ok k ≡ judged checks x → Passed checks × (k ≡ x))
        → ((t ≡ false) × Passed checks) × (k ≡ x)
    go true h f = cc h
    go false h f = let r = f h in ((refl, r.0), r.1)

-- and the frame is written
writing-done : (checks : List Check) (l out : List ℕ) → Passed checks → writing checks l out ≡ record { given = Ok (length l); output = written out l }
writing-done [] l out p = refl
writing-done (c ∷ checks) l out p = rw p.0 (writing-done checks l out p.1)

-- ---- what a length says of the frame

pub record Fitting (o n d room k : ℕ) : Type 0 where
  pub count : between 2 8 n ≡ true
  pub few : n ≤ 8
  pub short : d ≤ 48
  pub fits : o + 4 * n + d ≤ room
  pub is : k ≡ o + 4 * n + d

pub fitting : (o n d room k : ℕ) → Ok k ≡ judged (frame_checks o n d room) (o + 4 * n + d) → Fitting o n d room k
fitting o n d room k h =
    let r = given-passed (frame_checks o n d room) (o + 4 * n + d) k h in
    let p = r.0 in
    let b = not-false (between 2 8 n) p.0 in
    record {
      count = b;
      few = between-high 2 8 n b;
      short = ltb-false 48 d p.1.0;
      fits = ltb-false room (o + 4 * n + d) p.1.1.0;
      is = r.1;
    }

module _ (n : ℕ) (m : Message) (out : List ℕ) where
  abbrev size : ℕ
  size = 37 + 4 * n + length m.text

  pub data-refused : (e : Refusal) → Err e ≡ judged (frame_checks 37 n (length m.text) (length out)) size → Wrote (data_written n m out) (Err e) out
  unfolding data_written
  data-refused e h = writing-refused (data_checks n m out) (encode (message m)) out size e h

  pub data-done : length m.ack ≡ n → (k : ℕ) → Ok k ≡ judged (frame_checks 37 n (length m.text) (length out)) size → (after : List ℕ)
      → after ≡ sets out 0 (encode (message m)) → Wrote (data_written n m out) (Ok k) after
  unfolding data_written
  data-done e k h after s =
      let f = fitting 37 n (length m.text) (length out) k h in
      let p = given-passed (data_checks n m out) size k h in
      let l = encode (message m) in
      let long : k ≡ length l = f.is ∙ omega (arith, length-message m) in
      rw (writing-done (data_checks n m out) l out p.0)
      (record { gives = ap Ok long; leaves = s ∙ sets-written out l (omega (arith, f.fits, f.is)) })

module _ (n : ℕ) (r : Request) (out : List ℕ) where
  same-checks : (x : ℕ) → judged (frame_checks 33 n 0 (length out)) x ≡ judged (request_checks n r out) x
  same-checks x = rw add-zero

  pub request-refused : (e : Refusal) → Err e ≡ judged (frame_checks 33 n 0 (length out)) (33 + 4 * n + 0) → Wrote (request_written n r out) (Err e) out
  unfolding request_written
  request-refused e h = writing-refused (request_checks n r out) (encode (request r)) out _ e (h ∙ same-checks _)

  pub request-done : length r.ack ≡ n → (k : ℕ) → Ok k ≡ judged (frame_checks 33 n 0 (length out)) (33 + 4 * n + 0) → (after : List ℕ)
      → after ≡ sets out 0 (encode (request r)) → Wrote (request_written n r out) (Ok k) after
  unfolding request_written
  request-done e k h after s =
      let f = fitting 33 n 0 (length out) k h in
      let p = given-passed (request_checks n r out) _ k (h ∙ same-checks _) in
      let l = encode (request r) in
      let long : k ≡ length l = f.is ∙ omega (arith, length-request r) in
      rw (writing-done (request_checks n r out) l out p.0)
      (record { gives = ap Ok long; leaves = s ∙ sets-written out l (omega (arith, f.fits, f.is)) })

-- ---- the fields of each kind

abbrev singles_of : Message → Singles
singles_of m = record { kind = Data; cid = m.cid; src = m.src; seq = m.seq; buf = m.buf; lsrc = 0; lseq = 0 }

abbrev asked_of : Request → Singles
asked_of r = record { kind = Request'; cid = r.cid; src = r.src; seq = 0; buf = 0; lsrc = r.lsrc; lseq = r.lseq }

pub data-fields : (m : Message) → fields_of (singles_of m) m.ack m.text ≡ encode (message m)
unfolding content_of encode table tags_of
data-fields m = refl

pub request-fields : (r : Request) → fields_of (asked_of r) r.ack [] ≡ encode (request r)
unfolding content_of encode table tags_of
request-fields r = refl

module _ (n : ℕ) (b : between 2 8 n ≡ true) (out : List ℕ) where
  pub data-room : (m : Message) → length m.ack ≡ n → m.cid ≤ last → m.src < 256 → m.seq ≤ last → m.buf < 65536 → length m.text ≤ 48
      → 37 + 4 * n + length m.text ≤ length out → FieldsRoom (singles_of m) m.ack m.text out
  unfolding content_of table tags_of
  data-room m e cid src seq buf short room =
      record {
        contents =
            λ each bytes. message-contents m cid src seq
            (ack-content m.ack (omega (arith, between-low 2 8 n b)) (omega (arith, between-high 2 8 n b)) each) buf (text-content m.text short bytes);
        room = subst (λ l. length l ≤ length out) (sym (data-fields m)) (omega (arith, length-message m));
      }

  pub request-room : (r : Request) → length r.ack ≡ n → r.cid ≤ last → r.src < 256 → r.lsrc < 256 → r.lseq ≤ last
      → 33 + 4 * n ≤ length out → FieldsRoom (asked_of r) r.ack [] out
  unfolding content_of table tags_of
  request-room r e cid src lsrc lseq room =
      record {
        contents =
            λ each bytes. request-contents r cid src
            (ack-content r.ack (omega (arith, between-low 2 8 n b)) (omega (arith, between-high 2 8 n b)) each) lsrc lseq;
        room = subst (λ l. length l ≤ length out) (sym (request-fields r)) (omega (arith, length-request r));
      }
