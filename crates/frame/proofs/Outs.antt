-- One law for each way out of the functions that hand a frame back.
use mathlib.Core.Bool.{Bool, true, false, cond, false≢true}
use mathlib.Core.List.{List, []}
use mathlib.Core.Logic.{⊎_elim}
use mathlib.Core.Option.{Option, none, some}
use mathlib.Core.Path.{◌≡◌, refl, sym, ap, subst, ◌∙◌}
use Prim.Native.Nat.{ℕ, ◌+◌, ◌-◌, ◌*◌, ◌≤◌, ◌<◌}
use native.Mathlib.Omega.{arith}
use lib.ListN.{length, get_or, take, drop, length-drop}
use lib.Seq.{take_all}
use Rattle.rules.specs.Bytes.{number, all_numbers}
use Rattle.rules.specs.Fields.{table, tags_of, fits}
use Rattle.rules.specs.Message.{Message, Said, message, request, last, edition, no_zero, in_limits, as_message, as_request, decode}
use Rattle.rules.proofs.BytesLaws.{length-all_numbers, all_numbers-one}
use Rattle.rules.proofs.MessageLaws.{Read, decode-read, message-limits, request-limits, message-in_limits, request-in_limits}
use Rattle.frame.specs.declared.Frame.{Frame}
use Rattle.frame.specs.declared.Frame.TheVariants.{Data, Request}
use Rattle.frame.specs.declared.Data.{Data as DataFrame}
use Rattle.frame.specs.declared.Head.{Head}
use Rattle.frame.specs.Acks.{count_at, acks_at, AckFits}
use Rattle.frame.specs.Field.{part_at}
use Rattle.frame.specs.Frame.{head_of, head_at, frame_of, payload_of}
use Rattle.std.specs.Prelude as Rust
use Rattle.std.specs.Prelude.{Some, None}
use Rattle.frame.proofs.Here.{a-part}
use Rattle.frame.proofs.Reading.{Seen, not_seen, message_at, request_at, message-is, data-at, request-at, is-message, not-message, is-request, not-request}

-- ---- what both kinds share

module _ (l : List ℕ) (p : ℕ) where
  abbrev head_there : Head
  head_there = head_of (number (take 4 (drop 11 l))) (number (take 1 (drop 18 l))) (acks_at l p)

  no-head : None ≡ head_at l p → no_zero (acks_at l p) ≡ true → ⊥
  unfolding head_at
  no-head e t = go (no_zero (acks_at l p)) e t
    where
      go : (b : Bool) → None ≡ cond b (Some head_there) None → b ≡ true → ⊥
      go true e t = cc e
      go false e t = false≢true t

  module _ (h : Head) (e : Some h ≡ head_at l p) where
    tested : no_zero (acks_at l p) ≡ true
    unfolding head_at
    tested = go (no_zero (acks_at l p)) e
      where
        go : (b : Bool) → Some h ≡ cond b (Some head_there) None → b ≡ true
        go true e = refl
        go false e = cc e

    head-is : h ≡ head_there
    unfolding head_at
    head-is = go (no_zero (acks_at l p)) e
      where
        go : (b : Bool) → Some h ≡ cond b (Some head_there) None → h ≡ head_there
        go true e = cc e
        go false e = cc e

    n-is : h.n ≡ count_at l p
    n-is = ap (λ (x : Head). x.n) head-is ∙ length-all_numbers 4 (count_at l p) (drop (p + 2) l)

-- y is what l says where it is within the limits, and its ACK stands at p
module _ (l : List ℕ) (p : ℕ) (y : Said) (acks : in_limits y ≡ true → no_zero (acks_at l p) ≡ true) (no-frame : (in_limits y ≡ true → ⊥) → decode l ≡ none) where
  out-of-limits : (in_limits y ≡ true → ⊥) → None ≡ frame_of (decode l)
  unfolding frame_of
  out-of-limits h = rw (no-frame h)

  zero-ack : None ≡ head_at l p → None ≡ frame_of (decode l)
  zero-ack e = out-of-limits (λ h. no-head l p e (acks h))

-- ---- read_data

module _ (l : List ℕ) (f : fits table (tags_of table 1) l ≡ true) where
  pub data-acks : AckFits l 27
  data-acks = record { few = (data-at l f).few; inside = omega (arith, (data-at l f).long) }

  pub data-long : 37 ≤ length l
  data-long = omega (arith, (data-at l f).long)

  pub data-room : (h : Head) → Some h ≡ head_at l 27 → 37 + 4 * h.n ≤ length l
  data-room h e = omega (arith, (data-at l f).long, n-is l 27 h e)

  module _ (e : get_or l 3 0 ≡ edition) (k : get_or l 7 0 ≡ 1) where
    pub data-zero-ack : None ≡ head_at l 27 → None ≡ frame_of (decode l)
    data-zero-ack = zero-ack l 27 (message (message_at l)) (λ h. (message-limits _ h).0) (not-message l f e k)

    module _ (seq : ℕ) (es : seq ≡ number (take 4 (drop 22 l))) where
      pub seq-out : (1 ≤ seq → seq < last → ⊥) → None ≡ frame_of (decode l)
      seq-out z =
          out-of-limits l 27 (message (message_at l)) (λ h. (message-limits _ h).0) (not-message l f e k)
          (λ h. let m = message-limits (message_at l) h in z (omega (arith, m.1)) (omega (arith, m.2)))

      pub a-message : 1 ≤ seq → seq < last → (h : Head) → Some h ≡ head_at l 27 → (buf : ℕ) → buf ≡ number (take 2 (drop (37 + 4 * h.n - 5) l))
          → Some (Data (record { head = h; seq = seq; buf = buf; start = 37 + 4 * h.n; len = length l - (37 + 4 * h.n) })) ≡ frame_of (decode l)
      unfolding frame_of
      a-message low high h eh buf eb =
          let read = is-message l f e k (message-in_limits (message_at l) (tested l 27 h eh) (omega arith) (omega arith)) in
          let n = count_at l 27 in
          let n-is : length (acks_at l 27) ≡ n = length-all_numbers 4 n (drop 29 l) in
          let d = length l - (37 + 4 * n) in
          let len_is : length (all_numbers 1 d (drop (37 + 4 * n) l)) ≡ d = length-all_numbers 1 d (drop (37 + 4 * n) l) in
          let buf-at : 37 + 4 * n - 5 ≡ 32 + 4 * n = omega arith in
          rw (read, es, eb, head-is l 27 h eh, n-is, len_is, buf-at)

-- ---- read_request

module _ (l : List ℕ) (f : fits table (tags_of table 2) l ≡ true) where
  pub request-acks : AckFits l 20
  request-acks = record { few = (request-at l f).few; inside = omega (arith, (request-at l f).long) }

  pub request-long : 33 ≤ length l
  request-long = omega (arith, (request-at l f).long)

  pub request-room : (h : Head) → Some h ≡ head_at l 20 → 33 + 4 * h.n ≤ length l
  request-room h e = omega (arith, (request-at l f).long, n-is l 20 h e)

  module _ (e : get_or l 3 0 ≡ edition) (k : get_or l 7 0 ≡ 2) where
    pub request-zero-ack : None ≡ head_at l 20 → None ≡ frame_of (decode l)
    request-zero-ack = zero-ack l 20 (request (request_at l)) (λ h. (request-limits _ h).0) (not-request l f e k)

    module _ (h : Head) (eh : Some h ≡ head_at l 20) (lseq : ℕ) (es : lseq ≡ number (take 4 (drop (25 + 4 * h.n + 4) l))) where
      lseq-is : lseq ≡ (request_at l).lseq
      lseq-is =
          let lseq-at : 25 + 4 * h.n + 4 ≡ 29 + 4 * count_at l 20 = omega (arith, n-is l 20 h eh) in
          es ∙ ap (λ p. number (take 4 (drop p l))) lseq-at

      pub lseq-out : lseq ≡ 0 → None ≡ frame_of (decode l)
      lseq-out z =
          out-of-limits l 20 (request (request_at l)) (λ h. (request-limits _ h).0) (not-request l f e k)
          (λ h. omega (arith, (request-limits (request_at l) h).1, lseq-is))

      pub a-request : 1 ≤ lseq → (lsrc : ℕ) → lsrc ≡ number (take 1 (drop (25 + 4 * h.n) l))
          → Some (Request (record { head = h; lsrc = lsrc; lseq = lseq })) ≡ frame_of (decode l)
      unfolding frame_of
      a-request low lsrc el =
          let read = is-request l f e k (request-in_limits (request_at l) (tested l 20 h eh) (omega (arith, lseq-is))) in
          let n-is : length (acks_at l 20) ≡ count_at l 20 = length-all_numbers 4 (count_at l 20) (drop 22 l) in
          rw (read, el, lseq-is, head-is l 20 h eh, n-is)

-- ---- read

pub not-a-frame : (l : List ℕ) → (Seen l → ⊥) → None ≡ frame_of (decode l)
unfolding frame_of
not-a-frame l h = rw (not_seen l h)

-- ---- payload

record Part (l : List ℕ) (m : Message) : Type 0 where
  pub inside : 37 + 4 * length m.ack ≤ length l
  pub text-is : drop (37 + 4 * length m.ack) l ≡ m.text

part-at : (l : List ℕ) → fits table (tags_of table 1) l ≡ true → Part l (message_at l)
part-at l f =
    let n = count_at l 27 in
    let long = (data-at l f).long in
    let n-is : length (acks_at l 27) ≡ n = length-all_numbers 4 n (drop 29 l) in
    let d : length l - (37 + 4 * n) ≡ length (drop (37 + 4 * n) l) = sym (length-drop (37 + 4 * n) l) in
    record {
      inside = rw n-is long;
      text-is = rw (n-is, d) (sym (all_numbers-one (drop (37 + 4 * n) l)));
    }

abbrev start_of : Rust.Option Frame → ℕ
start_of None = 0
start_of (Some (Data d)) = d.start
start_of (Some (Request r)) = 0

part_of : (l : List ℕ) (m : Message) → decode l ≡ some (message m) → Part l m
part_of l m h = ⊎_elim from-message from-request (decode-read l (message m) h)
  where
    from-message : Read 1 as_message l (message m) → Part l m
    from-message r =
        let same : message_at l ≡ m = cc (message-is l r.fit, r.same) in
        subst (Part l) same (part-at l r.fit)

    from-request : Read 2 as_request l (message m) → Part l m
    from-request r = let z : ◌≡◌ {A = ℕ} 0 1 = cc r.same in absurd (omega arith)

module _ (l : List ℕ) where
  part-shown : (o : Option Said) → decode l ≡ o → (d : DataFrame) → Some (Data d) ≡ frame_of o → part_at l d.start (length l) ≡ payload_of o
  unfolding frame_of payload_of
  part-shown none e d k = cc k
  part-shown (some (message m)) e d k =
      let p = part_of l m e in
      let start-is : d.start ≡ 37 + 4 * length m.ack = ap start_of k in
      sym (a-part l d.start (length l) (omega (arith, p.inside)) (omega arith))
      ∙ take_all (length l - d.start) (drop d.start l) (omega (arith, length-drop d.start l))
      ∙ rw start-is p.text-is
  part-shown (some (request r)) e d k = cc k

  pub data_is : (d : DataFrame) → Some (Data d) ≡ frame_of (decode l) → part_at l d.start (length l) ≡ payload_of (decode l)
  data_is = part-shown (decode l) refl

  no_part : (o : Option Said) → ((d : DataFrame) → Some (Data d) ≡ frame_of o → ⊥) → [] ≡ payload_of o
  unfolding frame_of payload_of
  no_part none k = refl
  no_part (some (message m)) k = absurd (k _ refl)
  no_part (some (request r)) k = refl

  pub no-data : ((d : DataFrame) → Some (Data d) ≡ frame_of (decode l) → ⊥) → [] ≡ payload_of (decode l)
  no-data = no_part (decode l)
