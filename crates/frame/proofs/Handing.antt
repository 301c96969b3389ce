-- Handing the numbers of a frame out: the stores, and one law for each way out of `co_read_frame`.
use mathlib.Core.List.{List, [], ◌∷◌, ◌++◌, append_assoc}
use mathlib.Core.Logic.{⊎_elim}
use mathlib.Core.Option.{Option, none, some}
use mathlib.Core.Path.{◌≡◌, refl, sym, ap, subst, ◌∙◌}
use Prim.Native.Nat.{ℕ, ◌+◌, ◌≤◌, ◌<◌}
use native.Mathlib.Omega.{arith}
use lib.ListN.{length, take, drop, length-append}
use lib.Seq.{sets, sets-eq, length-sets, drop-drop}
use borrow.Rule.Slice.PartMut.{put_mid}
use borrow.Author.Tests.{lt-ltb, le-ltb}
use Rattle.rules.specs.Message.{Said, message, request, as_message, as_request, decode}
use Rattle.rules.proofs.BytesLaws.{length-all_numbers}
use Rattle.rules.proofs.MessageLaws.{Read, decode-read}
use Rattle.frame.specs.declared.Frame.{Frame}
use Rattle.frame.specs.Acks.{count_at}
use Rattle.frame.specs.Frame.{frame_of}
use Rattle.frame.specs.declared.Frame.TheVariants.{Data, Request}
use Rattle.frame.specs.declared.Head.{Head}
use Rattle.std.specs.Prelude as Rust
use Rattle.std.specs.Prelude.{Some, None}
use Rattle.frame.specs.Export.{eighteen, handed, exported, Exported}
use Rattle.frame.proofs.Numbers.{length-eight}
use Rattle.frame.proofs.Reading.{message-is, request-is, data-at, request-at}
use Rattle.rules.proofs.StoresLaws.{sets-++, sets-written}

-- ---- a part written over is its stores

pub over-sets : (d l : List ℕ) (at k : ℕ) → length l ≡ k → at + k ≤ length d → put_mid at k d l ≡ sets d at l
over-sets d l at k e h =
    sym
    (sets-eq l d at (omega arith)
    ∙ ap (λ i. take at d ++ l ++ drop (at + i) d) e
    ∙ ap (λ r. take at d ++ l ++ r) (sym (drop-drop k at d))
    ∙ append_assoc (take at d) l (drop k (drop at d)))

-- ---- put_numbers

length-eighteen : (k : ℕ) (h : Head) (seq : ℕ) (after : List ℕ) → length h.ack ≡ 8 → length after ≡ 5 → length (eighteen k h seq after) ≡ 18
length-eighteen k h seq after e f = omega (arith, length-append h.ack after)

module _ (k : ℕ) (h : Head) (seq : ℕ) (after : List ℕ) (e : length h.ack ≡ 8) where
  pub puts : (d d₂ x y : List ℕ) → 18 ≤ length d → length after ≡ 5 → x ≡ k ∷ h.cid ∷ h.src ∷ seq ∷ h.n ∷ [] → d₂ ≡ sets (x ++ drop 5 d) 5 h.ack → y ≡ after
      → put_mid 13 5 d₂ y ≡ sets d 0 (eighteen k h seq after)
  puts d d₂ x y long five e₁ e₂ e₃ =
      let front = k ∷ h.cid ∷ h.src ∷ seq ∷ h.n ∷ [] in
      let before : x ++ drop 5 d ≡ sets d 0 front = ap (λ r. r ++ drop 5 d) e₁ ∙ sym (sets-written d front (omega arith)) in
      let to-ack : d₂ ≡ sets d 0 (front ++ h.ack) = e₂ ∙ ap (λ r. sets r 5 h.ack) before ∙ sets-++ d 0 front h.ack in
      let as-long : length d₂ ≡ length d = ap length to-ack ∙ length-sets d 0 (front ++ h.ack) in
      let ten-three : 13 ≡ 0 + length (front ++ h.ack) = omega (arith, e) in
      ap (put_mid 13 5 d₂) e₃
      ∙ over-sets d₂ after 13 5 five (omega arith)
      ∙ ap (λ r. sets r 13 after) to-ack
      ∙ ap (λ i. sets (sets d 0 (front ++ h.ack)) i after) ten-three
      ∙ sets-++ d 0 (front ++ h.ack) after

-- ---- co_read_frame

abbrev ack_of : Said → List ℕ
ack_of (message m) = m.ack
ack_of (request r) = r.ack

few : (l : List ℕ) (x : Said) → decode l ≡ some x → length (ack_of x) ≤ 8
few l x h = ⊎_elim from-message from-request (decode-read l x h)
  where
    from-message : Read 1 as_message l x → length (ack_of x) ≤ 8
    from-message r =
        subst (λ y. length (ack_of y) ≤ 8) (sym (message-is l r.fit) ∙ r.same)
        (omega (arith, length-all_numbers 4 (count_at l 27) (drop 29 l), (data-at l r.fit).few))

    from-request : Read 2 as_request l x → length (ack_of x) ≤ 8
    from-request r =
        subst (λ y. length (ack_of y) ≤ 8) (sym (request-is l r.fit) ∙ r.same)
        (omega (arith, length-all_numbers 4 (count_at l 20) (drop 22 l), (request-at l r.fit).few))

abbrev ack_in : Frame → List ℕ
ack_in (Data d) = d.head.ack
ack_in (Request r) = r.head.ack

length-handed : (f : Frame) → length (ack_in f) ≡ 8 → length (handed f) ≡ 18
length-handed (Data d) h = length-eighteen 1 d.head d.seq _ h refl
length-handed (Request r) h = length-eighteen 2 r.head 0 _ h refl

abbrev ack_length : Rust.Option Frame → ℕ
ack_length None = 8
ack_length (Some f) = length (ack_in f)

acks-of : (l : List ℕ) (o : Option Said) → decode l ≡ o → (f : Frame) → Some f ≡ frame_of o → length (ack_in f) ≡ 8
unfolding frame_of
acks-of l none e f k = cc k
acks-of l (some (message m)) e f k =
    ap ack_length k ∙ length-eight m.ack (few l (message m) e)
acks-of l (some (request r)) e f k =
    ap ack_length k ∙ length-eight r.ack (few l (request r) e)

module _ (l : List ℕ) where
  pub refused-out : None ≡ frame_of (decode l) → (out : List ℕ) → Exported l out 3 out
  unfolding exported
  refused-out e out = record { answers = rw (← e); leaves = rw (← e) }

  module _ (f : Frame) (e : Some f ≡ frame_of (decode l)) where
    acks-eight : length (ack_in f) ≡ 8
    acks-eight = acks-of l (decode l) refl f e

    pub no_room : (out : List ℕ) → length out < 18 → Exported l out 16 out
    unfolding exported
    no_room out h =
        let u = lt-ltb (length out) 18 h in
        record { answers = rw (← e, u); leaves = rw (← e, u) }

    pub handed_out : (out after : List ℕ) → 18 ≤ length out → after ≡ sets out 0 (handed f) → Exported l out 0 after
    unfolding exported
    handed_out out after h s =
        let u = le-ltb (length out) 18 h in
        let room = length-handed f acks-eight in
        record { answers = rw (← e, u); leaves = rw (← e, u) (s ∙ sets-written out (handed f) (omega arith)) }
