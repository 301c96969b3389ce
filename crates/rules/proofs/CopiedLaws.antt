-- A kept frame is copied out exactly as it was first sent, after any calls while it is kept.
use mathlib.Core.Bool.{true}
use mathlib.Core.List.{List, [], ◌∷◌}
use mathlib.Core.Path.{◌≡◌, refl, sym, ap, ◌∙◌}
use Prim.Native.Nat.{ℕ, ◌≤◌}
use native.Mathlib.Omega.{arith}
use lib.ListN.{length, take, drop}
use lib.Seq.{take-append_seam, drop-append_seam}
use borrow.Author.Tests.{le-ltb, not-false}
use Rattle.rules.specs.Maps.{at}
use Rattle.rules.specs.Message.{message, encode}
use Rattle.rules.specs.State.{State}
use Rattle.rules.specs.Steps.{outgoing, is_kept}
use Rattle.rules.specs.Sound.{sound}
use Rattle.rules.specs.Calls.{Result, written, send_checks, send, copy_checks, copy, Call, sends, call}
use Rattle.rules.proofs.CallsLaws.{send-cases}
use Rattle.rules.proofs.ChecksLaws.{refused-above}
use Rattle.rules.proofs.SoundLaws.{sound-facts}
use Rattle.rules.proofs.CallSound.{call-sound}
use Rattle.rules.proofs.KeptLaws.{Keeps, keeps-refl, keeps-trans, Adds, sent-adds, call-keeps}

-- ---- copying out from a sound unit

module _ (s : State) (x : ℕ) (out : List ℕ) (h : sound s ≡ true) where
  pub copy-kept : is_kept s x ≡ true → length (s.kept x) ≤ length out
      → copy s x out ≡ record { answer = 0; numbers = length (s.kept x) ∷ []; next = s; output = written out (s.kept x) }
  unfolding copy copy_checks
  copy-kept k room = rw (h, k, le-ltb (length out) (length (s.kept x)) room)

-- ---- any calls in turn

abbrev pub after : State → List Call → State
after s [] = s
after s (c ∷ cs) = after (call s c).next cs

pub after-sound : (s : State) (cs : List Call) → sound s ≡ true → sound (after s cs) ≡ true
after-sound s [] h = h
after-sound s (c ∷ cs) h = after-sound (call s c).next cs (call-sound s c h)

pub after-keeps : (s : State) (cs : List Call) → sound s ≡ true → Keeps s (after s cs)
after-keeps s [] h = keeps-refl s
after-keeps s (c ∷ cs) h =
    keeps-trans s (call s c).next (after (call s c).next cs) (call-keeps s c h) (after-keeps (call s c).next cs (call-sound s c h))

-- ---- a frame that was sent

-- what the send of d wrote, and the unit after it
pub record Wrote (s : State) (d out : List ℕ) (r : Result) : Type 0 where
  pub sound : sound s ≡ true
  pub numbers : r.numbers ≡ s.seq ∷ length (encode (message (outgoing s d))) ∷ []
  pub output : r.output ≡ written out (encode (message (outgoing s d)))
  pub adds : Adds s r.next (encode (message (outgoing s d)))

pub send-wrote : (s : State) (d out : List ℕ) → (send s d out).answer ≡ 0 → Wrote s d out (send s d out)
unfolding send_checks
send-wrote s d out =
    send-cases s (λ r. r.answer ≡ 0 → Wrote s d out r) d out (λ a r e. absurd (omega (arith, refused-above 0 r refl)))
    (λ h e.
    let f : sound s ≡ true = not-false (sound s) (search) in
    record { sound = f; numbers = refl; output = refl; adds = sent-adds s d (sound-facts s f) })

-- the first x bytes of a copy are the first x that the send wrote, x being the length that the send gave, and the rest is as it was lent
pub record SameBytes (sending copying : Result) (room : List ℕ) : Type 0 where
  pub answer : copying.answer ≡ 0
  pub length : copying.numbers ≡ at sending.numbers 2 ∷ []
  pub bytes : take (at sending.numbers 2) copying.output ≡ take (at sending.numbers 2) sending.output
  pub rest : drop (at sending.numbers 2) copying.output ≡ drop (at sending.numbers 2) room

-- right after the send, or after any later calls while the number is kept
pub copied-out : (s : State) (d out : List ℕ) (cs : List Call) (room : List ℕ)
    → let r = send s d out in
    let t = after r.next cs in
    r.answer ≡ 0 → is_kept t s.seq ≡ true → at r.numbers 2 ≤ length room → SameBytes r (copy t s.seq room) room
copied-out s d out cs room e k long =
    record {
      answer = ap (λ (q : Result). q.answer) same;
      length = ap (λ (q : Result). q.numbers) same ∙ ap (λ (n : ℕ). n ∷ []) (ap length frame ∙ sym size);
      bytes = front copied.output room output ∙ sym (front r.output out w.output);
      rest =
          ap (λ (n : ℕ). drop n copied.output) size ∙ ap (λ (z : List ℕ). drop (length f) z) output ∙ drop-append_seam f (drop (length f) room)
          ∙ sym (ap (λ (n : ℕ). drop n room) size);
    }
  where
    r : Result
    r = send s d out

    w : Wrote s d out r
    w = send-wrote s d out e

    t : State
    t = after r.next cs

    f : List ℕ
    f = encode (message (outgoing s d))

    copied : Result
    copied = copy t s.seq room

    -- the unit after the send is sound, and so is every later one
    next : sound r.next ≡ true
    next = call-sound s (sends d out) w.sound

    frame : t.kept s.seq ≡ f
    frame = (after-keeps r.next cs next).frames s.seq w.adds.number k ∙ w.adds.frame

    size : at r.numbers 2 ≡ length f
    size = ap (λ (l : List ℕ). at l 2) w.numbers

    same : copied ≡ record { answer = 0; numbers = length (t.kept s.seq) ∷ []; next = t; output = written room (t.kept s.seq) }
    same = copy-kept t s.seq room (after-sound r.next cs next) k (omega (arith, size, ap length frame))

    output : copied.output ≡ written room f
    output = ap (λ (q : Result). q.output) same ∙ ap (written room) frame

    front : (l lent : List ℕ) → l ≡ written lent f → take (at r.numbers 2) l ≡ f
    front l lent x = ap (λ (n : ℕ). take n l) size ∙ ap (λ (z : List ℕ). take (length f) z) x ∙ take-append_seam f (drop (length f) lent)
