-- What is written into a unit's arrays by a send and an arrival is exact, for each way out.
use mathlib.Core.Bool.{Bool, true, false, cond, true≢false}
use mathlib.Core.List.{List}
use mathlib.Core.Path.{◌≡◌, refl, sym, ap, ◌∙◌}
use Prim.Native.Nat.{ℕ, ◌+◌, ◌*◌, ◌≤◌}
use native.Mathlib.Omega.{arith}
use lib.ListN.{length, take, drop, length-take, length-append}
use lib.Seq.{take-append_seam}
use borrow.Author.Tests.{ltb-false, le-ltb}
use Rattle.rules.specs.Message.{decode}
use Rattle.rules.specs.Calls.{Check, written}
use Rattle.rules.proofs.MapsLaws.{is-between}
use Rattle.rules.proofs.MessageLaws.{length-message}
use Rattle.rules.proofs.SoundLaws.{Ranges}
use Rattle.state.specs.declared.Core.{Core}
use Rattle.state.specs.Soundness.{sound_of}
use Rattle.frame.specs.Frame.{payload_of}
use Rattle.framewrite.specs.Writing.{data_written, Wrote}
use Rattle.state.proofs.RoomLaws.{sound-ranges}
use Rattle.store.specs.Arrays.{with_ack, with_text, with_frame, without_frames}
use Rattle.store.specs.Store.{settled_of}
use Rattle.std.specs.Prelude.{Option, Some, None, Ok, Err}
use Rattle.answers.specs.declared.Refusal.{Refusal}
use Rattle.answers.specs.declared.Refusal.TheVariants.{Unsound}
use Rattle.answers.specs.Answers.{Answered, judged}
use Rattle.answers.proofs.AnswersLaws.{err_not_ok, same_ok, done_passes}
use Rattle.steps.specs.declared.Resend.{Resend}
use Rattle.steps.specs.declared.Stored as declared
use Rattle.steps.specs.declared.Arrival.{Arrival}
use Rattle.steps.specs.declared.Arrival.TheVariants.{Asked, Accepted}
use Rattle.steps.specs.declared.Sending.{Sending}
use Rattle.steps.specs.Arrival.{arrival_of}
use Rattle.steps.specs.Checks.{send_checks}
use Rattle.steps.specs.Sending.{sending_own, sending_checked, sending_of}
use Rattle.steps.specs.Means.{own_message, own_frame}
use Rattle.unit.specs.declared.Unit.{Unit}
use Rattle.unit.specs.Exact.{with_core, stored_with, sent_unit, sent_by, sent_of, arrived_by, arrived_of}

-- what is written into the arrays of u, and settled; `slots` are the kept frames then
pub record Stored (u : Unit) (c : Core) (place : ℕ) (ack text slots : List ℕ) (next : Unit) : Type 0 where
  pub acks : next.acks ≡ with_ack u.acks place ack
  pub bytes : next.bytes ≡ with_text u.bytes place text
  pub frames : next.frames ≡ slots
  pub core : next.core ≡ settled_of c next.acks

pub stored_is : (u : Unit) (c : Core) (place : ℕ) (ack text frames : List ℕ) (next : Unit) → Stored u c place ack text frames next
    → next ≡ stored_with u c place ack text frames
stored_is u c place ack text frames next w i =
    record {
      core = (w.core ∙ ap (settled_of c) w.acks) i;
      acks = w.acks i;
      bytes = w.bytes i;
      frames = w.frames i;
    }

pub stored_from : (u : Unit) (c : Core) (place : ℕ) (ack text frames : List ℕ) (next : Unit) → next ≡ stored_with u c place ack text frames
    → Stored u c place ack text frames next
stored_from u c place ack text frames next e = rw e (record { acks = refl; bytes = refl; frames = refl; core = refl })

-- ---- arrival

-- a message is accepted, and so stored
abbrev pub is_accepted : Answered Arrival → Bool
is_accepted (Ok (Asked x)) = false
is_accepted (Ok (Accepted s)) = true
is_accepted (Err r) = false

-- what an arrival gives back: why it is refused, or the numbers to resend
abbrev pub gives_back : Answered Arrival → Answered (Option Resend)
gives_back (Ok (Asked x)) = Ok (Some x)
gives_back (Ok (Accepted s)) = Ok None
gives_back (Err r) = Err r

-- what `steps` gives: the next numbers c, and r
module _ (u : Unit) (l : List ℕ) (c : Core) (r : Answered Arrival) (e : (c, r) ≡ arrival_of u.core u.acks (decode l)) where
  pub arrived-passing : is_accepted r ≡ false → (with_core u c, gives_back r) ≡ arrived_of u l
  unfolding arrived_of arrived_by
  arrived-passing = go r e
    where
      go : (r : Answered Arrival) → (c, r) ≡ arrival_of u.core u.acks (decode l) → is_accepted r ≡ false → (with_core u c, gives_back r) ≡ arrived_of u l
      go (Ok (Asked x)) e h = rw (← e)
      go (Ok (Accepted s)) e h = absurd (true≢false h)
      go (Err d) e h = rw (← e)

  pub arrived-storing : (s : declared.Stored) → r ≡ Ok (Accepted s) → (text : List ℕ) → text ≡ payload_of (decode l)
      → (next : Unit) → Stored u c s.place s.ack text (without_frames u.frames s.gone) next
      → (next, Ok None) ≡ arrived_of u l
  unfolding arrived_of arrived_by
  arrived-storing s h text t next w = rw (← e, h, ← t, stored_is u c s.place s.ack text (without_frames u.frames s.gone) next w)

-- ---- send

-- what a send that answers 0 has passed
pub record Sendable (c : Core) (len room : ℕ) : Type 0 where
  pub ranges : Ranges c.me c.n c.w
  pub short : len ≤ 48
  pub fits : 37 + 4 * c.n + len ≤ room

pub sendable : (c : Core) (acks : List ℕ) (len room : ℕ) (s : Sending) → sending_of c acks len room ≡ Ok s → Sendable c len room
unfolding sending_of sending_checked
sendable c acks len room s = go (sound_of c acks) refl
  where
    l : List Check
    l = send_checks c len room

    go : (t : Bool) → sound_of c acks ≡ t → cond t (judged l (sending_own c len)) (Err Unsound) ≡ Ok s → Sendable c len room
    go true h e =
        let passed = done_passes (sending_own c len) l s e in
        record {
          ranges = sound-ranges c acks h;
          short = ltb-false 48 len passed.0;
          fits = ltb-false room (37 + 4 * c.n + len) passed.1.1.1.1.0;
        }
    go false h e = absurd (err_not_ok e)

module _ (c : Core) (buf : ℕ) (d : List ℕ) (most : c.n ≤ length c.req) where
  -- the frame, 37 + 4n + d bytes long
  pub own-length : length (own_frame c buf d) ≡ 37 + 4 * c.n + length d
  unfolding own_frame
  own-length = omega (arith, length-message (own_message c buf d), length-take c.n c.req)

  -- stands at the front of the output
  module _ (out : List ℕ) (p : Sendable c (length d) (length out)) (r : Answered ℕ) (after : List ℕ)
      (w : Wrote (data_written c.n (own_message c buf d) out) r after) where
    pub own-done : r ≡ Ok (length (own_frame c buf d))
    unfolding data_written own_frame
    own-done =
        let n = is-between 2 8 c.n p.ranges.n-low p.ranges.n-high in
        rw (n, le-ltb 48 (length d) p.short, le-ltb (length out) (37 + 4 * c.n + length d) p.fits) at w.gives

    pub own-written : after ≡ written out (own_frame c buf d)
    unfolding data_written own_frame
    own-written =
        let n = is-between 2 8 c.n p.ranges.n-low p.ranges.n-high in
        rw (n, le-ltb 48 (length d) p.short, le-ltb (length out) (37 + 4 * c.n + length d) p.fits) at w.leaves

    -- the writer answers its length
    module _ (m : ℕ) (e : r ≡ Ok m) where
      pub own-size : m ≡ length (own_frame c buf d)
      own-size = same_ok (sym e ∙ own-done)

      pub own-fits : m ≤ length after
      own-fits =
          let f = own_frame c buf d in
          omega (arith, own-size, ap length own-written, length-append f (drop (length f) out))

      pub own-front : take m after ≡ own_frame c buf d
      own-front =
          ap (λ (k : ℕ). take k after) own-size
          ∙ ap (take (length (own_frame c buf d))) own-written
          ∙ take-append_seam (own_frame c buf d) (drop (length (own_frame c buf d)) out)

module _ (u : Unit) (d out : List ℕ) (r : Answered Sending) (e : r ≡ sending_of u.core u.acks (length d) (length out)) where
  pub sent-refused : (x : Refusal) → r ≡ Err x → record { result = (u, Err x); output = out } ≡ sent_of u d out
  unfolding sent_of sent_by
  sent-refused x h = rw (← e, h)

  pub sent-done : (s : Sending) → r ≡ Ok s → (frame after : List ℕ) → frame ≡ own_frame u.core s.buf d → after ≡ written out (own_frame u.core s.buf d)
      → (len : ℕ) → len ≡ length (own_frame u.core s.buf d)
      → (next : Unit) → Stored u s.core s.place u.core.req d (without_frames (with_frame u.frames s.slot frame) s.gone) next
      → record { result = (next, Ok (record { seq = u.core.seq; len = len })); output = after } ≡ sent_of u d out
  unfolding sent_of sent_by sent_unit
  sent-done s h frame after f x len m next w =
      rw (← e, h, m, x, ← f, stored_is u s.core s.place u.core.req d (without_frames (with_frame u.frames s.slot frame) s.gone) next w)
