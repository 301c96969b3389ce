-- A send of any data by any unit, once written into the arrays, is the send of the rules.
use mathlib.Core.Bool.{Bool, true, false, cond, not}
use mathlib.Core.List.{List, [], ◌∷◌}
use mathlib.Core.Path.{◌≡◌, refl, sym, ap, subst, ◌∙◌}
use Prim.Native.Nat.{ℕ, ◌+◌, ◌*◌, ◌≤◌}
use native.Mathlib.Omega.{arith}
use lib.Dec.{leb, ltb}
use lib.ListN.{length, drop}
use Rattle.rules.specs.Maps.{at, least, units}
use Rattle.rules.specs.Message.{Message, last}
use Rattle.rules.specs.State.{State}
use Rattle.rules.specs.Steps.{window, may_send, outgoing, sent}
use Rattle.rules.specs.Sound.{sound}
use Rattle.rules.specs.Calls as rules
use Rattle.rules.specs.Calls.{Check, ◌⇒◌, decide, Result, refusal, written, send}
use Rattle.rules.proofs.MessageLaws.{length-message}
use Rattle.rules.proofs.SoundLaws.{Ranges, Sound, sound-facts}
use Rattle.rules.proofs.KeepsSound.{Storable}
use Rattle.rules.proofs.SendLaws.{Sends, passed-sends, outgoing-carries}
use Rattle.rules.proofs.CallSound.{send-storable}
use Rattle.tables.proofs.GridLaws.{grid-row, least-grid}
use Rattle.lists.specs.View.{Whole}
use Rattle.state.specs.declared.Core.{Core}
use Rattle.state.specs.View.{free_places, look}
use Rattle.state.specs.Soundness.{sound_of}
use Rattle.state.proofs.LookLaws.{low-look, places-look}
use Rattle.state.proofs.SoundLaws.{sound-look}
use Rattle.state.proofs.RoomLaws.{sound-whole}
use Rattle.state.proofs.UnitsLaws.{part-units, take-units}
use Rattle.store.specs.Arrays.{with_frame}
use Rattle.store.specs.Store.{kept_slot, keeping_of}
use Rattle.store.specs.Fits.{Sized, Says, Keeps}
use Rattle.store.proofs.KeepingLook.{keeping-look}
use Rattle.store.proofs.AcceptedLook.{accepted_look, framed, kept, sent-look}
use Rattle.store.proofs.Supplied.{storable-fits, storable-goes, sends-keeps, keeping-sized}
use Rattle.steps.specs.declared.Sending.{Sending}
use Rattle.steps.specs.Checks.{window_open, send_checks}
use Rattle.steps.specs.Sending.{frame_length, own_accepting, sending_own, sending_checked, sending_of}
use Rattle.steps.specs.Means.{Shaped, own_frame, sent_as}
use Rattle.steps.proofs.ChecksLook.{full-look}
use Rattle.std.specs.Prelude.{Ok, Err}
use Rattle.answers.specs.declared.Refusal.TheVariants.{Unsound}
use Rattle.answers.specs.Answers.{Answered, refusal_of}
use Rattle.answers.proofs.AnswersLaws.{numbered-map}
use Rattle.steps.proofs.PlaceLook.{Taking, taking}

-- the least of a row, which is the first of a table
least-units : (n : ℕ) (l : List ℕ) → 1 ≤ n → least n (at l) ≡ least n (units n (at l))
least-units n l h = sym (least-grid n l 1 (omega arith) h) ∙ ap (least n) (grid-row n l 1 (omega arith) h)

module _ (c : Core) (acks bytes frames : List ℕ) (Z : Shaped c acks bytes frames) (d out : List ℕ) where
  abbrev s : State
  s = look c acks bytes frames

  -- the message
  abbrev q : Message
  q = outgoing s d

  -- ---- the checks

  window-look : Ranges c.me c.n c.w → window_open c ≡ may_send s
  unfolding window_open may_send window look
  window-look R = rw (low-look c acks bytes frames R.i-low R.i-high, least-units c.n c.buf (omega arith))

  send-checks : Ranges c.me c.n c.w → Whole c.n c.order → send_checks c (length d) (length out) ≡ drop 1 (rules.send_checks s d out)
  unfolding rules.send_checks look
  send-checks R W i =
      (ltb 48 (length d) ⇒ 13)
      ∷ (leb last c.seq ⇒ 14)
      ∷ (not (window-look R i) ⇒ 15)
      ∷ (full-look c acks bytes frames W c.me i ⇒ 12)
      ∷ (ltb (length out) (37 + 4 * c.n + length d) ⇒ 16)
      ∷ []

  -- ---- the message, and its frame

  own-frame : c.n ≤ 8 → own_frame c (free_places c) d ≡ framed q
  unfolding own_frame outgoing look
  own-frame most = rw (take-units c.n c.req (omega (arith, Z.sized.req)), places-look c acks bytes frames)

  frame-length : Sound s → frame_length c (length d) ≡ length (framed q)
  unfolding frame_length outgoing look
  frame-length F = omega (arith, length-message q, (outgoing-carries s d F).count)

  -- ---- done

  -- what the rules give, with t as the next state
  abbrev done : State → Result
  done t = record { answer = 0; numbers = c.seq ∷ length (framed q) ∷ []; next = t; output = written out (framed q) }

  module _ (W : Whole c.n c.order) (A : Sends s d out) where
    -- the numbers and frames once the frame is kept, and what is accepted
    abbrev new : Core
    new = kept c q

    abbrev slots : List ℕ
    slots = with_frame frames (kept_slot c) (framed q)

    says : Says new (own_accepting c (length d)) d q
    unfolding keeping_of outgoing look
    says =
        let R = A.sound.ranges in
        let T : Taking c c.me = taking c acks bytes frames R.w-high W c.me R.i-low A.room in
        record {
          src = sym T.sender;
          seq = refl;
          ack = sym (part-units c.n c.req);
          buf = sym (places-look c acks bytes frames);
          bytes = refl;
          count = Z.sized.req;
          long = refl;
          slot = T.slot;
        }

    sent_means : accepted_look new acks bytes slots (own_accepting c (length d)) d ≡ sent s q
    unfolding frame_length look
    sent_means =
        sent-look c acks bytes frames (own_accepting c (length d)) d q keeps short sized (storable-fits new acks bytes slots q sized storable)
        (storable-goes new acks bytes slots q sized storable (own_accepting c (length d)) d says) says
      where
        keeps : Keeps c frames
        keeps = sends-keeps c acks bytes frames d out Z.kept Z.frame_room A

        short : length (framed q) ≤ 117
        short = omega (arith, frame-length A.sound, A.short, A.sound.ranges.n-high)

        sized : Sized new acks bytes
        sized = keeping-sized c acks bytes (length (framed q)) Z.sized

        storable : Storable (look new acks bytes slots) q
        storable = subst (λ (t : State). Storable t q) (sym (keeping-look c acks bytes frames q keeps short)) (send-storable s d out A)

    done-means : sent_as (Ok (sending_own c (length d))) c acks bytes frames d out ≡ done (sent s q)
    unfolding sent_as sending_own look
    done-means =
        ap (λ (f : List ℕ). shown f (frame_length c (length d))) (own-frame A.sound.ranges.n-high)
        ∙ ap (shown (framed q)) (frame-length A.sound)
        ∙ ap done sent_means
      where
        -- with f as the frame, and x as its length
        shown : List ℕ → ℕ → Result
        shown f x =
            record {
              answer = 0;
              numbers = c.seq ∷ length f ∷ [];
              next = accepted_look (keeping_of c x) acks bytes (with_frame frames (kept_slot c) f) (own_accepting c (length d)) d;
              output = written out f;
            }

  -- ---- the whole

  abbrev means : Answered Sending → Result
  means r = sent_as r c acks bytes frames d out

  sound-means : sound_of c acks ≡ true → means (sending_checked c (length d) (length out)) ≡ send s d out
  unfolding sending_checked sent_as send rules.send_checks look
  sound-means h =
      let e : sound s ≡ true = sym (sound-look c acks bytes frames) ∙ h in
      let R = (sound-facts s e).ranges in
      let W : Whole c.n c.order = sound-whole c acks Z.sized.list h in
      let refuses : ℕ → Answered Sending = (λ a. Err (refusal_of a)) in
      ap (λ (l : List Check). means (decide l refuses (Ok (sending_own c (length d))))) (send-checks R W)
      ∙ numbered-map means refuses (Ok (sending_own c (length d))) (refusal 2 s out) (λ a e. ap (refusal 2 s out) e) (done (sent s q)) (drop 1 (rules.send_checks s d out))
      (refl, (refl, (refl, (refl, (refl, tt)))))
      (λ p. done-means W (passed-sends s d out (rw e, p)))
      ∙ rw e

pub sending-means : (c : Core) (acks bytes frames : List ℕ) → Shaped c acks bytes frames → (d out : List ℕ)
    → sent_as (sending_of c acks (length d) (length out)) c acks bytes frames d out ≡ send (look c acks bytes frames) d out
unfolding sending_of sent_as send rules.send_checks
sending-means c acks bytes frames Z d out = go (sound_of c acks) refl
  where
    s : State
    s = look c acks bytes frames

    go : (t : Bool) → sound_of c acks ≡ t → sent_as (cond t (sending_checked c (length d) (length out)) (Err Unsound)) c acks bytes frames d out ≡ send s d out
    go true h = sound-means c acks bytes frames Z d out h
    go false h = rw (← sound-look c acks bytes frames, h)
