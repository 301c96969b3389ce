-- What an arrival and a send mean in the rules, once what they say is written into the arrays of the unit.
use Rattle.std.specs.Prelude.{List, [], ◌∷◌, ◌≡◌, ℕ, length, take, Ok, Err}
use Rattle.rules.specs.Message.{Message, message, encode}
use Rattle.rules.specs.State.{State}
use Rattle.rules.specs.Calls.{Result, refusal, written}
use Rattle.answers.specs.Answers.{Answered, number_of}
use Rattle.state.specs.declared.Core.{Core}
use Rattle.state.specs.View.{look}
use Rattle.store.specs.Arrays.{with_ack, with_text, with_frame, without_frames}
use Rattle.store.specs.Fits.{Sized}
use Rattle.store.specs.Store.{settled_of}
use Rattle.steps.specs.declared.Arrival.{Arrival}
use Rattle.steps.specs.declared.Arrival.TheVariants.{Asked, Accepted}
use Rattle.steps.specs.declared.Sending.{Sending}

-- all arrays of the unit are as long as they are declared
pub record Shaped (c : Core) (acks bytes frames : List ℕ) : Type 0 where
  pub sized : Sized c acks bytes
  pub kept : length c.kept ≡ 4
  pub frame_room : length frames ≡ 468

-- the state that the numbers c show with these arrays, once they are settled
abbrev pub settled_look : Core → List ℕ → List ℕ → List ℕ → State
settled_look c acks bytes frames = look (settled_of c acks) acks bytes frames

-- the numbers being c then: where a message is accepted, its ACK and the data `text` are written to its place, and the
-- oldest frames dropped
unfoldable pub arrived_at : Core → Answered Arrival → List ℕ → List ℕ → List ℕ → List ℕ → Result
arrived_at c (Err r) acks bytes frames text = refusal 2 (look c acks bytes frames) [] (number_of r)
arrived_at c (Ok (Asked r)) acks bytes frames text =
    record { answer = 0; numbers = r.first ∷ r.last ∷ []; next = look c acks bytes frames; output = [] }
arrived_at c (Ok (Accepted s)) acks bytes frames text =
    record {
      answer = 0;
      numbers = 0 ∷ 0 ∷ [];
      next =
          settled_look c (with_ack acks s.place s.ack) (with_text bytes s.place text)
          (without_frames frames s.gone);
      output = [];
    }

abbrev pub arrived_as : Core × Answered Arrival → List ℕ → List ℕ → List ℕ → List ℕ → Result
arrived_as r = arrived_at r.0 r.1

-- the message that a send of the unit c carries, with this BUF and these data: its ACK is REQ
abbrev pub own_message : Core → ℕ → List ℕ → Message
own_message c buf d =
    record { cid = c.cid; src = c.me; seq = c.seq; ack = take c.n c.req; buf = buf; text = d }

unfoldable pub own_frame : Core → ℕ → List ℕ → List ℕ
own_frame c buf d = encode (message (own_message c buf d))

-- A send of the data d by the unit c that is done writes its frame to the front of the output and to its slot, and
-- REQ and d to its place; then the oldest frames are dropped.
unfoldable pub sent_as : Answered Sending → Core → List ℕ → List ℕ → List ℕ → List ℕ → List ℕ → Result
sent_as (Err r) c acks bytes frames d out = refusal 2 (look c acks bytes frames) out (number_of r)
sent_as (Ok r) c acks bytes frames d out =
    let f : List ℕ = own_frame c r.buf d in
    record {
      answer = 0;
      numbers = c.seq ∷ length f ∷ [];
      next =
          settled_look r.core (with_ack acks r.place c.req) (with_text bytes r.place d)
          (without_frames (with_frame frames r.slot f) r.gone);
      output = written out f;
    }
