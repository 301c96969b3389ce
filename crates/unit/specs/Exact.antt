-- What each call gives, exactly: what it answers, the whole next unit, and the whole lent output.
use Rattle.std.specs.Prelude.{List, ⊤, ℕ, length, replicate, Option, Some, None, Ok, Err}
use Rattle.rules.specs.Message.{decode}
use Rattle.rules.specs.Calls.{written}
use Rattle.answers.specs.Answers.{Answered}
use Rattle.state.specs.declared.Core.{Core}
use Rattle.state.specs.declared.Opening.{Opening}
use Rattle.state.specs.Opening as opening
use Rattle.frame.specs.Frame.{payload_of}
use Rattle.store.specs.Arrays.{with_ack, with_text, with_frame, without_frames}
use Rattle.store.specs.Store.{settled_of}
use Rattle.steps.specs.declared.Resend.{Resend}
use Rattle.steps.specs.declared.Arrival.{Arrival}
use Rattle.steps.specs.declared.Arrival.TheVariants.{Asked, Accepted}
use Rattle.steps.specs.declared.Sending.{Sending}
use Rattle.steps.specs.Arrival.{arrival_of}
use Rattle.steps.specs.Sending.{sending_of}
use Rattle.steps.specs.Means.{own_frame}
use Rattle.handing.specs.declared.Taken.{Taken}
use Rattle.handing.specs.Handing.{Given, taking_of}
use Rattle.unit.specs.declared.Unit.{Unit}
use Rattle.unit.specs.declared.Sent.{Sent}

abbrev pub with_core : Unit → Core → Unit
with_core u c = record { core = c; acks = u.acks; bytes = u.bytes; frames = u.frames }

-- ---- opening

-- these numbers, and arrays for 128 places and 4 kept frames, all 0
abbrev pub empty_with : Core → Unit
empty_with c = record { core = c; acks = replicate 1024 0; bytes = replicate 6144 0; frames = replicate 468 0 }

abbrev pub opened_from : Core × Answered ⊤ → Unit × Answered ⊤
opened_from x = (empty_with x.0, x.1)

unfoldable pub opened_of : Opening → Unit × Answered ⊤
opened_of o = opened_from (opening.opened_of o)

-- ---- send and arrival

-- u, with the numbers c and these kept frames: ACK and data are stored at the place, and what can be is pre-acknowledged
-- and confirmed
abbrev pub stored_with : Unit → Core → ℕ → List ℕ → List ℕ → List ℕ → Unit
stored_with u c place ack text frames =
    let acks : List ℕ = with_ack u.acks place ack in
    record { core = settled_of c acks; acks = acks; bytes = with_text u.bytes place text; frames = frames }

-- the frame is kept before the oldest are dropped
unfoldable pub sent_unit : Unit → Sending → List ℕ → Unit
sent_unit u s d =
    stored_with u s.core s.place u.core.req d
    (without_frames (with_frame u.frames s.slot (own_frame u.core s.buf d)) s.gone)

-- the send s of the data d, where it is done and where it is refused
unfoldable pub sent_by : Unit → List ℕ → List ℕ → Answered Sending → Given (Unit × Answered Sent)
sent_by u d out (Err r) = record { result = (u, Err r); output = out }
sent_by u d out (Ok s) =
    let f : List ℕ = own_frame u.core s.buf d in
    record {
      result = (sent_unit u s d, Ok (record { seq = u.core.seq; len = length f }));
      output = written out f;
    }

unfoldable pub sent_of : Unit → List ℕ → List ℕ → Given (Unit × Answered Sent)
sent_of u d out = sent_by u d out (sending_of u.core u.acks (length d) (length out))

-- the arrival of a frame with the data `text`, the numbers being c then
unfoldable pub arrived_by : Unit → List ℕ → Core → Answered Arrival → Unit × Answered (Option Resend)
arrived_by u text c (Err r) = (with_core u c, Err r)
arrived_by u text c (Ok (Asked r)) = (with_core u c, Ok (Some r))
arrived_by u text c (Ok (Accepted s)) =
    (stored_with u c s.place s.ack text (without_frames u.frames s.gone), Ok None)

unfoldable pub arrived_of : Unit → List ℕ → Unit × Answered (Option Resend)
arrived_of u l =
    let a : Core × Answered Arrival = arrival_of u.core u.acks (decode l) in
    arrived_by u (payload_of (decode l)) a.0 a.1

-- ---- take

abbrev pub taken_from : Unit → Core × Answered Taken → Unit × Answered Taken
taken_from u t = (with_core u t.0, t.1)

unfoldable pub taken_of : Unit → List ℕ → Given (Unit × Answered Taken)
taken_of u out =
    let g : Given (Core × Answered Taken) = taking_of u.core u.acks u.bytes out in
    record { result = taken_from u g.result; output = g.output }
