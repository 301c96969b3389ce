-- What a send gives: the unit's next numbers, and what is to be written.
use Rattle.std.specs.Prelude.{cond, List, ℕ, ◌+◌, ◌*◌, Err}
use Rattle.answers.specs.declared.Refusal.TheVariants.{Unsound}
use Rattle.answers.specs.Answers.{Answered, judged}
use Rattle.state.specs.declared.Core.{Core}
use Rattle.state.specs.Soundness.{sound_of}
use Rattle.state.specs.View.{free_places}
use Rattle.store.specs.declared.Accepting.{Accepting}
use Rattle.store.specs.declared.Next.{Next}
use Rattle.store.specs.Store.{kept_slot, keeping_of, stored_of}
use Rattle.steps.specs.declared.Sending.{Sending}
use Rattle.steps.specs.Checks.{send_checks}
use Rattle.steps.specs.Arrival.{free_place}

unfoldable pub frame_length : Core → ℕ → ℕ
frame_length c len = 37 + 4 * c.n + len

abbrev pub own_accepting : Core → ℕ → Accepting
own_accepting c len =
    record { place = free_place c c.me; seq = c.seq; ack = c.req; buf = free_places c; len = len }

-- the frame is kept, and its message stored
unfoldable pub sending_own : Core → ℕ → Sending
sending_own c len =
    let s : Next = stored_of (keeping_of c (frame_length c len)) (own_accepting c len) in
    record {
      buf = free_places c;
      slot = kept_slot c;
      place = free_place c c.me;
      gone = s.gone;
      core = s.core;
    }

unfoldable pub sending_checked : Core → ℕ → ℕ → Answered Sending
sending_checked c len room = judged (send_checks c len room) (sending_own c len)

unfoldable pub sending_of : Core → List ℕ → ℕ → ℕ → Answered Sending
sending_of c acks len room = cond (sound_of c acks) (sending_checked c len room) (Err Unsound)
