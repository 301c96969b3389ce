-- An arrival of any bytes at any unit, once written into the arrays, is the arrival of the rules.
use mathlib.Core.Bool.{Bool, true, false, cond}
use mathlib.Core.List.{List, []}
use mathlib.Core.Option.{Option, none, some}
use mathlib.Core.Path.{◌≡◌, refl, sym}
use Prim.Native.Nat.{ℕ}
use Rattle.rules.specs.Message.{Said, message, request, decode}
use Rattle.rules.specs.State.{State}
use Rattle.rules.specs.Sound.{sound}
use Rattle.rules.specs.Calls.{refusal, data_checks, arrive_data, request_checks, arrive_request, arrive_said, arrive}
use Rattle.rules.proofs.LimitsLaws.{decode-limits}
use Rattle.state.specs.declared.Core.{Core}
use Rattle.state.specs.View.{look}
use Rattle.state.specs.Soundness.{sound_of}
use Rattle.state.proofs.SoundLaws.{sound-look}
use Rattle.frame.specs.Frame.{frame_of, payload_of}
use Rattle.store.specs.Fits.{Sized}
use Rattle.steps.specs.Arrival.{refusing, frame_arrival, arrival_of}
use Rattle.steps.specs.Means.{arrived_at, arrived_as}
use Rattle.steps.proofs.DataMeans.{data-means}
use Rattle.steps.proofs.RequestMeans.{request-means}

-- a unit that is not sound answers 1, whatever arrives
unsound-arrival : (s : State) (o : Option Said) → sound s ≡ false → arrive_said s o ≡ refusal 2 s [] 1
unfolding arrive_data data_checks arrive_request request_checks
unsound-arrival s none h = rw h
unsound-arrival s (some (message p)) h = rw h
unsound-arrival s (some (request r)) h = rw h

pub arrival-means : (c : Core) (acks bytes frames : List ℕ) → Sized c acks bytes → (l : List ℕ)
    → arrived_as (arrival_of c acks (decode l)) acks bytes frames (payload_of (decode l)) ≡ arrive (look c acks bytes frames) l
unfolding arrived_at arrival_of frame_arrival frame_of payload_of arrive
arrival-means c acks bytes frames Z l = go (decode l) refl (sound_of c acks) (sound-look c acks bytes frames)
  where
    s : State
    s = look c acks bytes frames

    go : (o : Option Said) → decode l ≡ o → (t : Bool) → t ≡ sound s
        → arrived_as (cond t (frame_arrival c (frame_of o)) (refusing c 1)) acks bytes frames (payload_of o) ≡ arrive_said s o
    go o e false h = sym (unsound-arrival s o (sym h))
    go none e true h = rw (← h)
    go (some (message p)) e true h = data-means c acks bytes frames Z p (decode-limits l p e) (sym h)
    go (some (request r)) e true h = request-means c acks bytes frames r (sym h)
