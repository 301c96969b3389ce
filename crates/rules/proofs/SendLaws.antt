-- A send that answers 0: what it found, and what its message carries.
use mathlib.Core.Bool.{false}
use mathlib.Core.List.{List}
use mathlib.Core.Path.{◌≡◌, refl, ◌∙◌}
use Prim.Native.Nat.{ℕ, ◌+◌, ◌*◌, ◌/◌, ◌≤◌, ◌<◌}
use native.Mathlib.Omega.{arith}
use lib.ListN.{length}
use borrow.Author.Tests.{ltb-true, ltb-false, leb-false, not-false}
use Rattle.rules.specs.Maps.{at, least}
use Rattle.rules.specs.Message.{Message, last}
use Rattle.rules.specs.State.{State, min_al, places, taken}
use Rattle.rules.specs.Steps.{window, may_send, outgoing}
use Rattle.rules.specs.Sound.{sound}
use Rattle.rules.specs.Calls.{full, send_checks, send}
use Rattle.rules.proofs.MapsLaws.{least-le, length-listed, at_listed}
use Rattle.rules.proofs.CallsLaws.{Passed, send-cases}
use Rattle.rules.proofs.ChecksLaws.{refused-above}
use Rattle.rules.proofs.SoundLaws.{Sound, sound-facts}
use Rattle.rules.proofs.SlotsLaws.{free-taken}

pub record Sends (s : State) (d out : List ℕ) : Type 0 where
  pub sound : Sound s
  pub short : length d ≤ 48
  pub seq : s.seq < last
  -- the window is open, by W and by the places that each unit has
  pub wide : s.seq < min_al s s.me + s.w
  pub ahead : (j : ℕ) → 1 ≤ j → j ≤ s.n → s.seq < s.al s.me j + s.w
  pub spared : s.seq < min_al s s.me + least s.n s.buf / s.n
  pub room : full s s.me ≡ false
  pub long : 37 + 4 * s.n + length d ≤ length out

pub passed-sends : (s : State) (d out : List ℕ) → Passed (send_checks s d out) → Sends s d out
unfolding send_checks may_send window min_al
passed-sends s d out h =
    let f : Sound s = sound-facts s (not-false (sound s) (search)) in
    let gap : s.seq < min_al s s.me + window s = ltb-true s.seq (min_al s s.me + window s) (not-false (may_send s) (search)) in
    record {
      sound = f;
      short = ltb-false 48 (length d) (search);
      seq = leb-false last s.seq (search);
      wide = omega arith;
      ahead = λ j a b. omega (arith, least-le s.n (s.al s.me) j a b);
      spared = omega arith;
      room = search;
      long = ltb-false (length out) (37 + 4 * s.n + length d) (search);
    }

pub sent-facts : (s : State) (d out : List ℕ) → (send s d out).answer ≡ 0 → Sends s d out
unfolding send_checks
sent-facts s d out =
    send-cases s (λ r. r.answer ≡ 0 → Sends s d out) d out (λ a r e. absurd (omega (arith, refused-above 0 r refl))) (λ h e. passed-sends s d out h)

-- ---- what the message says

pub record Carries (s : State) (d : List ℕ) (m : Message) : Type 0 where
  pub group : m.cid ≡ s.cid
  pub from : m.src ≡ s.me
  pub number : m.seq ≡ s.seq
  pub text : m.text ≡ d
  pub count : length m.ack ≡ s.n
  pub acks : (k : ℕ) → 1 ≤ k → k ≤ s.n → at m.ack k ≡ s.req k
  -- ACK of the own index is SEQ, and BUF is the number of places that are not taken
  pub own-ack : at m.ack s.me ≡ s.seq
  pub buf : m.buf + length (taken s) ≡ places s

pub outgoing-carries : (s : State) (d : List ℕ) → Sound s → Carries s d (outgoing s d)
unfolding outgoing
outgoing-carries s d f =
    record {
      group = refl;
      from = refl;
      number = refl;
      text = refl;
      count = length-listed 1 s.n s.req;
      acks = at_listed s.n s.req;
      own-ack = at_listed s.n s.req s.me f.ranges.i-low f.ranges.i-high ∙ f.own;
      buf = free-taken s f;
    }
