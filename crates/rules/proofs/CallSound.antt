-- Every call on a sound unit leaves a sound one; answer 1 is for units that are not sound, and leaves them as they are.
use mathlib.Core.Bool.{true, false, true≢false}
use mathlib.Core.Logic.{◌↔◌}
use mathlib.Core.List.{List}
use mathlib.Core.Path.{◌≡◌, refl, sym, ap, ◌∙◌}
use Prim.Native.Nat.{ℕ, suc, ◌+◌, ◌*◌, ◌≤◌, ◌<◌}
use native.Mathlib.Omega.{arith}
use lib.ListN.{length}
use Rattle.rules.specs.Maps.{among}
use Rattle.rules.specs.Message.{Message, message, encode}
use Rattle.rules.specs.State.{State, min_al}
use Rattle.rules.specs.Steps.{keeping, outgoing, sent}
use Rattle.rules.specs.Sound.{sound}
use Rattle.rules.specs.Calls.{full, Call, sends, hears, asks, copies, takes, call}
use Rattle.rules.specs.Demand1.{noting}
use Rattle.rules.proofs.MapsLaws.{upd-all, upd_same, upd_other}
use Rattle.rules.proofs.MessageLaws.{length-message}
use Rattle.rules.proofs.CallCases.{call-cases, next-all, Refuses, is-unsound, is-sound, refused-cases, done-answer, done-sound}
use Rattle.rules.proofs.Demand1Laws.{demand1}
use Rattle.rules.proofs.SoundLaws.{Kept, Sound, sound-facts, facts-sound}
use Rattle.rules.proofs.LimitsLaws.{Limits, decode-limits}
use Rattle.rules.proofs.KeepsSound.{Storable, accepted-sound, without_taken-sound, noted-sound}
use Rattle.rules.proofs.AcceptedLaws.{Accepts, passed-accepts, accepts-low}
use Rattle.rules.proofs.SendLaws.{Sends, passed-sends, outgoing-carries}
use Rattle.rules.proofs.TakenLaws.{passed-takes}

-- ---- an arrival

pub arrival-storable : (s : State) (p : Message) → Accepts s p → Limits p → Storable s p
arrival-storable s p f m =
    let h = f.comes in
    let g = h.sound in
    record {
      ranges = g.ranges;
      nexts = g.nexts;
      window = g.window;
      held = g.held;
      kept = g.kept;
      once = g.once;
      says = record {
        src-low = h.src-low;
        src-high = h.src-high;
        seq-low = m.seq-low;
        seq-high = m.seq-high;
        count = h.count;
        acks = λ k a b. m.acks k a (omega (arith, h.count));
        short = m.short;
      };
      room = f.room;
      own = upd_other s.req p.src (suc p.seq) s.me (λ e. h.other (sym e)) ∙ g.own;
      low = accepts-low s p f;
      high = h.own-ack;
    }

-- ---- a send

sent-kept : (s : State) (d out : List ℕ) → Sends s d out → Kept (keeping s (outgoing s d))
unfolding min_al outgoing
sent-kept s d out f =
    record {
      short =
          upd-all s.kept s.seq frame (λ x l. min_al s s.me ≤ x → x < suc s.seq → 37 + 4 * s.n ≤ length l)
          (λ a b. omega (arith, long)) (λ x e a b. g.kept.short x a (omega arith));
      long =
          upd-all s.kept s.seq frame (λ x l. min_al s s.me ≤ x → x < suc s.seq → length l ≤ 85 + 4 * s.n)
          (λ a b. omega (arith, long, f.short)) (λ x e a b. g.kept.long x a (omega arith));
    }
  where
    g : Sound s
    g = f.sound

    frame : List ℕ
    frame = encode (message (outgoing s d))

    long : length frame ≡ 37 + 4 * s.n + length d
    long = omega (arith, length-message (outgoing s d), (outgoing-carries s d g).count)

pub send-storable : (s : State) (d out : List ℕ) → Sends s d out → Storable (keeping s (outgoing s d)) (outgoing s d)
unfolding min_al outgoing full
send-storable s d out f =
    let g = f.sound in
    let c = outgoing-carries s d g in
    record {
      ranges = g.ranges;
      nexts = record { seq = omega arith; req = g.nexts.req; heard = g.nexts.heard; al = g.nexts.al; pal = g.nexts.pal };
      window = record { low = omega (arith, g.window.low); high = omega (arith, f.wide) };
      held = g.held;
      kept = sent-kept s d out f;
      once = g.once;
      says = record {
        src-low = g.ranges.i-low;
        src-high = g.ranges.i-high;
        seq-low = g.nexts.seq;
        seq-high = f.seq;
        count = c.count;
        acks = λ k a b. omega (arith, c.acks k a b, g.nexts.req k a b);
        short = f.short;
      };
      room = f.room;
      own = upd_same s.req s.me (suc s.seq);
      low = omega (arith, c.own-ack, g.window.low);
      high = omega (arith, c.own-ack);
    }

-- ---- every call

pub call-sound : (s : State) (c : Call) → sound s ≡ true → sound (call s c).next ≡ true
unfolding sent
call-sound s c h =
    let f = sound-facts s h in
    facts-sound (call s c).next
    (next-all s Sound
    (record {
      stays = f;
      notes = λ p. noted-sound s p f;
      sends = λ d out x. accepted-sound (keeping s (outgoing s d)) (outgoing s d) (send-storable s d out (passed-sends s d out x));
      accepts = λ l p e x. accepted-sound s p (arrival-storable s p (passed-accepts s p x) (decode-limits l p e));
      takes = λ out x. without_taken-sound s _ _ (passed-takes s out x).first f;
    }) c)

-- ---- answer 1

-- answer 1 is given exactly to units that are not sound
pub one-unsound : (s : State) (c : Call) → ((call s c).answer ≡ 1) ↔ (sound s ≡ false)
one-unsound s c = (
  call-cases s (λ r. r.answer ≡ 1 → sound s ≡ false) c (λ a r e. only a e (refused-cases s c a r))
      (λ r d e. absurd (omega (arith, done-answer s d))),
  λ h. call-cases s (λ r. r.answer ≡ 1) c (λ a r. one a h (refused-cases s c a r)) (λ r d. absurd (true≢false (sym (done-sound s d) ∙ h))),
)
  where
    only : (a : ℕ) → a ≡ 1 → Refuses s a → sound s ≡ false
    only a e (is-unsound x h) = h
    only a e (is-sound x h) = absurd (omega arith)

    one : (a : ℕ) → sound s ≡ false → Refuses s a → a ≡ 1
    one a h (is-unsound x g) = x
    one a h (is-sound x g) = absurd (true≢false (sym g ∙ h))

-- answer 1 notes nothing
pub one-quiet : {a : ℕ} (c : Call) → a ≡ 1 → among a (noting c) ≡ false
one-quiet c e = ap (λ (x : ℕ). among x (noting c)) e ∙ quiet c
  where
    quiet : (c : Call) → among 1 (noting c) ≡ false
    quiet (sends d out) = refl
    quiet (hears l) = refl
    quiet (asks k out) = refl
    quiet (copies x out) = refl
    quiet (takes out) = refl

pub one-unchanged : (s : State) (c : Call) → (call s c).answer ≡ 1 → (call s c).next ≡ s
one-unchanged s c e = ((demand1 s c).refuses (λ z. omega arith)).heard (one-quiet c e)
