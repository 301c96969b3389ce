-- Kept frames: which numbers are kept, that their frames stay as they were written, and that only a send adds one.
use mathlib.Core.Bool.{Bool, true, cond}
use mathlib.Core.Logic.{◌≢◌}
use mathlib.Core.List.{List, []}
use mathlib.Core.Path.{◌≡◌, refl, sym, ap, subst, ◌∙◌}
use Prim.Native.Nat.{ℕ, suc, ◌≤◌, ◌<◌}
use native.Mathlib.Omega.{arith}
use native.Mathlib.Nat.{le_refl}
use borrow.Author.Tests.{le-leb}
use Rattle.rules.specs.Maps.{column, at}
use Rattle.rules.specs.Message.{Message, message, encode}
use Rattle.rules.specs.State.{State, min_al}
use Rattle.rules.specs.Steps.{keeping, outgoing, stored, noted, is_kept, with_lists, accepted, sent, without_taken}
use Rattle.rules.specs.Sound.{sound}
use Rattle.rules.specs.Calls.{Result, Call, sends, call}
use Rattle.rules.proofs.MapsLaws.{upd_same, upd_other, column-same, least-le}
use Rattle.rules.proofs.StepsLaws.{settles-lists}
use Rattle.rules.proofs.CallCases.{Done, done-sends, done-data, done-request, done-asks, done-copies, done-takes, call-cases, next-all}
use Rattle.rules.proofs.Demand1Laws.{refused-refusing}
use Rattle.rules.proofs.SoundLaws.{Sound, sound-facts}
use Rattle.rules.proofs.AcceptedLaws.{passed-accepts, accepts-low}
use Rattle.rules.proofs.KeepsSound.{min_al-rises}
use Rattle.rules.proofs.SendLaws.{outgoing-carries}
use Rattle.rules.proofs.RequestLaws.{is_kept-facts, facts-is_kept}

-- settling changes PAL and the lists alone
pub settled-rest : (s : State) (p : Message)
    → let t = accepted s p in
    with_lists (stored s p) t.pal t.waiting t.ordered t.confirmed ≡ t
unfolding accepted
settled-rest s p = sym (settles-lists s.n (stored s p))

-- ---- what stays kept

pub record Keeps (s t : State) : Type 0 where
  pub me : t.me ≡ s.me
  pub seq : s.seq ≤ t.seq
  pub low : min_al s s.me ≤ min_al t t.me
  pub frames : (x : ℕ) → is_kept s x ≡ true → is_kept t x ≡ true → t.kept x ≡ s.kept x

pub keeps-refl : (s : State) → Keeps s s
keeps-refl s = record { me = refl; seq = le_refl s.seq; low = le_refl (min_al s s.me); frames = λ x a b. refl }

pub keeps-trans : (s t u : State) → Keeps s t → Keeps t u → Keeps s u
keeps-trans s t u f g =
    record {
      me = g.me ∙ f.me;
      seq = omega (arith, f.seq, g.seq);
      low = omega (arith, f.low, g.low);
      frames = λ x a b.
          let old = is_kept-facts s x a in
          let new = is_kept-facts u x b in
          let between = facts-is_kept t x (omega (arith, g.low)) (omega (arith, f.seq)) in
          g.frames x between b ∙ f.frames x a between;
    }

-- a number that is kept and is not new was kept before
pub keeps-old : (s t : State) → Keeps s t → (x : ℕ) → is_kept t x ≡ true → x < s.seq → is_kept s x ≡ true
keeps-old s t f x k h =
    let new = is_kept-facts t x k in
    facts-is_kept s x (omega (arith, f.low)) h

-- an acceptance, where the own number that p expects next is not below what is kept
pub accepted-keeps : (s : State) (p : Message) → 1 ≤ s.n → min_al s s.me ≤ at p.ack s.me → Keeps s (accepted s p)
unfolding stored min_al
accepted-keeps s p one low =
    subst (λ (z : State). Keeps s z) (settled-rest s p)
    (record {
      me = refl;
      seq = le_refl s.seq;
      low = min_al-rises s p one low;
      frames = λ x a b. ap (λ (t : Bool). cond t (s.kept x) []) (le-leb _ x (is_kept-facts _ x b).0);
    })

keeping-keeps : (s : State) (m : Message) → Keeps s (keeping s m)
unfolding min_al
keeping-keeps s m =
    record {
      me = refl;
      seq = omega arith;
      low = le_refl (min_al s s.me);
      frames = λ x a b.
          let old = is_kept-facts s x a in
          upd_other s.kept s.seq (encode (message m)) x (omega arith);
    }

-- ---- a send adds its own frame, and nothing else

pub record Adds (s t : State) (f : List ℕ) : Type 0 where
  pub keeps : Keeps s t
  pub next : t.seq ≡ suc s.seq
  pub number : is_kept t s.seq ≡ true
  pub only : (x : ℕ) → is_kept t x ≡ true → x ≢ s.seq → is_kept s x ≡ true
  pub frame : t.kept s.seq ≡ f

pub accepted-low : (s : State) (p : Message) → 1 ≤ p.src → p.src ≤ s.n → min_al (accepted s p) (accepted s p).me ≤ at p.ack s.me
unfolding stored min_al
accepted-low s p a b =
    subst (λ (z : State). min_al z z.me ≤ at p.ack s.me) (settled-rest s p)
    (omega (arith, least-le s.n (column s.al p.src (at p.ack) s.me) p.src a b, column-same s.al p.src (at p.ack) s.me))

pub sent-adds : (s : State) (d : List ℕ) → Sound s → Adds s (sent s (outgoing s d)) (encode (message (outgoing s d)))
unfolding sent min_al stored outgoing
sent-adds s d f =
    record {
      keeps = keeps;
      next = next;
      number = number;
      only = λ x k d.
          let new = is_kept-facts (sent s m) x k in
          keeps-old s (sent s m) keeps x k (omega (arith, next));
      frame =
          after.frames s.seq (facts-is_kept (keeping s m) s.seq f.window.low (omega arith)) number
          ∙ upd_same s.kept s.seq (encode (message m));
    }
  where
    m : Message
    m = outgoing s d

    own : at m.ack s.me ≡ s.seq
    own = (outgoing-carries s d f).own-ack

    after : Keeps (keeping s m) (sent s m)
    after = accepted-keeps (keeping s m) m (omega (arith, f.ranges.n-low)) (omega (arith, own, f.window.low))

    keeps : Keeps s (sent s m)
    keeps = keeps-trans s (keeping s m) (sent s m) (keeping-keeps s m) after

    next : (sent s m).seq ≡ suc s.seq
    next = ap (λ (z : State). z.seq) (sym (settled-rest (keeping s m) m))

    number : is_kept (sent s m) s.seq ≡ true
    number =
        facts-is_kept (sent s m) s.seq (omega (arith, own, accepted-low (keeping s m) m f.ranges.i-low f.ranges.i-high))
        (omega (arith, next))

-- ---- every call

pub call-keeps : (s : State) (c : Call) → sound s ≡ true → Keeps s (call s c).next
unfolding noted without_taken min_al
call-keeps s c h =
    next-all s (Keeps s)
    (record {
      stays = keeps-refl s;
      notes = λ p. record { me = refl; seq = le_refl s.seq; low = le_refl (min_al s s.me); frames = λ x a b. refl };
      sends = λ d out x. (sent-adds s d (sound-facts s h)).keeps;
      accepts = λ l p e x. accepted-keeps s p (omega (arith, (sound-facts s h).ranges.n-low)) (accepts-low s p (passed-accepts s p x));
      takes = λ out x. record { me = refl; seq = le_refl s.seq; low = le_refl (min_al s s.me); frames = λ x a b. refl };
    }) c

-- only a send raises SEQ
pub data Sending : Call → Type 0 where
  sending : (d out : List ℕ) → Sending (sends d out)

pub call-seq : (s : State) (c : Call) → (Sending c → ⊥) → (call s c).next.seq ≡ s.seq
unfolding stored without_taken
call-seq s c n = call-cases s (λ r. r.next.seq ≡ s.seq) c (λ a r. ap (λ (z : State). z.seq) (refused-refusing s c a).unit) (λ r d. done n d)
  where
    done : {c : Call} {r : Result} → (Sending c → ⊥) → Done s c r → r.next.seq ≡ s.seq
    done n (done-sends d out x) = absurd (n (sending d out))
    done n (done-data l p e x) = ap (λ (z : State). z.seq) (sym (settled-rest s p))
    done n (done-request l r e x) = refl
    done n (done-asks k out x) = refl
    done n (done-copies x out y) = refl
    done n (done-takes out x) = refl

-- so every other call keeps no number that was not kept
pub call_kept : (s : State) (c : Call) → sound s ≡ true → (Sending c → ⊥) → (x : ℕ) → is_kept (call s c).next x ≡ true → is_kept s x ≡ true
call_kept s c h n x k =
    let new = is_kept-facts (call s c).next x k in
    keeps-old s (call s c).next (call-keeps s c h) x k (omega (arith, call-seq s c n))
