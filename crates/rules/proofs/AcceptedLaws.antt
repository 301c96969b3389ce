-- What a message satisfied whose arrival answers 0: it passed each check.
use mathlib.Core.Bool.{Bool, true, false, cond, not}
use mathlib.Core.Logic.{◌≢◌}
use mathlib.Core.List.{List}
use mathlib.Core.Path.{◌≡◌, refl}
use Prim.Native.Nat.{ℕ, ◌≤◌}
use native.Mathlib.Omega.{arith}
use lib.Dec.{eqb, leb, ltb}
use lib.ListN.{length}
use borrow.Author.Tests.{ltb-false, leb-true, eqb-true, eqb-false, not-false}
use Rattle.rules.specs.Maps.{between, at, every}
use Rattle.rules.specs.Message.{Message}
use Rattle.rules.specs.State.{State, min_al, places}
use Rattle.rules.specs.Steps.{known}
use Rattle.rules.specs.Sound.{sound}
use Rattle.rules.specs.Calls.{full, foreign, data_checks, arrive_data}
use Rattle.rules.proofs.MapsLaws.{Eq?, same, other, eq?, between-low, between-high, least-le, every-at, or_left, or_right}
use Rattle.rules.proofs.CallsLaws.{Passed, data-cases}
use Rattle.rules.proofs.ChecksLaws.{refused-above}
use Rattle.rules.proofs.SoundLaws.{Sound, sound-facts}

-- ---- what both kinds of frame are checked for

pub record Comes (s : State) (cid src : ℕ) (ack : List ℕ) : Type 0 where
  pub sound : Sound s
  pub group : cid ≡ s.cid
  pub count : length ack ≡ s.n
  pub src-low : 1 ≤ src
  pub src-high : src ≤ s.n
  pub other : src ≢ s.me
  pub own-ack : at ack s.me ≤ s.seq

pub passed-comes : (s : State) (cid src : ℕ) (ack : List ℕ) → not (sound s) ≡ false → not (eqb cid s.cid) ≡ false → foreign s src ack ≡ false
    → eqb src s.me ≡ false → ltb s.seq (at ack s.me) ≡ false → Comes s cid src ack
unfolding foreign
passed-comes s cid src ack a b c d e =
    let unit : between 1 s.n src ≡ true = not-false (between 1 s.n src) (search (or_left, or_right)) in
    record {
      sound = sound-facts s (not-false (sound s) a);
      group = eqb-true cid s.cid (not-false (eqb cid s.cid) b);
      count = eqb-true (length ack) s.n (not-false (eqb (length ack) s.n) (search or_left));
      src-low = between-low 1 s.n src unit;
      src-high = between-high 1 s.n src unit;
      other = eqb-false src s.me d;
      own-ack = ltb-false s.seq (at ack s.me) e;
    }

-- ---- data

pub record Accepts (s : State) (p : Message) : Type 0 where
  pub comes : Comes s p.cid p.src p.ack
  pub its-ack : at p.ack p.src ≡ p.seq
  pub buf : p.buf ≤ places s
  -- it is the next of its sender, and its sender expected nothing that has not come here
  pub next : p.seq ≡ s.req p.src
  pub known : (k : ℕ) → 1 ≤ k → k ≤ s.n → k ≢ p.src → at p.ack k ≤ s.req k
  -- what its sender expects does not fall
  pub risen : (k : ℕ) → 1 ≤ k → k ≤ s.n → s.al k p.src ≤ at p.ack k
  pub room : full s p.src ≡ false

known_at : (s : State) (p : Message) → known s p ≡ true → (k : ℕ) → 1 ≤ k → k ≤ s.n → k ≢ p.src → at p.ack k ≤ s.req k
unfolding known
known_at s p h k a b d = go (eq? k p.src) (every-at 1 s.n (λ k. cond (eqb k p.src) true (leb (at p.ack k) (s.req k))) h k a (omega arith))
  where
    go : {t : Bool} → Eq? k p.src t → cond t true (leb (at p.ack k) (s.req k)) ≡ true → at p.ack k ≤ s.req k
    go (same e) x = absurd (d e)
    go (other e) x = leb-true (at p.ack k) (s.req k) x

pub passed-accepts : (s : State) (p : Message) → Passed (data_checks s p) → Accepts s p
unfolding data_checks
passed-accepts s p h =
    let all : every 1 s.n (λ k. leb (s.al k p.src) (at p.ack k)) ≡ true = not-false _ (search) in
    record {
      comes = passed-comes s p.cid p.src p.ack (search) (search) (search) (search) (search (or_left, or_right));
      its-ack = eqb-true (at p.ack p.src) p.seq (not-false (eqb (at p.ack p.src) p.seq) (search (or_left, or_right)));
      buf = ltb-false (places s) p.buf (search (or_left, or_right));
      next = omega (arith, ltb-false p.seq (s.req p.src) (search), ltb-false (s.req p.src) p.seq (search));
      known = known_at s p (not-false (known s p) (search));
      risen = λ k a b. leb-true (s.al k p.src) (at p.ack k) (every-at 1 s.n (λ k. leb (s.al k p.src) (at p.ack k)) all k a (omega arith));
      room = search;
    }

pub accepted-facts : (s : State) (p : Message) → (arrive_data s p).answer ≡ 0 → Accepts s p
unfolding data_checks
accepted-facts s p =
    data-cases s (λ r. r.answer ≡ 0 → Accepts s p) p (λ a r e. absurd (omega (arith, refused-above 0 r refl))) (λ h e. passed-accepts s p h)

-- so what it expects next of this unit is not below what is kept
pub accepts-low : (s : State) (p : Message) → Accepts s p → min_al s s.me ≤ at p.ack s.me
unfolding min_al
accepts-low s p f =
    let h = f.comes in
    let r = h.sound.ranges in
    omega (arith, least-le s.n (s.al s.me) p.src h.src-low h.src-high, f.risen s.me r.i-low r.i-high)
