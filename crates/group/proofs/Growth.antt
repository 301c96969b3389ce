-- The numbers of a group when one message more is written, and when one more is accepted.
use mathlib.Core.Bool.{Bool}
use mathlib.Core.Logic.{◌≢◌}
use mathlib.Core.Path.{◌≡◌, sym, subst, ◌∙◌}
use Prim.Native.Nat.{ℕ, suc, ◌≤◌, ◌<◌}
use native.Mathlib.Omega.{arith}
use native.Mathlib.Nat.{le_refl, le_trans}
use Rattle.rules.specs.Maps.{upd}
use Rattle.rules.proofs.MapsLaws.{Lt?, lt, ge, lt?, Eq?, same, other, eq?, upd-all, upd_same, upd_other}
use Rattle.group.specs.Runs.{Index}
use Rattle.group.proofs.Course.{Course, Sent, ack_of}
use Rattle.group.proofs.Numbers.{Numbers, Spoken, Closed}

-- ---- one message more is written: top grows by one at i

unfoldable pub bumped : (ℕ → ℕ) → ℕ → ℕ → ℕ
bumped f i = upd f i (suc (f i))

module _ (f : ℕ → ℕ) (i : ℕ) where
  pub bumped-up : (k : ℕ) → f k ≤ bumped f i k
  unfolding bumped
  bumped-up = upd-all f i (suc (f i)) (λ k v. f k ≤ v) (omega arith) (λ k d. le_refl _)

  pub bumped-same : bumped f i i ≡ suc (f i)
  unfolding bumped
  bumped-same = upd_same f i (suc (f i))

  pub bumped-other : (k : ℕ) → k ≢ i → bumped f i k ≡ f k
  unfolding bumped
  bumped-other = upd_other f i (suc (f i))

  -- what holds of each number below f, and of the new one, holds of each below the new f
  pub bumped-all : (P : ℕ → ℕ → Type 0) → P i (f i) → ((k x : ℕ) → x < f k → P k x) → (k x : ℕ) → x < bumped f i k → P k x
  unfolding bumped
  bumped-all P new old =
      upd-all f i (suc (f i)) (λ k v. (x : ℕ) → x < v → P k x) (λ x h. at_last x h (eq? x (f i))) (λ k d. old k)
    where
      at_last : (x : ℕ) → x < suc (f i) → {t : Bool} → Eq? x (f i) t → P i x
      at_last x h (same e) = subst (λ y. P i y) (sym e) new
      at_last x h (other d) = old i x (omega arith)

pub sent-bumped : {c : Course} {top : ℕ → ℕ} (i : ℕ) {j s : ℕ} → Sent c top j s → Sent c (bumped top i) j s
sent-bumped {top = top} i {j = j} h = record { index = h.index; low = h.low; high = le_trans h.high (bumped-up top i j) }

-- the message that i writes next says what i expects
pub record Fresh (c : Course) (top : ℕ → ℕ) (R : ℕ → ℕ → ℕ) (i : ℕ) : Type 0 where
  pub index : Index c.n i
  pub src : (c.msg i (top i)).src ≡ i
  pub seq : (c.msg i (top i)).seq ≡ top i
  pub ack : (k : ℕ) → Index c.n k → ack_of (c.msg i (top i)) k ≡ R i k
  pub own : R i i ≡ top i

module _ {c : Course} {top : ℕ → ℕ} {R : ℕ → ℕ → ℕ} {i : ℕ} (N : Fresh c top R i) where
  -- what holds of each message sent before, and of the new one, holds of each sent now
  pub written_all : (P : ℕ → ℕ → Type 0) → P i (top i) → ((j s : ℕ) → Sent c top j s → P j s) → (j s : ℕ) → Sent c (bumped top i) j s → P j s
  written_all P new old j s h =
      bumped-all top i (λ j s. Index c.n j → c.first j ≤ s → P j s) (λ x y. new)
      (λ j s b x y. old j s (record { index = x; low = y; high = b })) j s h.high h.index h.low

  module _ (I : Numbers c top R) where
    pub numbers-written : Numbers c (bumped top i) R
    numbers-written =
        record {
          low = I.low;
          high = λ l k ln kn. le_trans (I.high l k ln kn) (bumped-up top i k);
          past = λ j s k h kn.
              written_all (λ j s. ack_of (c.msg j s) k ≤ R j k) (omega (arith, N.ack k kn)) (λ j s b. I.past j s k b kn) j s h;
        }

    pub spoken-written : Spoken c top → Spoken c (bumped top i)
    spoken-written H =
        record {
          src = written_all (λ j s. (c.msg j s).src ≡ j) N.src H.src;
          seq = written_all (λ j s. (c.msg j s).seq ≡ s) N.seq H.seq;
          own = written_all (λ j s. ack_of (c.msg j s) j ≡ s) (N.ack i N.index ∙ N.own) H.own;
          floor = λ j s k h kn.
              written_all (λ j s. c.first k ≤ ack_of (c.msg j s) k) (omega (arith, N.ack k kn, I.low i k N.index kn))
              (λ j s b. H.floor j s k b kn) j s h;
          mono = λ j s t k a b st kn.
              written_all (λ j t. Sent c (bumped top i) j s → s ≤ t → ack_of (c.msg j s) k ≤ ack_of (c.msg j t) k)
              (λ a st. omega (arith, N.ack k kn, numbers-written.past i s k a kn))
              (λ j t b a st. H.mono j s t k (record { index = a.index; low = a.low; high = omega (arith, b.high) }) b st kn)
              j t b a st;
        }

  pub closed-written : Closed c top R → Closed c (bumped top i) R
  closed-written C =
      record {
        close = C.close;
        chain = λ l t j s k a jn kn low x.
            written_all (λ l t. s < ack_of (c.msg l t) j → ack_of (c.msg j s) k ≤ ack_of (c.msg l t) k)
            (λ y. omega (arith, N.ack k kn, C.close i j s k N.index jn kn low (omega (arith, N.ack j jn))))
            (λ l t b y. C.chain l t j s k b jn kn low y) l t a x;
      }

-- ---- one acceptance: R grows by one at i and j

unfoldable pub grown : (ℕ → ℕ → ℕ) → ℕ → ℕ → ℕ → ℕ → ℕ
grown R i j = upd R i (bumped (R i) j)

module _ (R : ℕ → ℕ → ℕ) (i j : ℕ) where
  pub grown-up : (l k : ℕ) → R l k ≤ grown R i j l k
  unfolding grown
  grown-up l k = upd-all R i (bumped (R i) j) (λ l f. R l k ≤ f k) (bumped-up (R i) j k) (λ l d. le_refl _) l

  pub grown-same : grown R i j i ≡ bumped (R i) j
  unfolding grown
  grown-same = upd_same R i (bumped (R i) j)

  pub grown-other : (l : ℕ) → l ≢ i → grown R i j l ≡ R l
  unfolding grown
  grown-other = upd_other R i (bumped (R i) j)

  grown-all : (P : ℕ → ℕ → ℕ → Type 0) → P i j (R i j) → ((l k x : ℕ) → x < R l k → P l k x) → (l k x : ℕ) → x < grown R i j l k → P l k x
  unfolding grown
  grown-all P new old =
      upd-all R i (bumped (R i) j) (λ l f. (k x : ℕ) → x < f k → P l k x) (bumped-all (R i) j (P i) new (old i)) (λ l d. old l)

-- i may accept the next message of j
pub record Next (c : Course) (top : ℕ → ℕ) (R : ℕ → ℕ → ℕ) (i j : ℕ) : Type 0 where
  pub index : Index c.n i
  pub sent : Sent c top j (R i j)
  pub known : (k : ℕ) → Index c.n k → k ≢ j → ack_of (c.msg j (R i j)) k ≤ R i k

module _ {c : Course} {top : ℕ → ℕ} {R : ℕ → ℕ → ℕ} {i j : ℕ} (A : Next c top R i j) where
  pub numbers-accepted : Numbers c top R → Numbers c top (grown R i j)
  numbers-accepted I =
      record {
        low = λ l k ln kn. le_trans (I.low l k ln kn) (grown-up R i j l k);
        high = λ l k ln kn. below l k ln kn (lt? (top k) (grown R i j l k));
        past = λ l t k h kn. le_trans (I.past l t k h kn) (grown-up R i j l k);
      }
    where
      sooner : (l k x : ℕ) → x < grown R i j l k → Index c.n l → Index c.n k → x < top k
      sooner =
          grown-all R i j (λ l k x. Index c.n l → Index c.n k → x < top k) (λ a b. A.sent.high)
          (λ l k x b p q. omega (arith, I.high l k p q))

      below : (l k : ℕ) → Index c.n l → Index c.n k → {t : Bool} → Lt? (top k) (grown R i j l k) t → grown R i j l k ≤ top k
      below l k ln kn (lt h) = absurd (omega (arith, sooner l k (top k) h ln kn))
      below l k ln kn (ge h) = h

  -- here the second condition of acceptance is used, and nowhere else
  pub closed-accepted : Spoken c top → Closed c top R → Closed c top (grown R i j)
  closed-accepted H C =
      record {
        close = λ l k s x ln kn xn low h.
            grown-all R i j (λ l k s. Index c.n l → Index c.n k → c.first k ≤ s → ack_of (c.msg k s) x ≤ grown R i j l x)
            (λ p q a. new x xn (eq? x j))
            (λ l k s b p q a. le_trans (C.close l k s x p q xn a b) (grown-up R i j l x))
            l k s h ln kn low;
        chain = C.chain;
      }
    where
      new : (x : ℕ) → Index c.n x → {t : Bool} → Eq? x j t → ack_of (c.msg j (R i j)) x ≤ grown R i j i x
      new x xn (same e) =
          subst (λ y. ack_of (c.msg j (R i j)) y ≤ grown R i j i y) (sym e)
          (omega (arith, H.own j (R i j) A.sent, grown-up R i j i j))
      new x xn (other d) = le_trans (A.known x xn d) (grown-up R i j i x)
