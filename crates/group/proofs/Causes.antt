-- Causality, read off the logs, is what the precedence test says.
use mathlib.Core.Bool.{Bool, true, false≢true}
use mathlib.Core.Logic.{◌↔◌, ◌⊎◌, inl, inr}
use mathlib.Core.List.Memᴰ
use mathlib.Core.List.{List, [], ◌∷◌, ◌++◌, Memᴰ as Mem}
use mathlib.Core.Path.{◌≡◌, refl, sym, ap, subst, ◌∙◌}
use Prim.Native.Nat.{ℕ, ◌<◌}
use native.Mathlib.Omega.{arith}
use Rattle.rules.specs.Maps.{at}
use Rattle.rules.specs.Message.{Message}
use Rattle.rules.specs.State.{Place}
use Rattle.rules.specs.Steps.{precedes}
use Rattle.rules.proofs.MapsLaws.{Lt?, lt, ge}
use Rattle.group.specs.Runs.{Index, Did, sent, accepted, Group}
use Rattle.group.specs.Causality.{Ahead, about, sent_in, Cause, direct, chain}
use Rattle.group.specs.Demand.{Content, in_message, in_place}
use Rattle.group.proofs.All.{all-mem, pairs-left, pairs-ahead, ahead-front, ahead-back}
use Rattle.group.proofs.Order.{Precedes, Ordered, precedes?}
use Rattle.group.proofs.Course.{Course, ack_of}
use Rattle.group.proofs.Numbers.{Spoken, Closed}
use Rattle.group.proofs.Logs.{Of, Has, Log, tells-back, tells-forth}

-- what is sent is in the log
sent-mem : (m : Message) (l : List Did) → Mem m (sent_in l) → (f : List ℕ) × Mem (sent m f) l
sent-mem m [] h = elim h [ ]
sent-mem m (sent p f ∷ l) h = go (Memᴰ.append_cases (sent_in l) h) (λ x. sent-mem m l x)
  where
    go : Mem m (sent_in l) ⊎ Mem m (p ∷ []) → (Mem m (sent_in l) → (x : List ℕ) × Mem (sent m x) l) → (x : List ℕ) × Mem (sent m x) (sent p f ∷ l)
    go (inl x) i = let r = i x in (r.0, Mem.tail r.1)
    go (inr x) i = (f, Mem.head (ap (λ (y : Message). sent y f) (Memᴰ.eq_of_singleton x)))
sent-mem m (accepted p ∷ l) h = let r = sent-mem m l h in (r.0, Mem.tail r.1)

module _ {c : Course} {top : ℕ → ℕ} {R : ℕ → ℕ → ℕ} (H : Spoken c top) (C : Closed c top R) (g : Group)
    (logs : (i : ℕ) → Index c.n i → Log c top (R i) i (g.log i)) where
  log-of : (i : ℕ) → Index c.n i → (e : Did) → Mem e (g.log i) → Of c top (about e)
  log-of i inn e h = (all-mem (Has c top (R i)) e (g.log i) h (logs i inn).have).of

  -- p's number is below what q's sender then expected of p's
  record Before (p q : Message) : Type 0 where
    pub one : Of c top p
    pub two : Of c top q
    pub under : p.seq < ack_of q p.src

  ack-of : (q : Message) → Of c top q → (k : ℕ) → ack_of q k ≡ ack_of (c.msg q.src q.seq) k
  ack-of q o k = ap (λ (m : Message). ack_of m k) o.is

  before-trans : (p q r : Message) → Before p q → Before q r → Before p r
  before-trans p q r a b =
      record {
        one = a.one;
        two = b.two;
        under =
            omega (
              arith,
              a.under,
              ack-of q a.two p.src,
              ack-of r b.two p.src,
              C.chain r.src r.seq q.src q.seq p.src b.two.sent b.one.sent.index a.one.sent.index b.one.sent.low
                  (omega (arith, b.under, ack-of r b.two q.src)),
            );
      }

  cause-before : (p q : Message) → Cause c.n g p q → Before p q
  cause-before p q (direct p' q' f e k kn is a) =
      subst (λ (x : Message). Before x q') is
      (record {
        one = log-of k kn e (ahead-back (sent q' f) e (g.log k) a);
        two = log-of k kn (sent q' f) (ahead-front (sent q' f) e (g.log k) a);
        under = tells-back c k q' f e (g.log k) (logs k kn).tell a;
      })
  cause-before p q (chain p' q' r' a b) = before-trans p' q' r' (cause-before p' q' a) (cause-before q' r' b)

  before-cause : (p q : Message) → Of c top p → (k : ℕ) → Index c.n k → Mem q (sent_in (g.log k)) → p.seq < ack_of q p.src
      → Cause c.n g p q
  before-cause p q o k kn h below =
      let s = sent-mem q (g.log k) h in
      let r = tells-forth c k q s.0 (g.log k) (logs k kn).tell s.1 p.src p.seq o.sent.index o.sent.low below in
      direct p q s.0 r.0 k kn (r.1 ∙ sym o.is) r.2

  -- ---- of places that hold these messages

  module _ (p q : Place) (a b : Message) (pa : in_place p ≡ in_message a) (qb : in_place q ≡ in_message b) where
    seq-is : p.seq ≡ a.seq
    seq-is = ap (λ (x : Content). x.seq) pa

    ack-is : at q.ack p.src ≡ ack_of b a.src
    ack-is t = at (qb t).ack (pa t).src

    cause-precedes : Cause c.n g a b → Precedes p q
    cause-precedes h = omega (arith, seq-is, ack-is, (cause-before a b h).under)

    pub precedence : (j k : ℕ) → Index c.n j → Index c.n k → Mem a (sent_in (g.log j)) → Mem b (sent_in (g.log k))
        → (precedes p q ≡ true) ↔ Cause c.n g a b
    precedence j k jn kn ma mb = go (precedes? p q own)
      where
        of : (x : Message) (i : ℕ) → Index c.n i → Mem x (sent_in (g.log i)) → Of c top x
        of x i inn h = let r = sent-mem x (g.log i) h in log-of i inn (sent x r.0) r.1

        own : at q.ack q.src ≡ q.seq
        own =
            (λ t. at (qb t).ack (qb t).src)
            ∙ ack-of b (of b k kn mb) b.src
            ∙ H.own b.src b.seq (of b k kn mb).sent
            ∙ ap (λ (x : Content). x.seq) (sym qb)

        go : {t : Bool} → Lt? p.seq (at q.ack p.src) t → (t ≡ true) ↔ Cause c.n g a b
        go (lt h) = (λ e. before-cause a b (of a j jn ma) k kn mb (omega (arith, seq-is, ack-is)), λ x. refl)
        go (ge h) = (λ e. absurd (false≢true e), λ x. absurd (omega (arith, cause-precedes x)))

  -- none stands before one that causally precedes it
  pub ordered-causes : (l r : List Place) → Ordered (l ++ r) → (p q : Place) → Ahead p q l
      → (a b : Message) → in_place p ≡ in_message a → in_place q ≡ in_message b → ¬ (Cause c.n g b a)
  ordered-causes l r o p q h a b pa qb cause = pairs-ahead _ p q l h (pairs-left _ l r o) (cause-precedes q p b a qb pa cause)
