-- Insertion before the first successor keeps the order, and each sender's own order.
use mathlib.Core.Bool.{Bool, true, false, cond}
use mathlib.Core.Logic.{◌≢◌}
use mathlib.Core.List.{List, [], ◌∷◌, ◌++◌, append_assoc}
use mathlib.Core.Path.{◌≡◌, refl, sym, ap, subst, ◌∙◌}
use Prim.Native.Nat.{ℕ, ◌≤◌, ◌<◌}
use native.Mathlib.Omega.{arith}
use lib.Dec.{eqb, ltb}
use Rattle.rules.specs.Maps.{at}
use Rattle.rules.specs.State.{Place, from}
use Rattle.rules.specs.Steps.{precedes, insert}
use Rattle.rules.proofs.MapsLaws.{Lt?, lt, ge, lt?, Eq?, same, other, eq?}
use Rattle.rules.proofs.StepsLaws.{from-append, from-same, from-other}
use Rattle.group.proofs.All.{All, all_both, all_append, all_left, all_right, Pairs, pairs-right}

-- what the test says of messages of a run: p's number is below what q's sender expected of p's
abbrev pub Precedes : Place → Place → Type 0
Precedes p q = p.seq < at q.ack p.src

-- none stands before one that precedes it
abbrev pub Ordered : List Place → Type 0
Ordered = Pairs (λ x y. ¬ (Precedes y x))

pub precedes? : (p q : Place) → at q.ack q.src ≡ q.seq → Lt? p.seq (at q.ack p.src) (precedes p q)
unfolding precedes
precedes? p q own = go (eq? p.src q.src)
  where
    go : {t : Bool} → Eq? p.src q.src t → Lt? p.seq (at q.ack p.src) (cond t (ltb p.seq q.seq) (ltb p.seq (at q.ack p.src)))
    go (same e) = subst (λ x. Lt? p.seq x (ltb p.seq q.seq)) (sym (ap (at q.ack) e ∙ own)) (lt? p.seq q.seq)
    go (other d) = lt? p.seq (at q.ack p.src)

pub all_insert : (P : Place → Type 0) (p : Place) (l : List Place) → P p → All P l → All P (insert p l)
all_insert P p [] a h = (a, tt)
all_insert P p (q ∷ l) a h = go (precedes p q) (all_insert P p l a h.1)
  where
    go : (t : Bool) → All P (insert p l) → All P (cond t (p ∷ q ∷ l) (q ∷ insert p l))
    go true i = (a, h)
    go false i = (h.0, i)

-- where p precedes q, none of its sender's older messages stands behind q
from-behind : (p q : Place) (l : List Place) → Precedes p q → All (λ x. ¬ (Precedes x q)) l → All (λ x. x.src ≡ p.src → x.seq < p.seq) l
    → from p.src l ≡ []
unfolding from
from-behind p q [] h o f = refl
from-behind p q (x ∷ l) h o f = go (eq? x.src p.src) (from-behind p q l h o.1 f.1)
  where
    go : {t : Bool} → Eq? x.src p.src t → from p.src l ≡ [] → cond t (x ∷ from p.src l) (from p.src l) ≡ []
    go (same e) i = absurd (o.0 (subst (λ k. x.seq < at q.ack k) (sym e) (omega (arith, f.0 e))))
    go (other d) i = i

-- The messages of a run: each expects itself, and each that p precedes says no less than p.
pub record Coherent (M : Place → Type 0) : Type 0 where
  pub own : (p : Place) → M p → at p.ack p.src ≡ p.seq
  pub chain : (p q r : Place) → M p → M q → M r → Precedes p q → at p.ack r.src ≤ at q.ack r.src

module _ {M : Place → Type 0} (K : Coherent M) where
  precedes-trans : (p q r : Place) → M p → M q → M r → Precedes p q → Precedes q r → Precedes p r
  precedes-trans p q r mp mq mr a b = omega (arith, K.chain q r p mq mr mp b)

  ordered-insert : (p : Place) (l : List Place) → M p → All M l → Ordered l → Ordered (insert p l)
  ordered-insert p [] mp ml o = (tt, tt)
  ordered-insert p (q ∷ l) mp ml o = go (precedes? p q (K.own q ml.0)) (ordered-insert p l mp ml.1 o.1)
    where
      go : {t : Bool} → Lt? p.seq (at q.ack p.src) t → Ordered (insert p l) → Ordered (cond t (p ∷ q ∷ l) (q ∷ insert p l))
      go (lt h) i = (
        (
          λ (x : Precedes q p). omega (arith, precedes-trans q p q ml.0 mp ml.0 x h, K.own q ml.0),
          all_both (λ y my not (x : Precedes y p). not (precedes-trans y p q my mp ml.0 x h)) l ml.1 o.0,
        ),
        o,
      )
      go (ge h) i = (all_insert (λ y. ¬ (Precedes y q)) p l (λ (x : Precedes p q). omega arith) o.0, i)

  -- c stands before the list, and p precedes none of it
  pub ordered-append-insert : (p : Place) (c l : List Place) → M p → All M (c ++ l) → Ordered (c ++ l) → All (λ x. ¬ (Precedes p x)) c → Ordered (c ++ insert p l)
  ordered-append-insert p [] l mp ml o h = ordered-insert p l mp ml o
  ordered-append-insert p (x ∷ c) l mp ml o h = (
    all_append Not c (insert p l) (all_left Not c l o.0) (all_insert Not p l h.0 (all_right Not c l o.0)),
    ordered-append-insert p c l mp ml.1 o.1 h.1,
  )
    where
      Not : Place → Type 0
      Not y = ¬ (Precedes y x)

  -- ---- the messages of each sender

  -- a message newer than all of its sender's goes behind them
  from-insert : (p : Place) (l : List Place) → M p → All M l → Ordered l → All (λ x. x.src ≡ p.src → x.seq < p.seq) l
      → from p.src (insert p l) ≡ from p.src l ++ (p ∷ [])
  unfolding from
  from-insert p [] mp ml o f = from-same p.src p [] refl
  from-insert p (q ∷ l) mp ml o f = go (precedes? p q (K.own q ml.0)) (from-insert p l mp ml.1 o.1 f.1)
    where
      put : (t : Bool) (x y : List Place) → x ≡ y ++ (p ∷ []) → cond t (q ∷ x) x ≡ cond t (q ∷ y) y ++ (p ∷ [])
      put true x y e = ap (λ (z : List Place). q ∷ z) e
      put false x y e = e

      go : {t : Bool} → Lt? p.seq (at q.ack p.src) t → from p.src (insert p l) ≡ from p.src l ++ (p ∷ [])
          → from p.src (cond t (p ∷ q ∷ l) (q ∷ insert p l)) ≡ from p.src (q ∷ l) ++ (p ∷ [])
      go (lt h) i =
          let e = from-behind p q (q ∷ l) h (λ (x : Precedes q q). omega (arith, K.own q ml.0), o.0) f in
          from-same p.src p (q ∷ l) refl ∙ ap (λ (z : List Place). p ∷ z) e ∙ ap (λ (z : List Place). z ++ (p ∷ [])) (sym e)
      go (ge h) i = put (eqb q.src p.src) (from p.src (insert p l)) (from p.src l) i

  pub from-append-insert : (p : Place) (c l : List Place) → M p → All M (c ++ l) → Ordered (c ++ l) → All (λ x. x.src ≡ p.src → x.seq < p.seq) (c ++ l)
      → from p.src (c ++ insert p l) ≡ from p.src (c ++ l) ++ (p ∷ [])
  from-append-insert p c l mp ml o f =
      from-append p.src c (insert p l)
      ∙ ap (λ (z : List Place). from p.src c ++ z) (from-insert p l mp (all_right M c l ml) (pairs-right _ c l o) (all_right _ c l f))
      ∙ sym (append_assoc (from p.src c) (from p.src l) (p ∷ []))
      ∙ ap (λ (z : List Place). z ++ (p ∷ [])) (sym (from-append p.src c l))

from-insert-other : (k : ℕ) (p : Place) (l : List Place) → p.src ≢ k → from k (insert p l) ≡ from k l
unfolding from
from-insert-other k p [] d = from-other k p [] d
from-insert-other k p (q ∷ l) d = go (precedes p q) (from-insert-other k p l d)
  where
    go : (t : Bool) → from k (insert p l) ≡ from k l → from k (cond t (p ∷ q ∷ l) (q ∷ insert p l)) ≡ from k (q ∷ l)
    go true i = from-other k p (q ∷ l) d
    go false i = ap (λ (z : List Place). cond (eqb q.src k) (q ∷ z) z) i

pub from-append-insert-other : (k : ℕ) (p : Place) (c l : List Place) → p.src ≢ k → from k (c ++ insert p l) ≡ from k (c ++ l)
from-append-insert-other k p c l d =
    from-append k c (insert p l) ∙ ap (λ (z : List Place). from k c ++ z) (from-insert-other k p l d) ∙ sym (from-append k c l)
