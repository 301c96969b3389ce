-- Settling by principles: what each pre-acknowledgement and each confirmation keeps, the loops keep.
use mathlib.Core.Bool.{Bool, true, false, cond}
use mathlib.Core.Logic.{◌≢◌}
use mathlib.Core.List.{List, [], ◌∷◌, ◌++◌, tail, head-eq_of_cons-eq, cons≢nil}
use mathlib.Core.Path.{◌≡◌, refl, sym, ap, subst, ◌∙◌}
use Prim.Native.Nat.{ℕ, zero, suc, ◌≤◌, ◌<◌}
use native.Mathlib.Omega.{arith}
use lib.Dec.{eqb}
use Rattle.rules.specs.State.{Place, State, min_al, min_pal, from}
use Rattle.rules.specs.Steps.{without_oldest, with_lists, preacked, preack_while, preack_of, preack_to, moved, confirm_while, confirm}
use Rattle.rules.proofs.MapsLaws.{Lt?, lt, ge, lt?, Eq?, same, other, eq?}

-- ---- the messages of one sender

pub from-append : (k : ℕ) (l r : List Place) → from k (l ++ r) ≡ from k l ++ from k r
unfolding from
from-append k [] r = refl
from-append k (p ∷ l) r = go (eqb p.src k) (from-append k l r)
  where
    go : (t : Bool) → from k (l ++ r) ≡ from k l ++ from k r → cond t (p ∷ from k (l ++ r)) (from k (l ++ r)) ≡ cond t (p ∷ from k l) (from k l) ++ from k r
    go true e = ap (λ (z : List Place). p ∷ z) e
    go false e = e

pub from-same : (k : ℕ) (p : Place) (l : List Place) → p.src ≡ k → from k (p ∷ l) ≡ p ∷ from k l
unfolding from
from-same k p l e = go (eq? p.src k)
  where
    go : {t : Bool} → Eq? p.src k t → cond t (p ∷ from k l) (from k l) ≡ p ∷ from k l
    go (same q) = refl
    go (other d) = absurd (d e)

pub from-other : (k : ℕ) (p : Place) (l : List Place) → p.src ≢ k → from k (p ∷ l) ≡ from k l
unfolding from
from-other k p l d = go (eq? p.src k)
  where
    go : {t : Bool} → Eq? p.src k t → cond t (p ∷ from k l) (from k l) ≡ from k l
    go (same q) = absurd (d q)
    go (other x) = refl

-- the head of a sender's messages is the sender's
pub from-head : (k : ℕ) (l : List Place) (p : Place) (ps : List Place) → from k l ≡ p ∷ ps → p.src ≡ k
unfolding from
from-head k [] p ps e = absurd (cons≢nil (sym e))
from-head k (q ∷ l) p ps e = go (eq? q.src k) e (λ x. from-head k l p ps x)
  where
    go : {t : Bool} → Eq? q.src k t → cond t (q ∷ from k l) (from k l) ≡ p ∷ ps → (from k l ≡ p ∷ ps → p.src ≡ k) → p.src ≡ k
    go (same x) e ih = ap (λ (z : Place). z.src) (sym (head-eq_of_cons-eq e)) ∙ x
    go (other d) e ih = ih e

pub from-without_oldest : (k : ℕ) (l : List Place) → from k (without_oldest k l) ≡ tail (from k l)
unfolding from
from-without_oldest k [] = refl
from-without_oldest k (q ∷ l) = go (eq? q.src k) (from-without_oldest k l)
  where
    go : {t : Bool} → Eq? q.src k t → from k (without_oldest k l) ≡ tail (from k l) → from k (cond t l (q ∷ without_oldest k l)) ≡ tail (cond t (q ∷ from k l) (from k l))
    go (same e) ih = refl
    go (other d) ih = from-other k q (without_oldest k l) d ∙ ih

pub from-without_oldest-other : (j k : ℕ) (l : List Place) → j ≢ k → from k (without_oldest j l) ≡ from k l
unfolding from
from-without_oldest-other j k [] d = refl
from-without_oldest-other j k (q ∷ l) d = go (eq? q.src j) (from-without_oldest-other j k l d)
  where
    go : {t : Bool} → Eq? q.src j t → from k (without_oldest j l) ≡ from k l → from k (cond t l (q ∷ without_oldest j l)) ≡ from k (q ∷ l)
    go (same e) ih = sym (from-other k q l (λ x. d (sym e ∙ x)))
    go (other x) ih = ap (λ (z : List Place). cond (eqb q.src k) (q ∷ z) z) ih

-- ---- pre-acknowledge

-- no message of j is due any more
pub record Stopped (j : ℕ) (s : State) : Type 0 where
  pub late : (p : Place) (ps : List Place) → from j s.waiting ≡ p ∷ ps → min_al s j ≤ p.seq

-- p, the oldest of j that waits, is due, and ps wait behind it
pub record Due (j : ℕ) (s : State) (p : Place) (ps : List Place) : Type 0 where
  pub src : p.src ≡ j
  pub oldest : from j s.waiting ≡ p ∷ ps
  pub early : p.seq < min_al s j

module _ (j : ℕ) (P : State → Type 0) (step : (s : State) (p : Place) (ps : List Place) → P s → Due j s p ps → P (preacked s p)) where
  preack_while-all : (ps : List Place) (s : State) → from j s.waiting ≡ ps → P s → P (preack_while ps s) × Stopped j (preack_while ps s)
  unfolding preacked
  preack_while-all [] s e h = (h, record { late = λ p ps x. absurd (cons≢nil (sym x ∙ e)) })
  preack_while-all (p ∷ ps) s e h = go (lt? p.seq (min_al s p.src)) (λ x. preack_while-all ps (preacked s p) rest (step s p ps h (due x)))
    where
      src : p.src ≡ j
      src = from-head j s.waiting p ps e

      due : p.seq < min_al s p.src → Due j s p ps
      due x = record { src = src; oldest = e; early = subst (λ (k : ℕ). p.seq < min_al s k) src x }

      rest : from j (without_oldest p.src s.waiting) ≡ ps
      rest = subst (λ (k : ℕ). from j (without_oldest k s.waiting) ≡ ps) (sym src) (from-without_oldest j s.waiting ∙ ap tail e)

      late : min_al s p.src ≤ p.seq → (q : Place) (qs : List Place) → from j s.waiting ≡ q ∷ qs → min_al s j ≤ q.seq
      late x q qs y = subst (λ (z : Place). min_al s j ≤ z.seq) (head-eq_of_cons-eq (sym e ∙ y)) (subst (λ (k : ℕ). min_al s k ≤ p.seq) src x)

      Out : State → Type 0
      Out t = P t × Stopped j t

      go : {t : Bool} → Lt? p.seq (min_al s p.src) t → (p.seq < min_al s p.src → Out (preack_while ps (preacked s p))) → Out (cond t (preack_while ps (preacked s p)) s)
      go (lt x) f = f x
      go (ge x) f = (h, record { late = late x })

  pub preack_of-all : (s : State) → P s → P (preack_of j s) × Stopped j (preack_of j s)
  unfolding preack_of
  preack_of-all s h = preack_while-all (from j s.waiting) s refl h

-- what is due of j stays as it is where another sender's message is pre-acknowledged
stopped-kept : (k j : ℕ) (s : State) (p : Place) (ps : List Place) → k ≢ j → Stopped k s → Due j s p ps → Stopped k (preacked s p)
unfolding preacked min_al
stopped-kept k j s p ps d h due =
    record { late = λ q qs e. h.late q qs (sym (from-without_oldest-other p.src k s.waiting (λ x. d (sym x ∙ due.src))) ∙ e) }

module _ (P : State → Type 0) (step : (j : ℕ) (s : State) (p : Place) (ps : List Place) → P s → Due j s p ps → P (preacked s p)) where
  -- P holds, and nothing of the senders 1 to m is due
  abbrev Calm : ℕ → State → Type 0
  Calm m s = P s × ((j : ℕ) → 1 ≤ j → j ≤ m → Stopped j s)

  calm_more : (m : ℕ) (s : State) → Calm m s → Calm (suc m) (preack_of (suc m) s)
  calm_more m s h = (out.0.0, λ j a b. ends j a b (eq? j (suc m)))
    where
      out : Calm m (preack_of (suc m) s) × Stopped (suc m) (preack_of (suc m) s)
      out =
          preack_of-all (suc m) (Calm m)
          (λ t p ps b due. (step (suc m) t p ps b.0 due, λ j x y. stopped-kept j (suc m) t p ps (λ e. omega arith) (b.1 j x y) due)) s h

      ends : (j : ℕ) → 1 ≤ j → j ≤ suc m → {t : Bool} → Eq? j (suc m) t → Stopped j (preack_of (suc m) s)
      ends j a b (same e) = subst (λ (k : ℕ). Stopped k (preack_of (suc m) s)) (sym e) out.1
      ends j a b (other d) = out.0.1 j a (omega arith)

  pub preack_to-all : (m : ℕ) (s : State) → P s → Calm m (preack_to m s)
  preack_to-all zero s h = (h, λ j a b. absurd (omega arith))
  preack_to-all (suc m) s h = calm_more m (preack_to m s) (preack_to-all m s h)

-- ---- confirm

-- the head p of the ordered list is to be confirmed, and ps stand behind it
pub record Ready (s : State) (p : Place) (ps : List Place) : Type 0 where
  pub head : s.ordered ≡ p ∷ ps
  pub early : p.seq < min_pal s p.src

module _ (P : State → Type 0) (step : (s : State) (p : Place) (ps : List Place) → P s → Ready s p ps → P (moved s p)) where
  confirm_while-all : (ps : List Place) (s : State) → s.ordered ≡ ps → P s → P (confirm_while ps s)
  unfolding moved
  confirm_while-all [] s e h = h
  confirm_while-all (p ∷ ps) s e h = go (lt? p.seq (min_pal s p.src)) (λ x. confirm_while-all ps (moved s p) (ap tail e) (step s p ps h (record { head = e; early = x })))
    where
      go : {t : Bool} → Lt? p.seq (min_pal s p.src) t → (p.seq < min_pal s p.src → P (confirm_while ps (moved s p))) → P (cond t (confirm_while ps (moved s p)) s)
      go (lt x) f = f x
      go (ge x) f = h

  pub confirm-all : (s : State) → P s → P (confirm s)
  unfolding confirm
  confirm-all s h = confirm_while-all s.ordered s refl h

-- ---- settling

-- it changes PAL and the lists alone
pub settles-lists : (m : ℕ) (s : State)
    → let t = confirm (preack_to m s) in
    t ≡ with_lists s t.pal t.waiting t.ordered t.confirmed
unfolding preacked moved
settles-lists m s =
    confirm-all But (λ t p ps h r. ap (λ (u : State). moved u p) h) (preack_to m s)
    (preack_to-all But (λ j t p ps h r. ap (λ (u : State). preacked u p) h) m s refl).0
  where
    But : State → Type 0
    But t = t ≡ with_lists s t.pal t.waiting t.ordered t.confirmed
