-- The messages of one sender in a list: what holds of each, and lists whose numbers rise by one.
use mathlib.Core.Bool.{Bool, true, false, cond}
use mathlib.Core.List.{List, [], ◌∷◌, ◌++◌, Memᴰ as Mem}
use mathlib.Core.Path.{◌≡◌, refl, ap, subst}
use Prim.Native.Nat.{ℕ, suc, ◌+◌, ◌≤◌, ◌<◌}
use native.Mathlib.Omega.{arith}
use lib.Dec.{eqb}
use lib.ListN.{length}
use Rattle.rules.specs.State.{Place, from}
use Rattle.rules.specs.Steps.{without_oldest}
use Rattle.rules.proofs.MapsLaws.{Eq?, same, other, eq?}
use Rattle.group.specs.Causality.{Ahead, here, there}
use Rattle.group.proofs.All.{All, all_map, all-mem}

-- ---- what holds of each

module _ (P : Place → Type 0) (k : ℕ) where
  pub all_from : (l : List Place) → All P l → All P (from k l)
  unfolding from
  all_from [] h = tt
  all_from (p ∷ l) h = go (eqb p.src k) (all_from l h.1)
    where
      go : (t : Bool) → All P (from k l) → All P (cond t (p ∷ from k l) (from k l))
      go true i = (h.0, i)
      go false i = i

  pub from_all : (l : List Place) → All P (from k l) → All (λ p. p.src ≡ k → P p) l
  unfolding from
  from_all [] h = tt
  from_all (p ∷ l) h = go (eq? p.src k) h (λ r. from_all l r)
    where
      go : {t : Bool} → Eq? p.src k t → All P (cond t (p ∷ from k l) (from k l)) → (All P (from k l) → All (λ p. p.src ≡ k → P p) l)
          → All (λ p. p.src ≡ k → P p) (p ∷ l)
      go (same e) h i = (λ q. h.0, i h.1)
      go (other d) h i = (λ q. absurd (d q), i h)

  pub all-without_oldest : (l : List Place) → All P l → All P (without_oldest k l)
  all-without_oldest [] h = tt
  all-without_oldest (p ∷ l) h = go (eqb p.src k) (all-without_oldest l h.1)
    where
      go : (t : Bool) → All P (without_oldest k l) → All P (cond t l (p ∷ without_oldest k l))
      go true i = h.1
      go false i = (h.0, i)

pub all-src : (k : ℕ) (l : List Place) → All (λ p. p.src ≡ k) (from k l)
unfolding from
all-src k [] = tt
all-src k (p ∷ l) = go (eq? p.src k) (all-src k l)
  where
    go : {t : Bool} → Eq? p.src k t → All (λ p. p.src ≡ k) (from k l) → All (λ p. p.src ≡ k) (cond t (p ∷ from k l) (from k l))
    go (same e) i = (e, i)
    go (other d) i = i

-- ---- membership

mem-cond : {A : Type 0} (t : Bool) (q p : A) (m l : List A) → Mem q (cond t (p ∷ m) m) → (Mem q m → Mem q l) → Mem q (p ∷ l)
mem-cond true q p m l (Mem.head e) f = Mem.head e
mem-cond true q p m l (Mem.tail x) f = Mem.tail (f x)
mem-cond false q p m l x f = Mem.tail (f x)

pub mem-from : (q : Place) (k : ℕ) (l : List Place) → Mem q (from k l) → Mem q l
unfolding from
mem-from q k [] m = m
mem-from q k (p ∷ l) m = mem-cond (eqb p.src k) q p (from k l) l m (λ x. mem-from q k l x)

pub from-mem : (q : Place) (k : ℕ) (l : List Place) → q.src ≡ k → Mem q l → Mem q (from k l)
unfolding from
from-mem q k [] e m = elim m [ ]
from-mem q k (p ∷ l) e (Mem.head x) = go (eq? p.src k)
  where
    go : {t : Bool} → Eq? p.src k t → Mem q (cond t (p ∷ from k l) (from k l))
    go (same y) = Mem.head x
    go (other d) = absurd (d (subst (λ (z : Place). z.src ≡ k) x e))
from-mem q k (p ∷ l) e (Mem.tail x) = go (eqb p.src k) (from-mem q k l e x)
  where
    go : (t : Bool) → Mem q (from k l) → Mem q (cond t (p ∷ from k l) (from k l))
    go true i = Mem.tail i
    go false i = i

pub from-ahead : (p q : Place) (k : ℕ) (l : List Place) → p.src ≡ k → q.src ≡ k → Ahead p q l → Ahead p q (from k l)
unfolding from
from-ahead p q k [] a b x = elim x [ ]
from-ahead p q k (z ∷ l) a b (here e m) = go (eq? z.src k)
  where
    go : {t : Bool} → Eq? z.src k t → Ahead p q (cond t (z ∷ from k l) (from k l))
    go (same y) = here e (from-mem q k l b m)
    go (other d) = absurd (d (subst (λ (x : Place). x.src ≡ k) e a))
from-ahead p q k (z ∷ l) a b (there h) = go (eqb z.src k) (from-ahead p q k l a b h)
  where
    go : (t : Bool) → Ahead p q (from k l) → Ahead p q (cond t (z ∷ from k l) (from k l))
    go true i = there i
    go false i = i

-- ---- the numbers of the list are a, a + 1, .. up to but not including b

abbrev pub Upward : ℕ → List Place → ℕ → Type 0
Upward a [] b = a ≡ b
Upward a (p ∷ l) b = (p.seq ≡ a) × Upward (suc a) l b

pub upward-length : (a : ℕ) (l : List Place) (b : ℕ) → Upward a l b → a + length l ≡ b
upward-length a [] b h = omega arith
upward-length a (p ∷ l) b h = let e : suc a + length l ≡ b = upward-length (suc a) l b h.1 in omega arith

pub upward-snoc : (a : ℕ) (l : List Place) (b : ℕ) (p : Place) → Upward a l b → p.seq ≡ b → Upward a (l ++ (p ∷ [])) (suc b)
upward-snoc a [] b p h e = omega arith
upward-snoc a (q ∷ l) b p h e = (h.0, upward-snoc (suc a) l b p h.1 e)

pub upward-left : (a : ℕ) (l r : List Place) (b : ℕ) → Upward a (l ++ r) b → Upward a l (a + length l)
upward-left a [] r b h = omega arith
upward-left a (p ∷ l) r b h =
    (h.0, subst (Upward (suc a) l) (let e : suc a + length l ≡ a + length (p ∷ l) = omega arith in e) (upward-left (suc a) l r b h.1))

pub upward-below : (a : ℕ) (l : List Place) (b : ℕ) → Upward a l b → All (λ p. (a ≤ p.seq) × (p.seq < b)) l
upward-below a [] b h = tt
upward-below a (p ∷ l) b h =
    let e : suc a + length l ≡ b = upward-length (suc a) l b h.1 in (
      (omega arith, omega arith),
      all_map (λ q (x : (suc a ≤ q.seq) × (q.seq < b)). omega arith) l (upward-below (suc a) l b h.1),
    )

pub upward-ahead : (a : ℕ) (l : List Place) (b : ℕ) (p q : Place) → Upward a l b → Ahead p q l → p.seq < q.seq
upward-ahead a [] b p q h x = elim x [ ]
upward-ahead a (z ∷ l) b p q h (here e m) =
    omega (arith, ap (λ (x : Place). x.seq) e, h.0, all-mem (λ x. (suc a ≤ x.seq) × (x.seq < b)) q l m (upward-below (suc a) l b h.1))
upward-ahead a (z ∷ l) b p q h (there x) = upward-ahead (suc a) l b p q h.1 x

-- each number is there
pub upward-find : (a : ℕ) (l : List Place) (b x : ℕ) → Upward a l b → a ≤ x → x < b → (p : Place) × (p.seq ≡ x) × Mem p l
upward-find a [] b x h low high = absurd (omega arith)
upward-find a (p ∷ l) b x h low high = go (eq? a x) (λ y. upward-find (suc a) l b x h.1 y high)
  where
    Found : List Place → Type 0
    Found l = (q : Place) × (q.seq ≡ x) × Mem q l

    go : {t : Bool} → Eq? a x t → (suc a ≤ x → Found l) → Found (p ∷ l)
    go (same e) f = (p, omega (arith, h.0), Mem.head refl)
    go (other d) f = let r = f (omega arith) in (r.0, r.1, Mem.tail r.2)
