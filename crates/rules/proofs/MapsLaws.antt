-- Laws of the maps and tests of `Maps`.
use mathlib.Core.Bool.{Bool, true, false, cond, ◌&&◌, ◌||◌, true≢false, false≢true}
use mathlib.Core.Logic.{◌≢◌}
use mathlib.Core.List.{List, [], ◌∷◌, ◌++◌}
use mathlib.Core.Path.{◌≡◌, refl, sym, ap, subst, ◌∙◌}
use Prim.Native.Nat.{ℕ, zero, suc, ◌+◌, ◌≤◌, ◌<◌, min}
use native.Mathlib.Omega.{arith}
use native.Mathlib.Nat.{le_refl}
use lib.Dec.{eqb, leb, ltb}
use lib.ListN.{length, get_or}
use borrow.Author.Tests.{ltb-true, ltb-false, leb-true, eqb-true, eqb-false, le-leb}
use Rattle.rules.specs.Maps.{between, upd, all, column, units, at, listed, every, least}

-- ---- a test with what it says: match on these, and the test in the goal becomes true or false

pub data Lt? (a b : ℕ) : Bool → Type 0 where
  lt : a < b → Lt? a b true
  ge : b ≤ a → Lt? a b false

pub data Eq? (a b : ℕ) : Bool → Type 0 where
  same : a ≡ b → Eq? a b true
  other : a ≢ b → Eq? a b false

pub lt? : (a b : ℕ) → Lt? a b (ltb a b)
lt? a b = go (ltb a b) (ltb-true a b) (ltb-false a b)
  where
    go : (t : Bool) → (t ≡ true → a < b) → (t ≡ false → b ≤ a) → Lt? a b t
    go true f g = lt (f refl)
    go false f g = ge (g refl)

pub eq? : (a b : ℕ) → Eq? a b (eqb a b)
eq? a b = go (eqb a b) (eqb-true a b) (eqb-false a b)
  where
    go : (t : Bool) → (t ≡ true → a ≡ b) → (t ≡ false → a ≢ b) → Eq? a b t
    go true f g = same (f refl)
    go false f g = other (g refl)

-- ---- conjunctions and disjunctions

pub and_left : (a b : Bool) → a && b ≡ true → a ≡ true
and_left true b h = refl
and_left false b h = h

pub and_right : (a b : Bool) → a && b ≡ true → b ≡ true
and_right true b h = h
and_right false b h = absurd (false≢true h)

pub and_both : (a b : Bool) → a && b ≡ true → (a ≡ true) × (b ≡ true)
and_both a b h = (and_left a b h, and_right a b h)

pub and_intro : (a b : Bool) → a ≡ true → b ≡ true → a && b ≡ true
and_intro true b p q = q
and_intro false b p q = p

pub or_left : (a b : Bool) → a || b ≡ false → a ≡ false
or_left true b h = h
or_left false b h = refl

pub or_right : (a b : Bool) → a || b ≡ false → b ≡ false
or_right true b h = absurd (true≢false h)
or_right false b h = h

-- two tests that hold together
pub same_test : (x y : Bool) → (x ≡ true → y ≡ true) → (y ≡ true → x ≡ true) → x ≡ y
same_test true y f g = sym (f refl)
same_test false true f g = g refl
same_test false false f g = refl

pub not-true : (t : Bool) → (t ≡ true → ⊥) → t ≡ false
not-true true h = absurd (h refl)
not-true false h = refl

-- ---- between

pub between-low : (a b x : ℕ) → between a b x ≡ true → a ≤ x
unfolding between
between-low a b x h = leb-true a x (and_left (leb a x) (leb x b) h)

pub between-high : (a b x : ℕ) → between a b x ≡ true → x ≤ b
unfolding between
between-high a b x h = leb-true x b (and_right (leb a x) (leb x b) h)

pub is-between : (a b x : ℕ) → a ≤ x → x ≤ b → between a b x ≡ true
unfolding between
is-between a b x p q = and_intro (leb a x) (leb x b) (le-leb a x p) (le-leb x b q)

-- ---- upd

module _ {A : Type 0} (f : ℕ → A) (j : ℕ) (v : A) where
  -- what holds of v at j and of f elsewhere holds of the changed map
  pub upd-all : (P : ℕ → A → Type 0) → P j v → ((k : ℕ) → k ≢ j → P k (f k)) → (k : ℕ) → P k (upd f j v k)
  unfolding upd
  upd-all P h o k = go (eq? k j)
    where
      go : {t : Bool} → Eq? k j t → P k (cond t v (f k))
      go (same e) = subst (λ x. P x v) (sym e) h
      go (other x) = o k x

  pub upd_same : upd f j v j ≡ v
  upd_same = upd-all (λ k x. k ≡ j → x ≡ v) (λ e. refl) (λ k d e. absurd (d e)) j refl

  pub upd_other : (k : ℕ) → k ≢ j → upd f j v k ≡ f k
  upd_other = upd-all (λ k x. k ≢ j → x ≡ f k) (λ d. absurd (d refl)) (λ k d e. refl)

module _ (t : ℕ → ℕ → ℕ) (j : ℕ) (v : ℕ → ℕ) where
  -- the same of a column
  pub column-all : (P : ℕ → ℕ → ℕ → Type 0) → ((k : ℕ) → P k j (v k)) → ((k c : ℕ) → c ≢ j → P k c (t k c)) → (k c : ℕ) → P k c (column t j v k c)
  unfolding column
  column-all P h o k c = go (eq? c j)
    where
      go : {b : Bool} → Eq? c j b → P k c (cond b (v k) (t k c))
      go (same e) = subst (λ x. P k x (v k)) (sym e) (h k)
      go (other x) = o k c x

  pub column-same : (k : ℕ) → column t j v k j ≡ v k
  column-same k = column-all (λ k c x. c ≡ j → x ≡ v k) (λ k e. refl) (λ k c d e. absurd (d e)) k j refl

-- ---- units

pub units_in : (n : ℕ) (f : ℕ → ℕ) (k : ℕ) → 1 ≤ k → k ≤ n → units n f k ≡ f k
unfolding units
units_in n f k a b = rw (is-between 1 n k a b)

-- ---- least

pub least-le : (n : ℕ) (f : ℕ → ℕ) (k : ℕ) → 1 ≤ k → k ≤ n → least n f ≤ f k
least-le zero f k a b = omega arith
least-le (suc m) f k a b = go (λ h. least-le m f k a h) (lt? m k)
  where
    go : (k ≤ m → least m f ≤ f k) → {t : Bool} → Lt? m k t → min (least m f) (f (suc m)) ≤ f k
    go ih (lt h) =
        let e : k ≡ suc m = omega arith in
        subst (λ x. min (least m f) (f (suc m)) ≤ f x) (sym e) (omega arith)
    go ih (ge h) = omega (arith, ih h)

pub least-glb : (n : ℕ) (f : ℕ → ℕ) (v : ℕ) → 1 ≤ n → ((k : ℕ) → 1 ≤ k → k ≤ n → v ≤ f k) → v ≤ least n f
least-glb n f v one h = go n (le_refl n)
  where
    go : (m : ℕ) → m ≤ n → v ≤ least m f
    go zero b = h 1 (omega arith) one
    go (suc m) b = omega (arith, go m (omega arith), h (suc m) (omega arith) b)

pub least-mono : (n : ℕ) (f g : ℕ → ℕ) → 1 ≤ n → ((k : ℕ) → 1 ≤ k → k ≤ n → f k ≤ g k) → least n f ≤ least n g
least-mono n f g one h = least-glb n g (least n f) one (λ k a b. omega (arith, least-le n f k a b, h k a b))

-- ---- every, listed

pub every-at : (a m : ℕ) (p : ℕ → Bool) → every a m p ≡ true → (k : ℕ) → a ≤ k → k < a + m → p k ≡ true
every-at a zero p h k x y = absurd (omega arith)
every-at a (suc m) p h k x y = go (λ z. every-at (suc a) m p (and_right (p a) (every (suc a) m p) h) k z (omega arith)) (eq? a k)
  where
    go : (suc a ≤ k → p k ≡ true) → {t : Bool} → Eq? a k t → p k ≡ true
    go ih (same e) = subst (λ i. p i ≡ true) e (and_left (p a) (every (suc a) m p) h)
    go ih (other d) = ih (omega arith)

pub every-intro : (a m : ℕ) (p : ℕ → Bool) → ((k : ℕ) → a ≤ k → k < a + m → p k ≡ true) → every a m p ≡ true
every-intro a zero p h = refl
every-intro a (suc m) p h =
    and_intro (p a) (every (suc a) m p) (h a (le_refl a) (omega arith)) (every-intro (suc a) m p (λ k x y. h k (omega arith) (omega arith)))

pub length-listed : (a m : ℕ) (f : ℕ → ℕ) → length (listed a m f) ≡ m
length-listed a zero f = refl
length-listed a (suc m) f = ap suc (length-listed (suc a) m f)

pub get_or-listed : (a m : ℕ) (f : ℕ → ℕ) (i : ℕ) → i < m → get_or (listed a m f) i 0 ≡ f (a + i)
get_or-listed a zero f i h = absurd (omega arith)
get_or-listed a (suc m) f zero h = ap f (let e : a ≡ a + 0 = omega arith in e)
get_or-listed a (suc m) f (suc i) h = get_or-listed (suc a) m f i (omega arith) ∙ ap f (let e : suc a + i ≡ a + suc i = omega arith in e)

pub at_listed : (m : ℕ) (f : ℕ → ℕ) (k : ℕ) → 1 ≤ k → k ≤ m → at (listed 1 m f) k ≡ f k
at_listed m f zero a b = absurd (omega arith)
at_listed m f (suc k) a b = get_or-listed 1 m f k (omega arith) ∙ ap f (let e : 1 + k ≡ suc k = omega arith in e)

-- ---- all

module _ {A : Type 0} (p : A → Bool) where
  pub all_append : (l r : List A) → all p (l ++ r) ≡ all p l && all p r
  all_append [] r = refl
  all_append (x ∷ l) r = go (p x) (all_append l r)
    where
      go : (t : Bool) → all p (l ++ r) ≡ all p l && all p r → t && all p (l ++ r) ≡ t && all p l && all p r
      go true e = e
      go false e = refl
