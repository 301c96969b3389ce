-- Counting over the places of a list, which is blind to where in the list a place stands.
use mathlib.Core.Bool.{Bool, true, false, cond, not, ◌&&◌, not-not}
use mathlib.Core.List.{List, [], ◌∷◌, ◌++◌, tail, nil≢cons, head-eq_of_cons-eq, Memᴰ}
use mathlib.Core.Path.{◌≡◌, refl, sym, ap, subst, ◌∙◌, fun_ext}
use Prim.Native.Nat.{ℕ, ◌+◌, ◌≤◌}
use native.Mathlib.Omega.{arith}
use lib.Dec.{eqb}
use borrow.Author.Tests.{eqb-true, eq-eqb, ne_eqb}
use Rattle.rules.specs.Maps.{all}
use Rattle.rules.specs.State.{Place, State, taken, from}
use Rattle.rules.specs.Message.{Message}
use Rattle.rules.specs.Steps.{placed, stored, insert, without_oldest, preacked, moved, without_taken}
use Rattle.rules.specs.Sound.{same_place, once}
use Rattle.rules.proofs.MapsLaws.{Eq?, same, other, eq?, and_left, and_right, and_intro}
use Rattle.rules.proofs.InsertLaws.{inserted}
use Rattle.rules.proofs.StepsLaws.{Due, Ready}

-- ---- members of a list

module _ {A : Type 0} (t : A → Bool) where
  pub all-mem : {x : A} {l : List A} → all t l ≡ true → Memᴰ x l → t x ≡ true
  all-mem h (Memᴰ.head {x = y} {xs = l} e) = subst (λ z. t z ≡ true) (sym e) (and_left (t y) (all t l) h)
  all-mem h (Memᴰ.tail {x = y} {xs = l} m) = all-mem (and_right (t y) (all t l) h) m

  pub mem-all : (l : List A) → ((x : A) → Memᴰ x l → t x ≡ true) → all t l ≡ true
  mem-all [] h = refl
  mem-all (x ∷ l) h = and_intro (t x) (all t l) (h x (Memᴰ.head refl)) (mem-all l (λ y m. h y (Memᴰ.tail m)))

-- the oldest of a sender stands in the list
pub from-mem : (j : ℕ) (l : List Place) (p : Place) (ps : List Place) → from j l ≡ p ∷ ps → Memᴰ p l
unfolding from
from-mem j [] p ps e = absurd (nil≢cons e)
from-mem j (q ∷ l) p ps e = go (eqb q.src j) e (λ x. from-mem j l p ps x)
  where
    go : (t : Bool) → cond t (q ∷ from j l) (from j l) ≡ p ∷ ps → (from j l ≡ p ∷ ps → Memᴰ p l) → Memᴰ p (q ∷ l)
    go true e ih = Memᴰ.head (sym (head-eq_of_cons-eq e))
    go false e ih = Memᴰ.tail (ih e)

abbrev pub bit : Bool → ℕ
bit true = 1
bit false = 0

-- ---- the sum of a number of each place

module _ (f : Place → ℕ) where
  abbrev pub tally : List Place → ℕ
  tally [] = 0
  tally (p ∷ l) = f p + tally l

  pub tally-append : (l r : List Place) → tally (l ++ r) ≡ tally l + tally r
  tally-append [] r = omega arith
  tally-append (p ∷ l) r = let ih = tally-append l r in omega arith

  pub tally-insert : (p : Place) (l : List Place) → tally (insert p l) ≡ f p + tally l
  tally-insert p l =
      let i = inserted p l in
      omega (arith, ap tally i.whole, ap tally i.result, tally-append i.before i.after, tally-append i.before (p ∷ i.after))

  -- what is left without the oldest of a sender, and that oldest
  pub tally-without_oldest : (j : ℕ) (l : List Place) (p : Place) (ps : List Place) → from j l ≡ p ∷ ps → f p + tally (without_oldest j l) ≡ tally l
  unfolding from
  tally-without_oldest j [] p ps e = absurd (nil≢cons e)
  tally-without_oldest j (q ∷ l) p ps e = go (eqb q.src j) e (λ x. tally-without_oldest j l p ps x)
    where
      go : (t : Bool) → cond t (q ∷ from j l) (from j l) ≡ p ∷ ps → (from j l ≡ p ∷ ps → f p + tally (without_oldest j l) ≡ tally l)
          → f p + tally (cond t l (q ∷ without_oldest j l)) ≡ f q + tally l
      go true e ih = ap (λ z. f z + tally l) (sym (head-eq_of_cons-eq e))
      go false e ih = omega (arith, ih e)

  pub tally-taken : (s : State) → tally (taken s) ≡ tally s.confirmed + tally s.ordered + tally s.waiting
  tally-taken s = omega (arith, tally-append (s.confirmed ++ s.ordered) s.waiting, tally-append s.confirmed s.ordered)

  pub tally-preacked : (j : ℕ) (s : State) (p : Place) (ps : List Place) → Due j s p ps → tally (taken (preacked s p)) ≡ tally (taken s)
  unfolding preacked
  tally-preacked j s p ps due =
      omega (
        arith,
        tally-taken s,
        tally-taken (preacked s p),
        tally-insert p s.ordered,
        tally-without_oldest p.src s.waiting p ps (subst (λ k. from k s.waiting ≡ p ∷ ps) (sym due.src) due.oldest),
      )

  pub tally-moved : (s : State) (p : Place) (ps : List Place) → Ready s p ps → tally (taken (moved s p)) ≡ tally (taken s)
  unfolding moved
  tally-moved s p ps ready =
      omega (arith, tally-taken s, tally-taken (moved s p), tally-append s.confirmed (p ∷ []), ap tally ready.head, ap (λ l. tally (tail l)) ready.head)

  pub tally-stored : (s : State) (p : Message) → tally (taken (stored s p)) ≡ f (placed s p) + tally (taken s)
  unfolding stored
  tally-stored s p = omega (arith, tally-taken s, tally-taken (stored s p), tally-append s.waiting (placed s p ∷ []))

  pub tally-without_taken : (s : State) (p : Place) (ps : List Place) → s.confirmed ≡ p ∷ ps → f p + tally (taken (without_taken s)) ≡ tally (taken s)
  unfolding without_taken
  tally-without_taken s p ps e = omega (arith, tally-taken s, tally-taken (without_taken s), ap tally e, ap (λ l. tally (tail l)) e)

-- a test holds of each where none that fails it is counted
pub all-tally : (t : Place → Bool) (l : List Place) → all t l ≡ eqb (tally (λ p. bit (not (t p))) l) 0
all-tally t [] = refl
all-tally t (p ∷ l) = go (t p) (all-tally t l)
  where
    rest : ℕ
    rest = tally (λ p. bit (not (t p))) l

    go : (b : Bool) → all t l ≡ eqb rest 0 → b && all t l ≡ eqb (bit (not b) + rest) 0
    go true ih = ih ∙ ap (λ (x : ℕ). eqb x 0) (let e : rest ≡ 0 + rest = omega arith in e)
    go false ih = sym (ne_eqb (1 + rest) 0 (λ e. omega arith))

-- how often the place (j, k) stands in the list
abbrev pub stands : ℕ → ℕ → Place → Bool
stands j k q = eqb j q.src && eqb k q.slot

abbrev pub count : ℕ → ℕ → List Place → ℕ
count j k l = tally (λ q. bit (stands j k q)) l

-- ---- no place twice

-- all of the list are other places than p
apart-count : (p : Place) (l : List Place) → all (λ q. not (same_place p q)) l ≡ eqb (count p.src p.slot l) 0
apart-count p l =
    all-tally (λ q. not (same_place p q)) l
    ∙ ap (λ (f : Place → ℕ). eqb (tally f l) 0) (fun_ext (λ q. ap bit (not-not (same_place p q))))

pub once-count : (l : List Place) → once l ≡ true → (j k : ℕ) → count j k l ≤ 1
once-count [] h j k = omega arith
once-count (p ∷ l) h j k = go (eq? j p.src) (eq? k p.slot) (once-count l (and_right (all (λ q. not (same_place p q)) l) (once l) h) j k)
  where
    none : count p.src p.slot l ≡ 0
    none = eqb-true (count p.src p.slot l) 0 (sym (apart-count p l) ∙ and_left (all (λ q. not (same_place p q)) l) (once l) h)

    go : {a b : Bool} → Eq? j p.src a → Eq? k p.slot b → count j k l ≤ 1 → bit (a && b) + count j k l ≤ 1
    go (same x) (same y) ih = rw (x, y) (omega (arith, none))
    go (same x) (other y) ih = omega arith
    go (other x) y ih = omega arith

pub stands_self : (p : Place) → stands p.src p.slot p ≡ true
stands_self p = and_intro (eqb p.src p.src) (eqb p.slot p.slot) (eq-eqb p.src p.src refl) (eq-eqb p.slot p.slot refl)

pub count-once : (l : List Place) → ((j k : ℕ) → count j k l ≤ 1) → once l ≡ true
count-once [] h = refl
count-once (p ∷ l) h =
    let self : bit (stands p.src p.slot p) ≡ 1 = ap bit (stands_self p) in
    let none : count p.src p.slot l ≡ 0 = omega (arith, h p.src p.slot) in
    and_intro (all (λ q. not (same_place p q)) l) (once l) (apart-count p l ∙ eq-eqb (count p.src p.slot l) 0 none)
    (count-once l (λ j k. omega (arith, h j k)))
