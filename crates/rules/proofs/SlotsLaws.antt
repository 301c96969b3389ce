-- Slots and places by double counting: a sender that is not full has a free slot, and a sound unit has at most 4W places
-- for each sender and 4Wn in all.
use mathlib.Core.Bool.{Bool, true, false, cond, ◌&&◌, ◌||◌}
use mathlib.Core.List.{List, [], ◌∷◌, map, Memᴰ}
use mathlib.Core.Path.{◌≡◌, refl, sym, ap, subst, ◌∙◌}
use Prim.Native.Nat.{ℕ, zero, suc, ◌+◌, ◌*◌, ◌≤◌, ◌<◌}
use native.Mathlib.Omega.{arith}
use lib.Dec.{eqb, ltb}
use lib.ListN.{length}
use borrow.Author.Tests.{leb-false, ltb-true, ltb-false, lt-ltb, eq-eqb, ne_eqb}
use Rattle.rules.specs.Maps.{among}
use Rattle.rules.specs.Message.{Message}
use Rattle.rules.specs.State.{Place, State, taken, from, places, free}
use Rattle.rules.specs.Steps.{first_free, free_slot, placed}
use Rattle.rules.specs.Calls.{full}
use Rattle.rules.proofs.MapsLaws.{Lt?, lt, ge, lt?, Eq?, same, other, eq?}
use Rattle.rules.proofs.PlacesLaws.{bit, tally, stands, count}
use Rattle.rules.proofs.SoundLaws.{Sound}
use Rattle.rules.proofs.SumsLaws.{sum, sum_same, sum-le, sum-most, sum-hit, sum-once, sum-tally, tally-le}

-- ---- lengths as counts

pub length-tally : (l : List Place) → length l ≡ tally (λ p. 1) l
length-tally [] = refl
length-tally (p ∷ l) = omega (arith, length-tally l)

eqb_comm : (a b : ℕ) → eqb a b ≡ eqb b a
eqb_comm a b = go (eq? b a)
  where
    go : {t : Bool} → Eq? b a t → eqb a b ≡ t
    go (same e) = eq-eqb a b (sym e)
    go (other d) = ne_eqb a b (λ e. d (sym e))

pub from-tally : (j : ℕ) (l : List Place) → length (from j l) ≡ tally (λ p. bit (eqb j p.src)) l
unfolding from
from-tally j [] = refl
from-tally j (p ∷ l) = rw (eqb_comm j p.src) (go (eqb p.src j) (from-tally j l))
  where
    go : (t : Bool) → length (from j l) ≡ tally (λ p. bit (eqb j p.src)) l
        → length (cond t (p ∷ from j l) (from j l)) ≡ bit t + tally (λ p. bit (eqb j p.src)) l
    go true ih = omega arith
    go false ih = omega arith

-- ---- the slots of one sender

module _ (j m : ℕ) where
  slots-most : (p : Place) → sum 0 m (λ k. bit (stands j k p)) ≤ bit (eqb j p.src)
  slots-most p = go (eqb j p.src)
    where
      go : (t : Bool) → sum 0 m (λ k. bit (t && eqb k p.slot)) ≤ bit t
      go true = sum-hit 0 m p.slot
      go false = omega (arith, sum_same 0 m 0)

  slots-all : (p : Place) → p.slot < m → bit (eqb j p.src) ≤ sum 0 m (λ k. bit (stands j k p))
  slots-all p h = go (eqb j p.src)
    where
      go : (t : Bool) → bit t ≤ sum 0 m (λ k. bit (t && eqb k p.slot))
      go true = omega (arith, sum-once 0 m p.slot (omega arith) (omega arith))
      go false = omega arith

  -- those of the first m slots that are taken are at most the sender's places, and all of them where no slot is past m
  pub counts-most : (l : List Place) → sum 0 m (λ k. count j k l) ≤ length (from j l)
  counts-most l =
      omega (
        arith,
        sum-tally 0 m (λ k p. bit (stands j k p)) l,
        from-tally j l,
        tally-le (λ p. sum 0 m (λ k. bit (stands j k p))) (λ p. bit (eqb j p.src)) l (λ p x. slots-most p),
      )

  pub counts_all : (l : List Place) → ((p : Place) → Memᴰ p l → p.slot < m) → length (from j l) ≤ sum 0 m (λ k. count j k l)
  counts_all l h =
      omega (
        arith,
        sum-tally 0 m (λ k p. bit (stands j k p)) l,
        from-tally j l,
        tally-le (λ p. bit (eqb j p.src)) (λ p. sum 0 m (λ k. bit (stands j k p))) l (λ p x. slots-all p (h p x)),
      )

-- ---- the first free slot

module _ (l : List ℕ) where
  pub first_free-le : (i m : ℕ) → first_free l i m ≤ i + m
  first_free-le i zero = omega arith
  first_free-le i (suc m) = go (among i l) (first_free-le (suc i) m)
    where
      go : (t : Bool) → first_free l (suc i) m ≤ suc i + m → cond t (first_free l (suc i) m) i ≤ i + suc m
      go true ih = omega arith
      go false ih = omega arith

  first_free-free : (i m : ℕ) → first_free l i m < i + m → among (first_free l i m) l ≡ false
  first_free-free i zero h = absurd (omega arith)
  first_free-free i (suc m) h = go (among i l) refl h (λ x. first_free-free (suc i) m x)
    where
      go : (t : Bool) → among i l ≡ t → cond t (first_free l (suc i) m) i < i + suc m
          → (first_free l (suc i) m < suc i + m → among (first_free l (suc i) m) l ≡ false) → among (cond t (first_free l (suc i) m) i) l ≡ false
      go true e h ih = ih (omega arith)
      go false e h ih = e

  first_free-past : (i m k : ℕ) → i ≤ k → k < first_free l i m → among k l ≡ true
  first_free-past i zero k a b = absurd (omega arith)
  first_free-past i (suc m) k a b = go (among i l) refl b (λ x y. first_free-past (suc i) m k x y) (eq? i k)
    where
      go : (t : Bool) → among i l ≡ t → k < cond t (first_free l (suc i) m) i
          → (suc i ≤ k → k < first_free l (suc i) m → among k l ≡ true) → {u : Bool} → Eq? i k u → among k l ≡ true
      go true e b ih (same x) = subst (λ z. among z l ≡ true) x e
      go true e b ih (other x) = ih (omega arith) b
      go false e b ih x = absurd (omega arith)

-- the slots of sender j in the list
abbrev slots_of : ℕ → List Place → List ℕ
slots_of j l = map (λ (p : Place). p.slot) (from j l)

-- slot k is among them where its place stands in the list
among-count : (j k : ℕ) (l : List Place) → among k (slots_of j l) ≡ ltb 0 (count j k l)
unfolding from
among-count j k [] = refl
among-count j k (p ∷ l) = rw (eqb_comm j p.src) (go (eqb p.src j) (among-count j k l))
  where
    rest : ltb 0 (count j k l) ≡ ltb 0 (0 + count j k l)
    rest = ap (λ (x : ℕ). ltb 0 x) (let e : count j k l ≡ 0 + count j k l = omega arith in e)

    hit : {c : Bool} → Eq? k p.slot c → among k (slots_of j l) ≡ ltb 0 (count j k l) → c || among k (slots_of j l) ≡ ltb 0 (bit c + count j k l)
    hit (same x) ih = sym (lt-ltb 0 (1 + count j k l) (omega arith))
    hit (other x) ih = ih ∙ rest

    go : (t : Bool) → among k (slots_of j l) ≡ ltb 0 (count j k l)
        → among k (map (λ (p : Place). p.slot) (cond t (p ∷ from j l) (from j l))) ≡ ltb 0 (bit (t && eqb k p.slot) + count j k l)
    go true ih = hit (eq? k p.slot) ih
    go false ih = ih ∙ rest

-- ---- a unit's places

module _ (s : State) (j : ℕ) where
  -- where the slot found is one of the 4W, no place stands there
  pub free_slot-count : free_slot s j < 4 * s.w → count j (free_slot s j) (taken s) ≡ 0
  unfolding free_slot
  free_slot-count h =
      let none = first_free-free (slots_of j (taken s)) 0 (4 * s.w) (omega arith) in
      omega (arith, ltb-false 0 (count j (free_slot s j) (taken s)) (sym (among-count j (free_slot s j) (taken s)) ∙ none))

  -- and each slot before it is taken
  pub free_slot-past : (k : ℕ) → k < free_slot s j → 1 ≤ count j k (taken s)
  unfolding free_slot
  free_slot-past k h =
      ltb-true 0 (count j k (taken s)) (sym (among-count j k (taken s)) ∙ first_free-past (slots_of j (taken s)) 0 (4 * s.w) k (omega arith) h)

  -- a sender that is not full has a free slot
  pub free_slot-lt : full s j ≡ false → free_slot s j < 4 * s.w
  unfolding full
  free_slot-lt h = go (lt? (free_slot s j) (4 * s.w))
    where
      room : length (from j (taken s)) < 4 * s.w
      room = leb-false (4 * s.w) (length (from j (taken s))) h

      go : {t : Bool} → Lt? (free_slot s j) (4 * s.w) t → free_slot s j < 4 * s.w
      go (lt x) = x
      go (ge x) =
          absurd (
          omega (
            arith,
            room,
            counts-most j (4 * s.w) (taken s),
            sum_same 0 (4 * s.w) 1,
            sum-le 0 (4 * s.w) (λ k. 1) (λ k. count j k (taken s)) (λ k a b. free_slot-past k (omega arith)),
          )
          )

-- a message goes to a place that is not taken
pub placed-free : (s : State) (p : Message) → full s p.src ≡ false → count (placed s p).src (placed s p).slot (taken s) ≡ 0
unfolding placed
placed-free s p room = free_slot-count s p.src (free_slot-lt s p.src room)

-- ---- a sound unit's places

module _ (s : State) (f : Sound s) where
  -- at most 4W places of each sender
  pub from-most : (j : ℕ) → length (from j (taken s)) ≤ 4 * s.w
  from-most j =
      omega (
        arith,
        counts_all j (4 * s.w) (taken s) (λ p m. (f.held p m).slot),
        sum-most 0 (4 * s.w) (λ k. count j k (taken s)) 1 (λ k a b. f.once j k),
      )

  -- and at most 4Wn in all
  pub taken-most : length (taken s) ≤ places s
  taken-most =
      omega (
        arith,
        length-tally (taken s),
        senders,
        sum-tally 1 s.n (λ j p. bit (eqb j p.src)) (taken s),
        sum-most 1 s.n (λ j. tally (λ p. bit (eqb j p.src)) (taken s)) (4 * s.w) (λ j a b. omega (arith, from-tally j (taken s), from-most j)),
      )
    where
      senders : tally (λ p. 1) (taken s) ≤ tally (λ p. sum 1 s.n (λ j. bit (eqb j p.src))) (taken s)
      senders =
          tally-le (λ p. 1) (λ p. sum 1 s.n (λ j. bit (eqb j p.src))) (taken s)
          (λ p m. omega (arith, sum-once 1 s.n p.src (f.held p m).says.src-low (omega (arith, (f.held p m).says.src-high))))

  -- so the free places are the others
  pub free-taken : free s + length (taken s) ≡ places s
  unfolding free
  free-taken = omega (arith, taken-most)
