-- What holds of each of a list, and of each two in their order.
use mathlib.Core.List.{List, [], ◌∷◌, ◌++◌, map, Memᴰ as Mem}
use mathlib.Core.Path.{◌≡◌, refl, sym, ap, subst}
use Prim.Native.Nat.{ℕ, zero, suc, ◌<◌}
use native.Mathlib.Omega.{arith}
use lib.ListN.{length, get_or}
use Rattle.group.specs.Causality.{Ahead, here, there}

module _ {A : Type 0} where
  abbrev pub All : (A → Type 0) → List A → Type 0
  All P [] = Unit {0}
  All P (x ∷ l) = P x × All P l

  pub all_map : {P Q : A → Type 0} → ((x : A) → P x → Q x) → (l : List A) → All P l → All Q l
  all_map f [] h = tt
  all_map f (x ∷ l) h = (f x h.0, all_map f l h.1)

  pub all_both : {P Q R : A → Type 0} → ((x : A) → P x → Q x → R x) → (l : List A) → All P l → All Q l → All R l
  all_both f [] h k = tt
  all_both f (x ∷ l) h k = (f x h.0 k.0, all_both f l h.1 k.1)

  pub all_append : (P : A → Type 0) (l r : List A) → All P l → All P r → All P (l ++ r)
  all_append P [] r h k = k
  all_append P (x ∷ l) r h k = (h.0, all_append P l r h.1 k)

  pub all_left : (P : A → Type 0) (l r : List A) → All P (l ++ r) → All P l
  all_left P [] r h = tt
  all_left P (x ∷ l) r h = (h.0, all_left P l r h.1)

  pub all_right : (P : A → Type 0) (l r : List A) → All P (l ++ r) → All P r
  all_right P [] r h = h
  all_right P (x ∷ l) r h = all_right P l r h.1

  pub all-mem : (P : A → Type 0) (x : A) (l : List A) → Mem x l → All P l → P x
  all-mem P x [] m h = elim m [ ]
  all-mem P x (y ∷ l) (Mem.head e) h = subst P (sym e) h.0
  all-mem P x (y ∷ l) (Mem.tail m) h = all-mem P x l m h.1

  -- ---- each two, the first of them ahead

  abbrev pub Pairs : (A → A → Type 0) → List A → Type 0
  Pairs P [] = Unit {0}
  Pairs P (x ∷ l) = All (P x) l × Pairs P l

  pub pairs-right : (P : A → A → Type 0) (l r : List A) → Pairs P (l ++ r) → Pairs P r
  pairs-right P [] r h = h
  pairs-right P (x ∷ l) r h = pairs-right P l r h.1

  pub pairs-left : (P : A → A → Type 0) (l r : List A) → Pairs P (l ++ r) → Pairs P l
  pairs-left P [] r h = tt
  pairs-left P (x ∷ l) r h = (all_left (P x) l r h.0, pairs-left P l r h.1)

  pub pairs-ahead : (P : A → A → Type 0) (x y : A) (l : List A) → Ahead x y l → Pairs P l → P x y
  pairs-ahead P x y [] a h = elim a [ ]
  pairs-ahead P x y (z ∷ l) (here e m) h = subst (λ a. P a y) (sym e) (all-mem (P z) y l m h.0)
  pairs-ahead P x y (z ∷ l) (there a) h = pairs-ahead P x y l a h.1

  pub ahead-front : (x y : A) (l : List A) → Ahead x y l → Mem x l
  ahead-front x y [] a = elim a [ ]
  ahead-front x y (z ∷ l) (here e m) = Mem.head e
  ahead-front x y (z ∷ l) (there a) = Mem.tail (ahead-front x y l a)

  pub ahead-back : (x y : A) (l : List A) → Ahead x y l → Mem y l
  ahead-back x y [] a = elim a [ ]
  ahead-back x y (z ∷ l) (here e m) = Mem.tail m
  ahead-back x y (z ∷ l) (there a) = Mem.tail (ahead-back x y l a)

  pub mem-get_or : (l : List A) (s : ℕ) (d : A) → s < length l → Mem (get_or l s d) l
  mem-get_or [] s d h = absurd (omega arith)
  mem-get_or (x ∷ l) zero d h = Mem.head refl
  mem-get_or (x ∷ l) (suc s) d h = Mem.tail (mem-get_or l s d (omega arith))

module _ {A : Type 0} (d : A) where
  pub ahead-get_or : (l : List A) (x y : ℕ) → x < y → y < length l → Ahead (get_or l x d) (get_or l y d) l
  ahead-get_or [] x y h k = absurd (omega arith)
  ahead-get_or (z ∷ l) x zero h k = absurd (omega arith)
  ahead-get_or (z ∷ l) zero (suc y) h k = here refl (mem-get_or l y d (omega arith))
  ahead-get_or (z ∷ l) (suc x) (suc y) h k = there (ahead-get_or l x y (omega arith) (omega arith))

pub mem-map : {A B : Type 0} (f : A → B) (x : A) (l : List A) → Mem x l → Mem (f x) (map f l)
mem-map {A = A} {B = B} f x [] m = elim m [ ]
mem-map f x (y ∷ l) (Mem.head e) = Mem.head (ap f e)
mem-map f x (y ∷ l) (Mem.tail m) = Mem.tail (mem-map f x l m)

-- what a mapped list has is the image of what the list has
pub mem-unmap : {A B : Type 0} (f : A → B) (y : B) (l : List A) → Mem y (map f l) → (x : A) × (f x ≡ y) × Mem x l
mem-unmap {A = A} {B = B} f y [] m = elim m [ ]
mem-unmap f y (x ∷ l) (Mem.head e) = (x, sym e, Mem.head refl)
mem-unmap f y (x ∷ l) (Mem.tail m) = let r = mem-unmap f y l m in (r.0, r.1, Mem.tail r.2)
