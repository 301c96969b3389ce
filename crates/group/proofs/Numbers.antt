-- What the numbers of a group keep: R i k is what unit i next expects of unit k.
use mathlib.Core.Path.{◌≡◌, sym, subst}
use Prim.Native.Nat.{ℕ, ◌≤◌, ◌<◌}
use native.Mathlib.Omega.{arith}
use native.Mathlib.Nat.{le_refl}
use Rattle.group.specs.Runs.{Index}
use Rattle.group.proofs.Course.{Course, Sent, ack_of, said, said-cases}

-- nothing is from the future: what is expected was not sent yet, and what was said is expected still
pub record Numbers (c : Course) (top : ℕ → ℕ) (R : ℕ → ℕ → ℕ) : Type 0 where
  pub low : (i k : ℕ) → Index c.n i → Index c.n k → c.first k ≤ R i k
  pub high : (i k : ℕ) → Index c.n i → Index c.n k → R i k ≤ top k
  pub past : (j s k : ℕ) → Sent c top j s → Index c.n k → ack_of (c.msg j s) k ≤ R j k

-- r is what i expects
pub row-high : {c : Course} {top : ℕ → ℕ} {R : ℕ → ℕ → ℕ} → Numbers c top R → {i : ℕ} → Index c.n i → {r : ℕ → ℕ} → r ≡ R i
    → (x : ℕ) → Index c.n x → r x ≤ top x
row-high {top = top} I {i} inn e x xn = subst (λ (f : ℕ → ℕ). f x ≤ top x) (sym e) (I.high i x inn xn)

-- a message is found under its sender and number, expects itself, and its ACKs only grow
pub record Spoken (c : Course) (top : ℕ → ℕ) : Type 0 where
  pub src : (j s : ℕ) → Sent c top j s → (c.msg j s).src ≡ j
  pub seq : (j s : ℕ) → Sent c top j s → (c.msg j s).seq ≡ s
  pub own : (j s : ℕ) → Sent c top j s → ack_of (c.msg j s) j ≡ s
  pub floor : (j s k : ℕ) → Sent c top j s → Index c.n k → c.first k ≤ ack_of (c.msg j s) k
  pub mono : (j s t k : ℕ) → Sent c top j s → Sent c top j t → s ≤ t → Index c.n k → ack_of (c.msg j s) k ≤ ack_of (c.msg j t) k

-- who has accepted a message expects no less than it says; and so says each message whose sender had
pub record Closed (c : Course) (top : ℕ → ℕ) (R : ℕ → ℕ → ℕ) : Type 0 where
  pub close : (i j s k : ℕ) → Index c.n i → Index c.n j → Index c.n k → c.first j ≤ s → s < R i j
      → ack_of (c.msg j s) k ≤ R i k
  pub chain : (l t j s k : ℕ) → Sent c top l t → Index c.n j → Index c.n k → c.first j ≤ s → s < ack_of (c.msg l t) j
      → ack_of (c.msg j s) k ≤ ack_of (c.msg l t) k

-- ---- what j's messages below r say

module _ {c : Course} {top : ℕ → ℕ} (j : ℕ) (jn : Index c.n j) where
  pub said-floor : Spoken c top → (r : ℕ) → r ≤ top j → (k : ℕ) → Index c.n k → c.first k ≤ said c j r k
  said-floor H r old k kn =
      said-cases c j r (λ v. c.first k ≤ v k) (λ x. le_refl _)
      (λ s e x. H.floor j s k (record { index = jn; low = x; high = omega arith }) kn)

  -- the last of them says no less than each
  pub said_all : Spoken c top → (r : ℕ) → r ≤ top j → (s k : ℕ) → c.first j ≤ s → s < r → Index c.n k
      → ack_of (c.msg j s) k ≤ said c j r k
  said_all H r old s k low high kn =
      said-cases c j r (λ v. ack_of (c.msg j s) k ≤ v k) (λ x. absurd (omega arith))
      (λ t e x. H.mono j s t k (record { index = jn; low = low; high = omega arith })
      (record { index = jn; low = x; high = omega arith }) (omega arith) kn)

  pub said-mono : Spoken c top → (r t : ℕ) → t ≤ top j → r ≤ t → (k : ℕ) → Index c.n k → said c j r k ≤ said c j t k
  said-mono H r t old h k kn =
      said-cases c j r (λ v. v k ≤ said c j t k) (λ x. said-floor H t old k kn)
      (λ s e x. said_all H t old s k x (omega arith) kn)

  pub said-closed : {R : ℕ → ℕ → ℕ} → Closed c top R → (r : ℕ) → r ≤ top j → (k s x : ℕ) → Index c.n k → Index c.n x
      → c.first k ≤ s → s < said c j r k → ack_of (c.msg k s) x ≤ said c j r x
  said-closed C r old k s x kn xn low =
      said-cases c j r (λ v. s < v k → ack_of (c.msg k s) x ≤ v x) (λ h y. absurd (omega arith))
      (λ t e h y. C.chain j t k s x (record { index = jn; low = h; high = omega arith }) kn xn low y)
