-- What a unit knows of another's expectations: never more than the truth and closed; and, apart from that, just what its last
-- message said.
use mathlib.Core.Path.{◌≡◌, sym, ap, ◌∙◌}
use Prim.Native.Nat.{ℕ, suc, ◌≤◌, ◌<◌}
use native.Mathlib.Omega.{arith}
use native.Mathlib.Nat.{le_trans}
use Rattle.rules.specs.Maps.{least}
use Rattle.rules.proofs.MapsLaws.{least-le, least-glb}
use Rattle.group.specs.Runs.{Index}
use Rattle.group.proofs.Course.{Course, Sent, ack_of, said, said-suc, said-first}
use Rattle.group.proofs.Numbers.{Numbers, Closed}

-- v is what is known of j's expectations where j's messages below r were accepted
pub record Column (c : Course) (R : ℕ → ℕ → ℕ) (j r : ℕ) (v : ℕ → ℕ) : Type 0 where
  pub within : (k : ℕ) → Index c.n k → v k ≤ R j k
  pub closed : (k s x : ℕ) → Index c.n k → Index c.n x → c.first k ≤ s → s < v k → ack_of (c.msg k s) x ≤ v x
  pub reaches : (k : ℕ) → Index c.n k → said c j r k ≤ v k

-- v is just what the last of them said
pub record Says (c : Course) (j r : ℕ) (v : ℕ → ℕ) : Type 0 where
  pub says : (k : ℕ) → Index c.n k → v k ≡ said c j r k

-- ---- at opening the first numbers are expected

module _ {c : Course} {j r : ℕ} {v : ℕ → ℕ} (start : r ≡ c.first j) (firsts : (k : ℕ) → Index c.n k → v k ≡ c.first k) where
  pub says_first : Says c j r v
  says_first =
      record { says = λ k kn. firsts k kn ∙ ap (λ (f : ℕ → ℕ). f k) (sym (said-first c j)) ∙ ap (λ x. said c j x k) (sym start) }

  pub column-first : {top : ℕ → ℕ} {R : ℕ → ℕ → ℕ} → Numbers c top R → Index c.n j → Column c R j r v
  column-first I jn =
      record {
        within = λ k kn. omega (arith, firsts k kn, I.low j k jn kn);
        closed = λ k s x kn xn low h. absurd (omega (arith, firsts k kn));
        reaches = λ k kn. omega (arith, says_first.says k kn);
      }

-- ---- of a message just accepted, its ACK

pub says-message : (c : Course) (j s : ℕ) → c.first j ≤ s → Says c j (suc s) (ack_of (c.msg j s))
says-message c j s h = record { says = λ k kn. ap (λ (v : ℕ → ℕ). v k) (sym (said-suc c j s h)) }

pub column-message : {c : Course} {top : ℕ → ℕ} {R : ℕ → ℕ → ℕ} → Numbers c top R → Closed c top R → {j s : ℕ} → Sent c top j s
    → Column c R j (suc s) (ack_of (c.msg j s))
column-message {c} I C {j} {s} h =
    record {
      within = λ k kn. I.past j s k h kn;
      closed = λ k t x kn xn low b. C.chain j s k t x h kn xn low b;
      reaches = λ k kn. omega (arith, (says-message c j s h.low).says k kn);
    }

-- ---- and others may expect more later

pub column-more : {c : Course} {R R' : ℕ → ℕ → ℕ} {j r : ℕ} {v : ℕ → ℕ} → ((k : ℕ) → R j k ≤ R' j k) → Column c R j r v → Column c R' j r v
column-more up A = record { within = λ k kn. le_trans (A.within k kn) (up k); closed = A.closed; reaches = A.reaches }

-- ---- the least of a row

pub row-le : {m n : ℕ} → n ≡ m → (f : ℕ → ℕ) (x : ℕ) → Index m x → least n f ≤ f x
row-le {n = n} size f x xn = least-le n f x xn.0 (omega arith)

pub row-glb : {m n : ℕ} → n ≡ m → (f : ℕ → ℕ) (v : ℕ) → 1 ≤ m → ((x : ℕ) → Index m x → v ≤ f x) → v ≤ least n f
row-glb {n = n} size f v some h = least-glb n f v (omega arith) (λ x a b. h x (a, omega arith))
