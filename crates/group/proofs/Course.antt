-- The messages of a whole run by sender and number, and what a sender's messages below a number say.
use mathlib.Core.Bool.{Bool, cond}
use mathlib.Core.List.{[]}
use mathlib.Core.Path.{◌≡◌, refl, sym, subst}
use Prim.Native.Nat.{ℕ, suc, ◌-◌, ◌≤◌, ◌<◌}
use native.Mathlib.Omega.{arith}
use lib.Dec.{ltb}
use Rattle.rules.specs.Maps.{at}
use Rattle.rules.specs.Message.{Message}
use Rattle.rules.proofs.MapsLaws.{Lt?, lt, ge, lt?}
use Rattle.group.specs.Runs.{Index}

-- What stays the same throughout a run: how the group was opened, and the messages that will have been sent at its end.
-- Which of them have been sent by now, `top` says: from j those numbered first j up to below top j.
pub record Course : Type 0 where
  pub n : ℕ
  pub w : ℕ
  pub cid : ℕ
  pub first : ℕ → ℕ
  pub msg : ℕ → ℕ → Message

pub record Sent (c : Course) (top : ℕ → ℕ) (j s : ℕ) : Type 0 where
  pub index : Index c.n j
  pub low : c.first j ≤ s
  pub high : s < top j

abbrev pub nothing : Message
nothing = record { cid = 0; src = 0; seq = 0; ack = []; buf = 0; text = [] }

abbrev pub ack_of : Message → ℕ → ℕ
ack_of m k = at m.ack k

-- what j's messages below r say that j expects of k: ACK_k of the last of them, or the first number
unfoldable pub said : Course → ℕ → ℕ → ℕ → ℕ
said c j r k = cond (ltb (c.first j) r) (ack_of (c.msg j (r - 1)) k) (c.first k)

module _ (c : Course) (j r : ℕ) where
  pub said-cases : (P : (ℕ → ℕ) → Type 0) → (r ≤ c.first j → P c.first)
      → ((s : ℕ) → r ≡ suc s → c.first j ≤ s → P (ack_of (c.msg j s))) → P (said c j r)
  unfolding said
  said-cases P f g = go (lt? (c.first j) r)
    where
      go : {t : Bool} → Lt? (c.first j) r t → P (λ k. cond t (ack_of (c.msg j (r - 1)) k) (c.first k))
      go (lt h) = g (r - 1) (omega arith) (omega arith)
      go (ge h) = f h

pub said-suc : (c : Course) (j s : ℕ) → c.first j ≤ s → said c j (suc s) ≡ ack_of (c.msg j s)
said-suc c j s h =
    said-cases c j (suc s) (λ v. v ≡ ack_of (c.msg j s)) (λ x. absurd (omega arith))
    (λ t e x. let q : t ≡ s = omega arith in subst (λ y. ack_of (c.msg j y) ≡ ack_of (c.msg j s)) (sym q) refl)

pub said-first : (c : Course) (j : ℕ) → said c j (c.first j) ≡ c.first
said-first c j = said-cases c j (c.first j) (λ v. v ≡ c.first) (λ x. refl) (λ s e x. absurd (omega arith))
