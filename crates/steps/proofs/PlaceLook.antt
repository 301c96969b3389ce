-- The place that a message takes, where its sender has one that is free.
use mathlib.Core.Bool.{false}
use mathlib.Core.List.{List}
use mathlib.Core.Path.{◌≡◌, sym, ap, ◌∙◌}
use Prim.Native.Nat.{ℕ, ◌*◌, ◌≤◌, ◌<◌}
use native.Mathlib.Omega.{arith}
use Rattle.rules.specs.State.{State}
use Rattle.rules.specs.Calls.{full}
use Rattle.rules.proofs.SlotsLaws.{free_slot-lt}
use Rattle.lists.specs.Order.{sender_of, slot_of, free_of}
use Rattle.lists.specs.View.{Whole}
use Rattle.state.specs.declared.Core.{Core}
use Rattle.state.specs.View.{look}
use Rattle.store.proofs.TakenLaws.{free-look}
use Rattle.steps.specs.Arrival.{free_place}

pub record Taking (c : Core) (j : ℕ) : Type 0 where
  pub sender : sender_of (free_place c j) ≡ j
  pub slot : slot_of (free_place c j) ≡ free_of c.order (sender_of (free_place c j)) (4 * c.w)

pub taking : (c : Core) (acks bytes frames : List ℕ) → c.w ≤ 4 → Whole c.n c.order → (j : ℕ) → 1 ≤ j → full (look c acks bytes frames) j ≡ false → Taking c j
unfolding free_place look
taking c acks bytes frames narrow W j low room =
    let s : State = look c acks bytes frames in
    let free : free_of c.order j (4 * c.w) < 16 = omega (arith, free-look c acks bytes frames W j, free_slot-lt s j room) in
    let sender : sender_of (free_place c j) ≡ j = omega arith in
    let slot : slot_of (free_place c j) ≡ free_of c.order j (4 * c.w) = omega arith in
    record { sender = sender; slot = slot ∙ ap (λ (k : ℕ). free_of c.order k (4 * c.w)) (sym sender) }
