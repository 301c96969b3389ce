-- Demand 1 of a unit: what each call may answer, and what a refusal leaves as it was, of the unit's whole value.
use Rattle.std.specs.Prelude.{true, false, ◌∷◌, ◌≢◌, ◌≡◌, ℕ, replicate}
use Rattle.rules.specs.Maps.{among}
use Rattle.rules.specs.Calls.{Call}
use Rattle.rules.specs.Demand1.{order_of, lent, handed, noting}
use Rattle.state.specs.Changed.{with_heard}
use Rattle.unit.specs.declared.Unit.{Unit}
use Rattle.unit.specs.View.{Outcome}
use Rattle.unit.specs.Exact.{with_core}

-- nothing of u changes but HEARD, and HEARD only with an answer of `noting`: 9, 10 and 12 on arrival
pub record Stays (u : Unit) (c : Call) (answer : ℕ) (next : Unit) : Type 0 where
  pub unit : next ≡ with_core u (with_heard u.core next.core.heard)
  pub heard : among answer (noting c) ≡ false → next ≡ u

pub record Refusing (u : Unit) (c : Call) (x : Outcome) : Type 0 where
  pub output : x.output ≡ lent c
  pub numbers : x.numbers ≡ replicate (handed c) 0
  pub stays : Stays u c x.answer x.next

pub record Demand1 (u : Unit) (c : Call) (x : Outcome) : Type 0 where
  pub answers : among x.answer (0 ∷ order_of c) ≡ true
  pub refuses : x.answer ≢ 0 → Refusing u c x
