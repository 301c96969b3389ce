-- Demand 1 holds of every call, state and input, and of opening.
use mathlib.Core.Bool.{Bool, true, false, cond, ◌||◌}
use mathlib.Core.Logic.{◌≢◌}
use mathlib.Core.List.{List, [], ◌∷◌}
use mathlib.Core.Option.{Option, none, some}
use mathlib.Core.Path.{◌≡◌, refl, ap, subst}
use Prim.Native.Nat.{ℕ}
use lib.Dec.{eqb}
use Rattle.rules.specs.Maps.{among}
use Rattle.rules.specs.Message.{Said, message, request, decode}
use Rattle.rules.specs.State.{State, closed}
use Rattle.rules.specs.Steps.{noted, with_heard}
use Rattle.rules.specs.Calls.{Call, sends, hears, asks, copies, takes}
use Rattle.rules.specs.Demand1.{order_of, noting, Refusing, Demand1, OpeningDemand1}
use Rattle.rules.proofs.CallsLaws.{Refused}
use Rattle.rules.proofs.ChecksLaws.{refused-among}
use Rattle.rules.proofs.CallCases.{checks_of, next_of_said, refused_next, refused_by, refused_next-all, call-cases, done-answer, checks_of-order, open-cases}

-- with no answer of `noting` the unit stays as it is
refused_next-same : (s : State) (c : Call) (a : ℕ) → among a (noting c) ≡ false → refused_next s c a ≡ s
refused_next-same s (sends d out) a h = refl
refused_next-same s (hears l) a h = go (decode l)
  where
    go : (o : Option Said) → next_of_said s o a ≡ s
    go none = refl
    go (some (message p)) = ap (λ (t : Bool). cond t (noted s p) s) h
    go (some (request r)) = refl
refused_next-same s (asks k out) a h = refl
refused_next-same s (copies x out) a h = refl
refused_next-same s (takes out) a h = refl

pub refused-refusing : (s : State) (c : Call) (a : ℕ) → Refusing s c (refused_by s c a)
unfolding noted
refused-refusing s c a =
    record {
      output = refl;
      numbers = refl;
      unit = refused_next-all s (λ t. t ≡ with_heard s t.heard) refl (λ p. refl) c a;
      heard = refused_next-same s c a;
    }

pub demand1 : (s : State) (c : Call) → Demand1 s c
demand1 s c =
    record {
      answers =
          call-cases s (λ r. among r.answer (0 ∷ order_of c) ≡ true) c (λ a r. refused a r) (λ r d. ap (λ a. among a (0 ∷ order_of c)) (done-answer s d));
      refuses = call-cases s (λ r. r.answer ≢ 0 → Refusing s c r) c (λ a r n. refused-refusing s c a) (λ r d n. absurd (n (done-answer s d)));
    }
  where
    either : (a b : Bool) → b ≡ true → a || b ≡ true
    either true b h = refl
    either false b h = h

    refused : (a : ℕ) → Refused a (checks_of s c) → among a (0 ∷ order_of c) ≡ true
    refused a r = either (eqb a 0) (among a (order_of c)) (subst (λ (l : List ℕ). among a l ≡ true) (checks_of-order s c) (refused-among r))

pub opening_demand1 : (i n w cid : ℕ) (first : ℕ → ℕ) → OpeningDemand1 i n w cid first
opening_demand1 i n w cid first =
    record {
      answers = open-cases (λ o. among o.answer (0 ∷ 2 ∷ []) ≡ true) i n w cid first refl (λ p. refl);
      refuses = open-cases (λ o. o.answer ≢ 0 → o.unit ≡ closed) i n w cid first (λ x. refl) (λ p x. absurd (x refl));
    }
