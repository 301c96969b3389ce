-- Decisions by lists of checks: through their answer, and under a map.
use mathlib.Core.Bool.{Bool, true, false, cond}
use mathlib.Core.List.{List, [], ◌∷◌}
use mathlib.Core.Path.{◌≡◌, refl}
use Prim.Native.Nat.{ℕ}
use native.Mathlib.Omega.{arith}
use lib.Dec.{eqb, ltb}
use borrow.Author.Tests.{ltb-true, ne_eqb}
use Rattle.rules.specs.Maps.{all}
use Rattle.rules.specs.Calls.{Check, decide, answer_of}
use Rattle.rules.proofs.MapsLaws.{and_left, and_right}
use Rattle.rules.proofs.CallsLaws.{Passed, Refused, now, later}
use Rattle.rules.proofs.ChecksLaws.{answers_of}

-- where no check answers 0
pub decide-answer : {A : Type 0} (refused : ℕ → A) (done : A) (l : List Check) → all (λ x. ltb 0 x) (answers_of l) ≡ true
    → cond (eqb (answer_of l) 0) done (refused (answer_of l)) ≡ decide l refused done
decide-answer refused done [] h = refl
decide-answer refused done (c ∷ l) h =
    go c.holds (decide-answer refused done l (and_right (ltb 0 c.answer) (all (λ x. ltb 0 x) (answers_of l)) h))
  where
    go : (t : Bool) → cond (eqb (answer_of l) 0) done (refused (answer_of l)) ≡ decide l refused done
        → cond (eqb (cond t c.answer (answer_of l)) 0) done (refused (cond t c.answer (answer_of l))) ≡ cond t (refused c.answer) (decide l refused done)
    go false e = e
    go true e =
        rw (ne_eqb c.answer 0 (λ z. omega (arith, ltb-true 0 c.answer (and_left (ltb 0 c.answer) (all (λ x. ltb 0 x) (answers_of l)) h))))

-- what f makes of each way to decide
pub decide-map : {A B : Type 0} (f : A → B) (refused : ℕ → A) (done : A) (refused' : ℕ → B) (done' : B) (l : List Check)
    → ((a : ℕ) → Refused a l → f (refused a) ≡ refused' a) → (Passed l → f done ≡ done') → f (decide l refused done) ≡ decide l refused' done'
decide-map f refused done refused' done' [] r d = d tt
decide-map f refused done refused' done' (c ∷ l) r d =
    go c.holds (λ e. r c.answer (now e refl)) (λ e. decide-map f refused done refused' done' l (λ a x. r a (later e x)) (λ p. d (e, p)))
  where
    go : (t : Bool) → (t ≡ true → f (refused c.answer) ≡ refused' c.answer) → (t ≡ false → f (decide l refused done) ≡ decide l refused' done')
        → f (cond t (refused c.answer) (decide l refused done)) ≡ cond t (refused' c.answer) (decide l refused' done')
    go true g h = g refl
    go false g h = h refl
