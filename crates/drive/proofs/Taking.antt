-- Taking everything: a refusal ends it, and a message leaves one fewer to take.
use mathlib.Core.List.{List}
use mathlib.Core.Path.{◌≡◌, refl, ap₂}
use Prim.Native.Nat.{ℕ, zero, suc, ◌-◌, ◌<◌}
use native.Mathlib.Omega.{arith}
use Rattle.std.specs.Prelude.{Ok, Err}
use Rattle.answers.specs.declared.Refusal.{Refusal}
use Rattle.answers.specs.Answers.{Answered}
use Rattle.handing.specs.Handing.{Given}
use Rattle.unit.specs.declared.Unit.{Unit}
use Rattle.handing.specs.declared.Taken.{Taken}
use Rattle.unit.specs.CallContracts.{Takes}
use Rattle.unit.specs.Exact.{taken_of}
use Rattle.drive.specs.Run.{Summed, with_message, all_taken, all_after}

-- a take as its contract has it
pub take-given : (u : Unit) (out : List ℕ) (r : Unit × Answered Taken) (out' : List ℕ) → Takes u out r out'
    → ◌≡◌ {A = Given (Unit × Answered Taken)} (record { result = r; output = out' }) (taken_of u out)
take-given u out r out' e = ap₂ (λ (a : Unit × Answered Taken) (l : List ℕ). record { result = a; output = l }) e.exact e.bytes

module _ (u : Unit) (out : List ℕ) (s : ℕ) where
  pub taken_none : (m : ℕ) (t : Answered Taken) → m ≡ 0 → ◌≡◌ {A = Summed} (record { sum = s; unit = u }) (all_taken m u t out s)
  unfolding all_taken
  taken_none m t h = rw h

  pub taken-stop : (m : ℕ) (t : Answered Taken) (r : Refusal) → t ≡ Err r
      → ◌≡◌ {A = Summed} (record { sum = s; unit = u }) (all_taken m u t out s)
  unfolding all_taken
  taken-stop zero t r h = refl
  taken-stop (suc m) t r h = rw h

  pub taken_more : (m : ℕ) (t : Taken) → 0 < m
      → all_taken m u (Ok t) out s ≡ all_after (m - 1) (with_message s t.src t.seq t.len out) (taken_of u out)
  unfolding all_taken
  taken_more zero t p = absurd (omega arith)
  taken_more (suc m) t p =
      let less : suc m - 1 ≡ m = omega arith in
      rw less
