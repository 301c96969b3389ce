-- The first n of a row, as the rules list the numbers of the units.
use mathlib.Core.List.{List}
use mathlib.Core.Path.{◌≡◌, sym, ap, ◌∙◌}
use Prim.Native.Nat.{ℕ, ◌+◌, ◌-◌, ◌≤◌, ◌<◌}
use native.Mathlib.Omega.{arith}
use lib.ListN.{length, get_or, take}
use Rattle.rules.specs.Maps.{at, listed, units}
use Rattle.rules.proofs.MapsLaws.{units_in}
use Rattle.tables.specs.Rows.{part}
use Rattle.tables.proofs.ListedLaws.{listed_same, take-listed}
use Rattle.tables.proofs.RowLaws.{at_before}
use Rattle.lists.proofs.EntryLaws.{listed-all}

pub part-units : (n : ℕ) (l : List ℕ) → part l 0 n ≡ listed 1 n (units n (at l))
part-units n l = listed_same 0 1 n (λ i. get_or l i 0) (units n (at l)) same
  where
    same : (i : ℕ) → i < n → get_or l (0 + i) 0 ≡ units n (at l) (1 + i)
    same i x =
        ap (λ (q : ℕ). get_or l q 0) (let e : 0 + i ≡ 1 + i - 1 = omega arith in e)
        ∙ at_before l (1 + i) (λ e. omega arith)
        ∙ sym (units_in n (at l) (1 + i) (omega arith) (omega arith))

pub take-units : (n : ℕ) (l : List ℕ) → n ≤ length l → take n l ≡ listed 1 n (units n (at l))
take-units n l h =
    ap (take n) (sym (listed-all l)) ∙ take-listed 0 n (length l) (λ i. get_or l i 0) h ∙ part-units n l
