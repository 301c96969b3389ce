-- A part of a list of bytes at the front of an output.
use mathlib.Core.List.{List, ◌++◌}
use mathlib.Core.Path.{◌≡◌, sym, ap, ◌∙◌}
use Prim.Native.Nat.{ℕ, ◌+◌}
use native.Mathlib.Nat.{zero-add}
use lib.ListN.{get_or, drop}
use Rattle.rules.specs.Calls.{written}
use Rattle.tables.specs.Rows.{part}
use Rattle.tables.proofs.FillLaws.{filled}
use Rattle.tables.proofs.ListedLaws.{length_part, listed_same}

pub filled-part : (out l : List ℕ) (a m i : ℕ) → i ≡ m → filled out (λ k. get_or l (a + k) 0) i ≡ written out (part l a m)
filled-part out l a m i e =
    ap (filled out (λ k. get_or l (a + k) 0)) e
    ∙ ap (λ (r : List ℕ). r ++ drop m out) (listed_same 0 a m (λ k. get_or l (a + k) 0) (λ k. get_or l k 0) (λ k h. ap (λ (j : ℕ). get_or l (a + j) 0) (zero-add k)))
    ∙ ap (λ (j : ℕ). part l a m ++ drop j out) (sym (length_part l a m))
