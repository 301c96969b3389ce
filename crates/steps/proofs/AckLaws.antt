-- The eight numbers of ACK that the code holds, read as the list of the rules.
use mathlib.Core.List.{List, [], ◌∷◌, ◌++◌}
use mathlib.Core.Path.{◌≡◌, refl, ◌∙◌}
use Prim.Native.Nat.{ℕ, zero, suc, ◌+◌, ◌-◌}
use lib.ListN.{length, get_or, replicate}
use Rattle.rules.specs.Maps.{at}
use Rattle.tables.specs.Rows.{part}
use Rattle.tables.proofs.ListedLaws.{listed_same}
use Rattle.lists.proofs.EntryLaws.{listed-all}
use Rattle.frame.specs.Acks.{eight}

-- 0 stands past the end in any case
get_or-zeros : (l : List ℕ) (m k : ℕ) → get_or (l ++ replicate m 0) k 0 ≡ get_or l k 0
get_or-zeros [] zero k = refl
get_or-zeros [] (suc m) zero = refl
get_or-zeros [] (suc m) (suc k) = get_or-zeros [] m k
get_or-zeros (x ∷ l) m zero = refl
get_or-zeros (x ∷ l) m (suc k) = get_or-zeros l m k

pub at-eight : (l : List ℕ) (k : ℕ) → at (eight l) k ≡ at l k
unfolding eight
at-eight l zero = refl
at-eight l (suc k) = get_or-zeros l (8 - length l) k

pub part-eight : (l : List ℕ) → part (eight l) 0 (length l) ≡ l
unfolding eight
part-eight l =
    listed_same 0 0 (length l) (λ i. get_or (l ++ replicate (8 - length l) 0) i 0) (λ i. get_or l i 0) (λ i h. get_or-zeros l (8 - length l) (0 + i))
    ∙ listed-all l
