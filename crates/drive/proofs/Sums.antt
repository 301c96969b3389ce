-- A sum over a list is a fold.
use mathlib.Core.List.{List, [], ◌∷◌}
use mathlib.Core.Path.{◌≡◌, refl}
use Prim.Native.Nat.{ℕ}
use Rattle.std.specs.Prelude.{fold}
use Rattle.drive.specs.Run.{mixed, with_bytes}

pub bytes_fold : (s : ℕ) (l : List ℕ) → fold mixed s l ≡ with_bytes s l
bytes_fold s [] = refl
bytes_fold s (x ∷ l) = bytes_fold (mixed s x) l
