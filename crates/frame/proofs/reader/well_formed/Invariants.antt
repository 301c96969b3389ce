-- `well_formed` meets its contract. The invariant: the test of the tags left, after the last field passed, is the whole test.
use Prim.Native.Nat.{◌+◌}
use mathlib.Core.Path.{◌≡◌}
use Rattle.frame.specs.Table.{code_of}
use Rattle.frame.proofs.Turn.{Walked}
use Rattle.frame.proofs.reader.well_formed.Given as goal

abbrev pub invariant-loop-tag : goal.invariant-loop-tag
invariant-loop-tag l = (l.reader.frame.now ≡ l.s) × Walked l.s (code_of l.kind) l.reader.at (l.tag-index + 1)
