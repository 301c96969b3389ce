-- Nothing moves by 0 slots.
use native.Mathlib.Omega.{arith}
use Rattle.store.specs.Arrays.{without_frames}
use Rattle.store.proofs.DownLaws.{down-none}
use Rattle.store.proofs.arrays.drop_frames.Goals as goal

pub returns-then-gone-eq0 : goal.returns-then-gone-eq0
unfolding without_frames
returns-then-gone-eq0 c = down-none _ _ (omega arith)
