-- The frame is kept before the oldest are dropped.
use mathlib.Core.List.{List}
use mathlib.Core.Path.{ap, ◌∙◌}
use Prim.Native.Nat.{ℕ}
use Rattle.store.specs.Arrays.{without_frames}
use Rattle.unit.proofs.Writing.{stored_is}
use Rattle.unit.proofs.Unit.keep.Goals as goal

pub returns : goal.returns
returns c =
    stored_is c.args.self.now _ _ _ _ _ _
    (record {
      acks = c.put_ack.ensures;
      bytes = c.put_text.ensures;
      frames = c.drop_frames.ensures ∙ ap (λ (l : List ℕ). without_frames l c.args.s.gone) c.put_frame.ensures;
      core = c.settled-self.ensures;
    })
