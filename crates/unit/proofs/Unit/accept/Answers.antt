-- ACK, data and numbers of a message that has come, and the kept frames after it.
use Rattle.unit.proofs.Writing.{stored_is}
use Rattle.unit.proofs.Unit.accept.Goals as goal

pub returns : goal.returns
returns c =
    stored_is c.args.self.now _ _ _ _ _ _
    (record {
      acks = c.put_ack.ensures;
      bytes = c.put_text.ensures;
      frames = c.drop_frames.ensures;
      core = c.settled-self.ensures;
    })
