-- What the reader hands back of what the rules read.
use Rattle.std.specs.Prelude.{cond, List, [], ℕ, ◌+◌, ◌*◌, length, take, drop, Option, Some, None}
use Rattle.std.proofs.Math.Option.{none, some}
use Rattle.std.proofs.Math.Option as maybe
use Rattle.rules.specs.Bytes.{number}
use Rattle.rules.specs.Message.{Message, Request, Said, message, request, no_zero}
use Rattle.frame.specs.declared.Head.{Head}
use Rattle.frame.specs.declared.Frame.{Frame}
use Rattle.frame.specs.declared.Data.{Data as Shown}
use Rattle.frame.specs.declared.Request.{Request as Asked}
use Rattle.frame.specs.Acks.{eight, acks_at}

-- CID, SRC and the numbers of ACK
abbrev pub head_of : ℕ → ℕ → List ℕ → Head
head_of cid src ack = record { cid = cid; src = src; n = length ack; ack = eight ack }

-- what the frame of a message says, and that of a request
abbrev pub data_of : Message → Shown
data_of m =
    record {
      head = head_of m.cid m.src m.ack;
      seq = m.seq;
      buf = m.buf;
      start = 37 + 4 * length m.ack;
      len = length m.text;
    }

abbrev pub request_of : Request → Asked
request_of r = record { head = head_of r.cid r.src r.ack; lsrc = r.lsrc; lseq = r.lseq }

unfoldable pub frame_of : maybe.Option Said → Option Frame
frame_of none = None
frame_of (some (message m)) = Some (Frame.Data (data_of m))
frame_of (some (request r)) = Some (Frame.Request (request_of r))

-- what frames of both kinds say, the length of ACK standing at p: CID at 11, SRC at 18; none where an ACK is 0
unfoldable pub head_at : List ℕ → ℕ → Option Head
head_at l p =
    cond (no_zero (acks_at l p))
    (Some (head_of (number (take 4 (drop 11 l))) (number (take 1 (drop 18 l))) (acks_at l p)))
    None

-- the data: of a message, and none otherwise
unfoldable pub payload_of : maybe.Option Said → List ℕ
payload_of none = []
payload_of (some (message m)) = m.text
payload_of (some (request r)) = []
