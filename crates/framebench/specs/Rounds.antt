-- The messages that are written and read back, and the sums of what is read.
use Rattle.std.specs.Prelude.{ℕ, zero, suc, ◌+◌, ◌%◌, ◌^◌, take, replicate, slice_index}
use Rattle.rules.specs.Message.{Message}
use Rattle.frame.specs.declared.Data.{Data}
use Rattle.frame.specs.Frame.{data_of}

-- message i: n goes round 2 to 8 and the data round 0 to 48 bytes
abbrev pub message_of : ℕ → Message
message_of i =
    record {
      cid = i;
      src = i % 256;
      seq = i % 4294967294 + 1;
      ack = take (i % 7 + 2) (replicate 8 (i % 4294967294 + 1));
      buf = i % 65536;
      text = take (i % 49) (replicate 48 120);
    }

abbrev pub plus : ℕ → ℕ → ℕ
plus a b = (a + b) % 2 ^ 32

abbrev pub sum_of : Data → ℕ
sum_of d = plus (plus d.head.cid d.head.src) (plus (plus d.seq (slice_index d.head.ack 0)) (plus d.buf (d.head.n + d.len)))

-- the sums of the first messages
abbrev pub total_of : ℕ → ℕ
total_of zero = 0
total_of (suc i) = plus (total_of i) (sum_of (data_of (message_of i)))
