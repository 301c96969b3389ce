-- Reading undoes writing, on the code: what a writer writes, the reader reads back.
use mathlib.Core.List.{List}
use mathlib.Core.Option.{some}
use mathlib.Core.Path.{◌≡◌, refl, ap, ◌∙◌}
use Prim.Native.Nat.{ℕ, ◌+◌, ◌*◌}
use lib.ListN.{length, take, drop}
use lib.Seq.{take_at}
use Rattle.rules.specs.Message.{Message, Request, Said, message, request, encode, decode}
use Rattle.rules.specs.Lawful.{Lawful}
use Rattle.rules.specs.Calls.{Check, written}
use Rattle.rules.proofs.CallsLaws.{decide-cases}
use Rattle.rules.proofs.MessageLaws.{decode-encode, length-message, length-request}
use Rattle.std.specs.Prelude as Rust
use Rattle.std.specs.Prelude.{Ok}
use Rattle.frame.specs.declared.Frame.{Frame}
use Rattle.frame.specs.Frame.{frame_of, payload_of}
use Rattle.framewrite.specs.Writing.{Writing, writing, data_checks, data_written, request_checks, request_written, Wrote}

-- what is not refused is written
writing-done : (checks : List Check) (l out : List ℕ) (k : ℕ) → Ok k ≡ (writing checks l out).given → (writing checks l out).output ≡ written out l
writing-done checks l out k =
    decide-cases (λ (w : Writing). Ok k ≡ w.given → w.output ≡ written out l) _ _ checks (λ a r z. cc z) (λ p z. refl)

-- the front of the output is the frame
read_back : (x : Said) → Lawful x → (out after : List ℕ) → after ≡ written out (encode x) → decode (take (length (encode x)) after) ≡ some x
read_back x g out after e = rw (e, take_at (encode x) (drop (length (encode x)) out) (length (encode x)) refl) (decode-encode x g)

module _ (x : Said) (g : Lawful x) (out after : List ℕ) (e : after ≡ written out (encode x)) where
  read-frame : (r : Rust.Option Frame) → r ≡ frame_of (decode (take (length (encode x)) after)) → r ≡ frame_of (some x)
  read-frame r h = h ∙ ap frame_of (read_back x g out after e)

  read-payload : (p : List ℕ) → p ≡ payload_of (decode (take (length (encode x)) after)) → p ≡ payload_of (some x)
  read-payload p h = h ∙ ap payload_of (read_back x g out after e)

-- write_data, and then read and payload of the bytes written
module _ (n : ℕ) (m : Message) (g : Lawful (message m)) (out after : List ℕ) (k : ℕ) (w : Wrote (data_written n m out) (Ok k) after) where
  message-written : after ≡ written out (encode (message m))
  unfolding data_written
  message-written = w.leaves ∙ writing-done (data_checks n m out) (encode (message m)) out k w.gives

  pub read-write-data : (r : Rust.Option Frame) → r ≡ frame_of (decode (take (37 + 4 * length m.ack + length m.text) after)) → r ≡ frame_of (some (message m))
  read-write-data r h = read-frame (message m) g out after message-written r (rw (length-message m) h)

  pub payload-write-data : (p : List ℕ) → p ≡ payload_of (decode (take (37 + 4 * length m.ack + length m.text) after)) → p ≡ m.text
  unfolding payload_of
  payload-write-data p h = read-payload (message m) g out after message-written p (rw (length-message m) h)

-- write_request, and then read
module _ (n : ℕ) (x : Request) (g : Lawful (request x)) (out after : List ℕ) (k : ℕ) (w : Wrote (request_written n x out) (Ok k) after) where
  request-written : after ≡ written out (encode (request x))
  unfolding request_written
  request-written = w.leaves ∙ writing-done (request_checks n x out) (encode (request x)) out k w.gives

  pub read-write-request : (r : Rust.Option Frame) → r ≡ frame_of (decode (take (33 + 4 * length x.ack) after)) → r ≡ frame_of (some (request x))
  read-write-request r h = read-frame (request x) g out after request-written r (rw (length-request x) h)
