-- What the writers give, and what they leave in the lent output.
use Rattle.std.specs.Prelude.{not, List, [], ◌∷◌, ◌≡◌, ℕ, ◌+◌, ◌*◌, ltb, length, Ok, Err}
use Rattle.rules.specs.Maps.{between}
use Rattle.rules.specs.Message.{Message, Request, message, request, encode}
use Rattle.rules.specs.Calls.{Check, ◌⇒◌, decide, written}
use Rattle.answers.specs.Answers.{Answered, refusal_of}

pub record Writing : Type 0 where
  pub given : Answered ℕ
  pub output : List ℕ

-- the frame l and its length, where no check refuses: a refusal leaves the output as it was
abbrev pub writing : List Check → List ℕ → List ℕ → Writing
writing checks l out =
    decide checks (λ a. record { given = Err (refusal_of a); output = out })
    (record { given = Ok (length l); output = written out l })

-- n is the count of ACK that the caller names; d bytes are data and o others, and `room` bytes hold the frame
abbrev pub frame_checks : ℕ → ℕ → ℕ → ℕ → List Check
frame_checks o n d room =
    (not (between 2 8 n) ⇒ 5) ∷ (ltb 48 d ⇒ 13) ∷ (ltb room (o + 4 * n + d) ⇒ 16) ∷ []

abbrev pub data_checks : ℕ → Message → List ℕ → List Check
data_checks n m out =
    (not (between 2 8 n) ⇒ 5)
    ∷ (ltb 48 (length m.text) ⇒ 13)
    ∷ (ltb (length out) (37 + 4 * n + length m.text) ⇒ 16)
    ∷ []

unfoldable pub data_written : ℕ → Message → List ℕ → Writing
data_written n m out = writing (data_checks n m out) (encode (message m)) out

abbrev pub request_checks : ℕ → Request → List ℕ → List Check
request_checks n r out = (not (between 2 8 n) ⇒ 5) ∷ (ltb (length out) (33 + 4 * n) ⇒ 16) ∷ []

unfoldable pub request_written : ℕ → Request → List ℕ → Writing
request_written n r out = writing (request_checks n r out) (encode (request r)) out

abbrev pub message_of : ℕ → ℕ → ℕ → List ℕ → ℕ → List ℕ → Message
message_of cid src seq ack buf text = record { cid = cid; src = src; seq = seq; ack = ack; buf = buf; text = text }

abbrev pub request_of : ℕ → ℕ → List ℕ → ℕ → ℕ → Request
request_of cid src ack lsrc lseq = record { cid = cid; src = src; ack = ack; lsrc = lsrc; lseq = lseq }

-- the result, and the whole output
pub record Wrote (w : Writing) (given : Answered ℕ) (after : List ℕ) : Type 0 where
  pub gives : given ≡ w.given
  pub leaves : after ≡ w.output
