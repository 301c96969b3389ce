-- What the reader for C hosts answers, and what it leaves in the lent numbers.
use Rattle.std.specs.Prelude.{List, [], ◌∷◌, ◌++◌, ◌≡◌, ℕ, ltb, length, Option, Some, None, is_none}
use Rattle.rules.specs.Message.{decode}
use Rattle.rules.specs.Calls.{◌⇒◌, decide, written}
use Rattle.frame.specs.declared.Head.{Head}
use Rattle.frame.specs.declared.Frame.{Frame}
use Rattle.frame.specs.declared.Frame.TheVariants.{Data, Request}
use Rattle.frame.specs.Frame.{frame_of}

-- kind, CID, SRC, SEQ, n, ACK_1 to ACK_8, BUF, LSRC, LSEQ, start and length of the data; 0 for what the kind lacks
abbrev pub eighteen : ℕ → Head → ℕ → List ℕ → List ℕ
eighteen kind h seq rest = kind ∷ h.cid ∷ h.src ∷ seq ∷ h.n ∷ h.ack ++ rest

abbrev pub handed : Frame → List ℕ
handed (Data d) = eighteen 1 d.head d.seq (d.buf ∷ 0 ∷ 0 ∷ d.start ∷ d.len ∷ [])
handed (Request r) = eighteen 2 r.head 0 (0 ∷ r.lsrc ∷ r.lseq ∷ 0 ∷ 0 ∷ [])

pub record Handed : Type 0 where
  pub answer : ℕ
  pub numbers : List ℕ

abbrev all_handed : Option Frame → List ℕ
all_handed None = []
all_handed (Some f) = handed f

-- 3 where l is no frame, 16 where there is no room for 18; both leave the numbers as they were
unfoldable pub exported : List ℕ → List ℕ → Handed
exported l out =
    let f = frame_of (decode l) in
    decide ((is_none f ⇒ 3) ∷ (ltb (length out) 18 ⇒ 16) ∷ [])
    (λ a. record { answer = a; numbers = out })
    (record { answer = 0; numbers = written out (all_handed f) })

pub record Exported (l out : List ℕ) (answer : ℕ) (after : List ℕ) : Type 0 where
  pub answers : answer ≡ (exported l out).answer
  pub leaves : after ≡ (exported l out).numbers
