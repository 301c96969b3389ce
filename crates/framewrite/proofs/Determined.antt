-- Any two results that the contract of a writer allows are equal.
use mathlib.Core.List.{List}
use mathlib.Core.Path.{◌≡◌, sym, ◌∙◌}
use Prim.Native.Nat.{ℕ}
use Rattle.rules.specs.Message.{Message, Request}
use Rattle.answers.specs.Answers.{Answered}
use Rattle.framewrite.specs.Writing.{Writing, Wrote, data_written, request_written}

-- the result, and every byte of the lent output
wrote-determined : (w : Writing) (r q : Answered ℕ) (after other : List ℕ) → Wrote w r after → Wrote w q other → (r ≡ q) × (after ≡ other)
wrote-determined w r q after other a b = (a.gives ∙ sym b.gives, a.leaves ∙ sym b.leaves)

pub write-data-determined : (n : ℕ) (m : Message) (out : List ℕ) (r q : Answered ℕ) (after other : List ℕ)
    → Wrote (data_written n m out) r after → Wrote (data_written n m out) q other → (r ≡ q) × (after ≡ other)
write-data-determined n m out = wrote-determined (data_written n m out)

pub write-request-determined : (n : ℕ) (x : Request) (out : List ℕ) (r q : Answered ℕ) (after other : List ℕ)
    → Wrote (request_written n x out) r after → Wrote (request_written n x out) q other → (r ≡ q) × (after ≡ other)
write-request-determined n x out = wrote-determined (request_written n x out)
