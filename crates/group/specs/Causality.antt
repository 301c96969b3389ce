-- Causality, from what the units of a run did (01, "Steps").
use mathlib.Core.List.{List, [], ◌∷◌, ◌++◌, Memᴰ as Mem}
use Rattle.std.specs.Prelude.{◌≡◌, ℕ}
use Rattle.rules.specs.Message.{Message}
use Rattle.group.specs.Runs.{Index, Did, sent, accepted, Group}

-- x stands in the list, and y somewhere behind it
pub data Ahead {A : Type 0} (x y : A) : List A → Type 0 where
  here : {z : A} {l : List A} → x ≡ z → Mem y l → Ahead x y (z ∷ l)
  there : {z : A} {l : List A} → Ahead x y l → Ahead x y (z ∷ l)

-- the message that an entry of a log is about
abbrev pub about : Did → Message
about (sent m f) = m
about (accepted m) = m

-- the messages sent, the oldest first
abbrev pub sent_in : List Did → List Message
sent_in [] = []
sent_in (sent m f ∷ l) = sent_in l ++ (m ∷ [])
sent_in (accepted m ∷ l) = sent_in l

-- In a group of n units p causally precedes q: q's sender k had sent or accepted p before it sent q, or a chain of such steps
-- leads from p to q. A log has the newest first, so what came before stands behind.
pub data Cause (n : ℕ) (g : Group) : Message → Message → Type 0 where
  direct : (p q : Message) (f : List ℕ) (e : Did) (k : ℕ) → Index n k → about e ≡ p → Ahead (sent q f) e (g.log k) → Cause n g p q
  chain : (p q r : Message) → Cause n g p q → Cause n g q r → Cause n g p r
