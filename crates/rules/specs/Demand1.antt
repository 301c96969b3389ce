-- Demand 1 as one statement: what each call may answer, and what a refusal leaves as it was.
use Rattle.std.specs.Prelude.{true, false, List, [], ◌∷◌, ◌≢◌, ◌≡◌, ℕ, replicate}
use Rattle.std.proofs.Math.Option.{Option, none, some}
use Rattle.rules.specs.Maps.{among}
use Rattle.rules.specs.Message.{Said, message, request, decode}
use Rattle.rules.specs.State.{State, closed}
use Rattle.rules.specs.Steps.{with_heard}
use Rattle.rules.specs.Calls.{opening, Result, Call, sends, hears, asks, copies, takes, call}

-- ---- 01's order of the refusals

-- of an arrival, by what the frame says; 3 is for what is not a frame, so that the others are for frames
abbrev pub order_of_said : Option Said → List ℕ
order_of_said none = 1 ∷ 3 ∷ []
order_of_said (some (message p)) = 1 ∷ 4 ∷ 5 ∷ 6 ∷ 7 ∷ 8 ∷ 9 ∷ 10 ∷ 11 ∷ 12 ∷ []
order_of_said (some (request r)) = 1 ∷ 4 ∷ 5 ∷ 6 ∷ 17 ∷ 7 ∷ 18 ∷ []

abbrev pub order_of : Call → List ℕ
order_of (sends d out) = 1 ∷ 13 ∷ 14 ∷ 15 ∷ 12 ∷ 16 ∷ []
order_of (hears l) = order_of_said (decode l)
order_of (asks k out) = 1 ∷ 5 ∷ 18 ∷ 16 ∷ []
order_of (copies x out) = 1 ∷ 18 ∷ 16 ∷ []
order_of (takes out) = 1 ∷ 18 ∷ 16 ∷ []

-- ---- what a refusal leaves

-- the output that the caller lends; an arrival has none
abbrev pub lent : Call → List ℕ
lent (sends d out) = out
lent (hears l) = []
lent (asks k out) = out
lent (copies x out) = out
lent (takes out) = out

-- how many numbers are handed back
abbrev pub handed : Call → ℕ
handed (sends d out) = 2
handed (hears l) = 2
handed (asks k out) = 1
handed (copies x out) = 1
handed (takes out) = 3

-- the answers with which HEARD may change: 9, 10 and 12, on arrival
abbrev pub noting : Call → List ℕ
noting (sends d out) = []
noting (hears l) = 9 ∷ 10 ∷ 12 ∷ []
noting (asks k out) = []
noting (copies x out) = []
noting (takes out) = []

-- ---- the statement

pub record Refusing (s : State) (c : Call) (r : Result) : Type 0 where
  pub output : r.output ≡ lent c
  pub numbers : r.numbers ≡ replicate (handed c) 0
  -- nothing of the unit changes but HEARD, and HEARD only with an answer of `noting`
  pub unit : r.next ≡ with_heard s r.next.heard
  pub heard : among r.answer (noting c) ≡ false → r.next ≡ s

pub record Demand1 (s : State) (c : Call) : Type 0 where
  pub answers : among (call s c).answer (0 ∷ order_of c) ≡ true
  pub refuses : (call s c).answer ≢ 0 → Refusing s c (call s c)

pub record OpeningDemand1 (i n w cid : ℕ) (first : ℕ → ℕ) : Type 0 where
  pub answers : among (opening i n w cid first).answer (0 ∷ 2 ∷ []) ≡ true
  pub refuses : (opening i n w cid first).answer ≢ 0 → (opening i n w cid first).unit ≡ closed
