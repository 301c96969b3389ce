-- Any two results that the contract of a public function allows are equal.
use mathlib.Core.List.{List}
use mathlib.Core.Path.{◌≡◌, sym, ◌∙◌}
use Prim.Native.Nat.{ℕ}
use Rattle.rules.specs.Message.{decode}
use Rattle.answers.specs.Answers.{Answered}
use Rattle.state.specs.declared.Core.{Core}
use Rattle.steps.specs.declared.Arrival.{Arrival}
use Rattle.steps.specs.declared.Sending.{Sending}
use Rattle.steps.specs.Arrival.{arrival_of}
use Rattle.steps.specs.Sending.{sending_of}

pub arrive-determined : (c : Core) (acks l : List ℕ) (r q : Core × Answered Arrival) → r ≡ arrival_of c acks (decode l) → q ≡ arrival_of c acks (decode l) → r ≡ q
arrive-determined c acks l r q a b = a ∙ sym b

pub send-determined : (c : Core) (acks : List ℕ) (len room : ℕ) (r q : Answered Sending) → r ≡ sending_of c acks len room → q ≡ sending_of c acks len room → r ≡ q
send-determined c acks len room r q a b = a ∙ sym b
