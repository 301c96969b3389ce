-- At index q what is left to do from there on decides.
use mathlib.Core.Path.{◌≡◌}
use mathlib.Core.List.{List}
use Prim.Native.Nat.{ℕ, ◌-◌}
use Rattle.lists.specs.declared.Order.{Order}
use Rattle.lists.specs.Settle.{acked_at, acked_from}
use Rattle.lists.proofs.PreackLaws.{Turn}
use Rattle.lists.proofs.preack.Said.of.Given as goal

-- the order r at index q, of which `first` was the order before the loop
abbrev pub Here : ℕ → ℕ → List ℕ → List ℕ → ℕ → Order → Order → ℕ → Type 0
Here j low seqs acks end first r q = Turn end q r × (acked_at (end - q) q r j low seqs acks ≡ acked_from first j low seqs acks)

abbrev pub invariant-loop-q : goal.invariant-loop-q
invariant-loop-q l = Here l.j l.low l.self.seqs.now l.self.acks.now l.end l.initial.o.order l.o.order l.q
