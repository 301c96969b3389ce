-- Any two results that a contract allows are equal, where the contract is a record; the other contracts are equations.
use mathlib.Core.List.{List}
use mathlib.Core.Path.{◌≡◌, sym, ◌∙◌}
use Prim.Native.Nat.{ℕ}
use Rattle.std.specs.Prelude.{Option}
use Rattle.script.specs.Lines.{Found}
use Rattle.script.specs.Gathered.{Pushed}
use Rattle.script.specs.Written.{Wrote}
use Rattle.script.specs.declared.collector.Collector.{Collector}

pub found-determined : {s : List ℕ} {c : ℕ} {r q : Option ℕ} → Found s c r → Found s c q → r ≡ q
found-determined x y = x.place ∙ sym y.place

pub pushed-determined : {c r q : Collector} {b : ℕ} → Pushed c b r → Pushed c b q → r ≡ q
pushed-determined x y = x.exact ∙ sym y.exact

pub wrote-determined : {out text after then : List ℕ} {r q : Option ℕ} → Wrote out text r after → Wrote out text q then → (r ≡ q) × (after ≡ then)
wrote-determined x y = (x.count ∙ sym y.count, x.bytes ∙ sym y.bytes)
