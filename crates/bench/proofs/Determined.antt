-- Any two results that a contract of the bench allows are equal, and so is every byte of the output.
use mathlib.Core.List.{List}
use mathlib.Core.Path.{◌≡◌, sym, ◌∙◌, ap₂}
use Prim.Native.Nat.{ℕ}
use Rattle.script.specs.Items.{Command}
use Rattle.script.specs.Reader.{Read}
use Rattle.bench.specs.declared.desk.Desk.{Desk}
use Rattle.bench.specs.declared.reading.Stage.{Stage}
use Rattle.bench.specs.declared.reading.Bench.{Bench}
use Rattle.bench.specs.declared.reply.Reply.{Reply}
use Rattle.bench.specs.Prints.{Prints, PrintsLine}
use Rattle.bench.specs.Commands.{Acts}
use Rattle.bench.specs.Reading.{Said, Stepped, Steps, Reads, Starts, Ends}

prints-determined : {text out after other : List ℕ} {m k : ℕ} → Prints text out m after → Prints text out k other → (m ≡ k) × (after ≡ other)
prints-determined a b = (a.count ∙ sym b.count, a.bytes ∙ sym b.bytes)

pub act-determined : {d : Desk} {c : Command} {e f : Desk} {r q : Reply} → Acts d c e r → Acts d c f q → (e ≡ f) × (r ≡ q)
act-determined a b = (a.next ∙ sym b.next, a.reply ∙ sym b.reply)

pub print-determined : {text out after other : List ℕ} {m k : ℕ} → PrintsLine text out m after → PrintsLine text out k other → (m ≡ k) × (after ≡ other)
print-determined a b = prints-determined a.prints b.prints

pub step-determined : {s : Stepped} {out after other : List ℕ} {r q : Stage × ℕ} → Steps s out r after → Steps s out q other → (r ≡ q) × (after ≡ other)
step-determined a b =
    let printed = prints-determined a.text b.text in
    (ap₂ (λ (s : Stage) (n : ℕ). (s, n)) (a.next ∙ sym b.next) printed.0, printed.1)

pub feed-determined : {s : Said} {meant : Read} {most : ℕ} {out after other : List ℕ} {e f : Bench} {m k : ℕ}
    → Reads s meant most out e m after → Reads s meant most out f k other → (e ≡ f) × (m ≡ k) × (after ≡ other)
feed-determined a b =
    let printed = prints-determined a.tells.text b.tells.text in
    (a.tells.next ∙ sym b.tells.next, printed.0, printed.1)

pub new-determined : {r q : Bench} → Starts r → Starts q → r ≡ q
new-determined a b = a.exact ∙ sym b.exact

pub end-determined : {b : Bench} {out after other : List ℕ} {m k : ℕ} → Ends b out m after → Ends b out k other → (m ≡ k) × (after ≡ other)
end-determined a b = prints-determined a.text b.text
