-- `Reply::print` meets its contract: each sort of reply has its line, and no line is longer than 84 bytes.
use Prim.Native.Nat.{ℕ}
use native.Mathlib.Nat.{le_trans}
use native.Mathlib.Omega.{arith}
use mathlib.Core.Path.{◌≡◌, ap, ◌∙◌}
use lib.ListN.{length, take, length-take}
use borrow.Author.Rules.{rules}
use Rattle.script.proofs.GatheredLaws.{take-length-take}
use Rattle.bench.specs.Commands.{reply_of}
use Rattle.bench.proofs.PrintLaws.{wrote-some, line-printed, unknown-short, answer-short, taken-short}
use Rattle.bench.proofs.reply.Reply.print.Goals as goal

pub unwrap-requires : goal.unwrap-requires
unwrap-requires c = wrote-some (le_trans (unknown-short c.args.line (search rules)) c.requires) c.unknown_line.ensures

pub unwrap-requires-in-Answers : goal.unwrap-requires-in-Answers
unwrap-requires-in-Answers c = wrote-some (le_trans (answer-short c.args.line c.in-Answers.a (search rules) (search rules)) c.requires) c.answer_line.ensures

pub unwrap-requires-in-Took : goal.unwrap-requires-in-Took
unwrap-requires-in-Took c =
    let m = c.in-Took in
    wrote-some
    (le_trans
    (taken-short c.args.line m.sender m.number c.min.result m.word (search rules) (search rules) (search rules) (omega (arith, c.min.ensures)))
    c.requires)
    c.taken_line.ensures

pub returns-in-Unknown : goal.returns-in-Unknown
unfolding reply_of
returns-in-Unknown c = rw c.in-Unknown.is (line-printed (unknown-short c.args.line (search rules)) c.requires c.unknown_line.ensures c.unwrap.ensures)

pub returns-in-Answers : goal.returns-in-Answers
unfolding reply_of
returns-in-Answers c =
    rw c.in-Answers.is
    (line-printed (answer-short c.args.line c.in-Answers.a (search rules) (search rules)) c.requires c.answer_line.ensures c.unwrap-in-Answers.ensures)

pub returns-in-Took : goal.returns-in-Took
unfolding reply_of
returns-in-Took c =
    let m = c.in-Took in
    let long : length m.word ≡ 48 = search rules in
    let whole : c.min.result ≡ length (take m.len m.word) = omega (arith, c.min.ensures, length-take m.len m.word) in
    let same : take c.min.result m.word ≡ take m.len m.word = ap (λ (n : ℕ). take n m.word) whole ∙ take-length-take m.len m.word in
    rw (m.is, ← same)
    (line-printed
    (taken-short c.args.line m.sender m.number c.min.result m.word (search rules) (search rules) (search rules) (omega (arith, c.min.ensures)))
    c.requires c.taken_line.ensures c.unwrap-in-Took.ensures)
