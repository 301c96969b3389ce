-- `commands::send` meets its contract: the unit is stored back, and the frame that was written is the next one.
use mathlib.Core.Path.{◌≡◌}
use lib.ListN.{length}
use borrow.Author.Rules.{rules}
use native.Mathlib.Omega.{arith}
use Rattle.std.proofs.lemmas.Grind.{common_steps}
use Rattle.bench.specs.Commands.{sent_len}
use Rattle.bench.proofs.ActLaws.{did-acts, sent-did}
use Rattle.bench.proofs.commands.send.Goals as goal

pub returns : goal.returns
returns c =
    let d = c.args.d.now in
    let s = c.send-sent in
    let units : length d.units ≡ 3 = search rules in
    let frames : length d.frames ≡ 64 = search rules in
    let S = sent-did d c.args.u c.requires.unit units c.requires.room frames c.args.word.now s.result _ (search rules) s.ensures in
    let w : c.map.result ≡ sent_len s.result.1 = grind (arith, common_steps, c.map.ensures.cases, c.map.ensures.variant) in
    did-acts S (rw w at c.keep.ensures) (rw c.answer.ensures)
