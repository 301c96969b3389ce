-- `commands::request` meets its contract: the frame that was written is the next one.
use mathlib.Core.Path.{◌≡◌}
use lib.ListN.{length}
use borrow.Author.Rules.{rules}
use Rattle.bench.proofs.ActLaws.{did-acts, asked-did}
use Rattle.bench.proofs.commands.request.Goals as goal

pub returns : goal.returns
returns c =
    let d = c.args.d.now in
    let r = c.request-asked in
    let units : length d.units ≡ 3 = search rules in
    let frames : length d.frames ≡ 64 = search rules in
    let A = rw c.number_of.ensures at r.ensures in
    did-acts (asked-did d c.args.u c.requires.unit units c.requires.room frames c.args.k r.result _ A) c.keep.ensures (rw c.answer.ensures)
