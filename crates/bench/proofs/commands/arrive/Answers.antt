-- `commands::arrive` meets its contract: the frame is the one in its slot, and the unit that it arrives at is stored back.
use mathlib.Core.Path.{◌≡◌, refl}
use lib.ListN.{length}
use borrow.Author.Rules.{rules}
use Rattle.bench.proofs.ActLaws.{did-acts, arrived-did}
use Rattle.bench.proofs.commands.arrive.Goals as goal

pub returns : goal.returns
returns c =
    let d = c.args.d.now in
    let H = c.requires in
    let r = c.arrive-arrived in
    let units : length d.units ≡ 3 = search rules in
    did-acts (arrived-did d c.args.u H.unit units c.args.f H.low H.high r.result r.ensures) refl (rw c.answer.ensures)
