-- `commands::take` meets its contract: a refusal gives its answer, a message its sender, number and word.
use mathlib.Core.Path.{◌≡◌, refl}
use lib.ListN.{length}
use borrow.Author.Rules.{rules}
use Rattle.bench.proofs.ActLaws.{did-acts, refused_did, took-did}
use Rattle.bench.proofs.commands.take.Goals as goal

pub returns-in-Err : goal.returns-in-Err
returns-in-Err c =
    let d = c.args.d.now in
    let r = c.take-taken in
    let units : length d.units ≡ 3 = search rules in
    did-acts (refused_did d c.args.u c.requires units r.result _ r.ensures c.in-Err.refusal c.in-Err.is) refl (rw c.from.ensures)

pub returns-in-Ok : goal.returns-in-Ok
returns-in-Ok c =
    let d = c.args.d.now in
    let r = c.take-taken in
    let units : length d.units ≡ 3 = search rules in
    did-acts (took-did d c.args.u c.requires units r.result _ r.ensures c.in-Ok.t c.in-Ok.is) refl refl
