-- `commands::act` meets its contract: what does not exist does nothing, and each command has its function.
use mathlib.Core.Path.{sym, ◌∙◌}
use Rattle.bench.specs.Commands.{names_known}
use Rattle.bench.proofs.NamesLaws.{names-none, groups_none, unreadable_none, ignored-acts, unit-named, can-hear}
use Rattle.bench.proofs.commands.act.Goals as goal

pub returns-in_default : goal.returns-in_default
returns-in_default c = rw c.in_default.is (ignored-acts _ c.requires.fits (unreadable_none _))

pub returns-then-not-names : goal.returns-then-not-names
returns-then-not-names c =
    let d = c.args.d.now in
    rw c.in-Some.is (ignored-acts d c.requires.fits (names-none d c.in-Some.shown c.args.text.now (sym c.names.ensures ∙ c.if-not-names.true)))

pub send-requires : goal.send-requires
unfolding names_known
send-requires c =
    let A = c.requires in
    let named = rw c.in-Send.is at (sym c.names.ensures ∙ c.if-not-names.false) in
    record { unit = unit-named c.args.d.now A.fits _ named; room = A.room }

pub arrive-requires : goal.arrive-requires
unfolding names_known
arrive-requires c =
    let named = rw c.in-Arrive.is at (sym c.names.ensures ∙ c.if-not-names.false) in
    can-hear c.args.d.now c.requires.fits _ _ named

pub request-requires : goal.request-requires
unfolding names_known
request-requires c =
    let A = c.requires in
    let named = rw c.in-Request.is at (sym c.names.ensures ∙ c.if-not-names.false) in
    record { unit = unit-named c.args.d.now A.fits _ named; room = A.room }

pub take-requires : goal.take-requires
unfolding names_known
take-requires c =
    let named = rw c.in-Take.is at (sym c.names.ensures ∙ c.if-not-names.false) in
    unit-named c.args.d.now c.requires.fits _ named

pub returns-in-Send : goal.returns-in-Send
returns-in-Send c = rw (c.in-Some.is, c.in-Send.is, ← c.last.ensures) c.send.ensures

pub returns-in-Arrive : goal.returns-in-Arrive
returns-in-Arrive c = rw (c.in-Some.is, c.in-Arrive.is) c.arrive.ensures

pub returns-in-Request : goal.returns-in-Request
returns-in-Request c = rw (c.in-Some.is, c.in-Request.is) c.request.ensures

pub returns-in-Take : goal.returns-in-Take
returns-in-Take c = rw (c.in-Some.is, c.in-Take.is) c.take.ensures

pub returns-in-Group : goal.returns-in-Group
returns-in-Group c = rw (c.in-Some.is, c.in-Group.is) (ignored-acts _ c.requires.fits (groups_none _ _ _))
