-- The frame is the one that `handing` copies.
use Rattle.unit.proofs.Means.{copies_kept}
use Rattle.unit.proofs.Unit.copy.Goals as goal

pub returns : goal.returns
returns c =
    let given = c.copying.ensures in
    copies_kept c.args.self _ _ _ _ given.result given.output
