-- `with_bytes` meets its contract: the fold of the sum over the bytes is what the definition says.
use borrow.Author.Rules.{rules}
use mathlib.Core.Path.{◌≡◌, ◌∙◌}
use Rattle.std.specs.Prelude.{fold}
use Rattle.drive.specs.Run.{mixed}
use Rattle.drive.proofs.Sums.{bytes_fold}
use Rattle.drive.proofs.with_bytes.Goals as goal

pub returns : goal.returns
returns c =
    let folded : c.fold.result ≡ fold mixed c.args.before c.args.s.now = search rules in
    folded ∙ bytes_fold c.args.before c.args.s.now
