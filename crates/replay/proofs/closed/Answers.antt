-- `closed` meets its contract: opening without numbers is refused.
use mathlib.Core.Path.{◌≡◌, ap}
use native.Mathlib.Omega.{arith}
use lib.ListN.{replicate}
use Rattle.std.specs.Prelude.{⊤}
use Rattle.rules.specs.Calls.{open_checks}
use Rattle.rules.specs.Maps.{between}
use Rattle.rules.specs.Sound.{ranges_fit}
use Rattle.answers.specs.Answers.{Answered, answer_of}
use Rattle.state.specs.Opening as state
use Rattle.unit.specs.declared.Unit.{Unit}
use Rattle.unit.specs.Exact.{opened_of}
use Rattle.replay.proofs.closed.Goals as goal

pub returns : goal.returns
unfolding opened_of state.opened_of open_checks ranges_fit between
returns c =
    let o = c.open in
    let refused : answer_of o.result.1 ≡ 2 = ap (λ (x : Unit × Answered ⊤). answer_of x.1) o.ensures.exact in
    ap (λ (u : Unit). replicate 8 u) (o.ensures.closed (λ e. omega arith))
