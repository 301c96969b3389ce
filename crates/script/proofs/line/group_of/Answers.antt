-- `line::group_of` meets its contract: an unreadable line, one that names no group, and one that does.
use mathlib.Core.Bool.{Bool, true, false, cond}
use mathlib.Core.Path.{◌≡◌, refl, ◌∙◌}
use Rattle.std.specs.Prelude.{Option, Some, None}
use Rattle.std.specs.Bool.{then_some}
use Rattle.script.specs.Shown.{group_in}
use Rattle.script.specs.declared.line.Line.{Line}
use Rattle.script.specs.declared.line.Line.TheVariants.{Group, Send, Arrive, Request, Take}
use Rattle.script.specs.declared.line.Group.{Group as Opening}
use Rattle.script.proofs.line.group_of.Goals as goal

other : (l : Line) → ((g : Opening) → l ≡ Group g → ⊥) → ◌≡◌ {A = Option Opening} None (group_in (Some l))
unfolding group_in
other (Group g) h = absurd (h g refl)
other (Send u len) h = refl
other (Arrive u f) h = refl
other (Request u k) h = refl
other (Take u) h = refl

ranged : (t : Bool) (g : Opening) → then_some t g ≡ cond t (Some g) None
ranged true g = refl
ranged false g = refl

pub returns-in_err-g : goal.returns-in_err-g
unfolding group_in
returns-in_err-g c = rw c.in_err-g.was c.from_residual.ensures

pub returns-in_default : goal.returns-in_default
returns-in_default c = rw c.in_ok-g.was (other _ c.in_default.not-Group)

pub returns : goal.returns
unfolding group_in
returns c = rw (c.in_ok-g.was, c.in-Group.is, ← c.in_range.ensures) (c.then_some.ensures ∙ ranged _ _)
