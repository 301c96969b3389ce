-- `field_at` meets its contract: one law of `Here` for each way out.
use native.Mathlib.Omega.{arith}
use mathlib.Core.Path.{sym, ◌∙◌}
use Rattle.frame.proofs.Here.{short-slice, past_end, other_tag, other_length, cut, a-field}
use Rattle.frame.proofs.field.field_at.Goals as goal
use Rattle.frame.proofs.field.field_at.Goals.{then-s-lt3-via-then-s-lt3, then-s-lt3-via-else-s-lt3+then-s-at, then-s-lt3-via-else-s-lt3+else-s-at+then-s-at-2}
use Rattle.frame.proofs.field.field_at.Goals.{then-not-length_fits-via-then-not-length_fits, then-not-length_fits-via-else-not-length_fits+then-s-start}

pub returns-then-s-lt3 : goal.returns-then-s-lt3
returns-then-s-lt3 c =
    elim c.then-s-lt3.branch [
      | then-s-lt3-via-then-s-lt3 w ↦ short-slice _ _ _ w.if-s-lt3.true
      | then-s-lt3-via-else-s-lt3+then-s-at w ↦ past_end _ _ _ w.if-s-at.true
      | then-s-lt3-via-else-s-lt3+else-s-at+then-s-at-2 w ↦ other_tag _ _ _ (λ e. omega (arith, w.into.ensures))
    ]

pub returns-then-not-length_fits : goal.returns-then-not-length_fits
returns-then-not-length_fits c =
    elim c.then-not-length_fits.branch [
      | then-not-length_fits-via-then-not-length_fits w ↦
          other_length _ _ _ _ c.number_at-n.ensures (sym c.length_fits.ensures ∙ w.if-not-length_fits.true)
      | then-not-length_fits-via-else-not-length_fits+then-s-start w ↦
          cut _ _ _ _ c.number_at-n.ensures c.if-s-lt3.false c.if-s-at.false w.if-s-start.true
    ]

pub returns : goal.returns
returns c =
    a-field _ _ _ _ c.number_at-n.ensures c.if-s-lt3.false c.if-s-at.false (c.if-s-at-2.false ∙ c.into.ensures)
    (sym c.length_fits.ensures ∙ c.if-not-length_fits.false) c.if-s-start.false
