-- `read` meets its contract.
use native.Mathlib.Omega.{arith}
use mathlib.Core.Bool.{false≢true}
use mathlib.Core.Path.{sym, ap, ◌∙◌}
use Rattle.std.specs.Result.{result_ok}
use Rattle.rules.specs.Fields.{table, tags_of, fits}
use Rattle.frame.proofs.Lines.{number-is, number-of-none}
use Rattle.frame.proofs.Outs.{not-a-frame}
use Rattle.frame.proofs.Reading.{no-kind}
use Rattle.frame.proofs.read.Goals as goal
use Rattle.frame.proofs.read.Goals.{then-not-well_formed-via-then-not-well_formed, then-not-well_formed-via-else-not-well_formed+then-s-ne1}

pub returns-then-s-lt8 : goal.returns-then-s-lt8
returns-then-s-lt8 c = not-a-frame c.args.s.now (λ s. omega arith)

pub returns-in_err-kind : goal.returns-in_err-kind
returns-in_err-kind c =
    let other = number-of-none _ (sym c.in_err-kind.was ∙ c.ok.ensures.value ∙ ap result_ok c.try_from.ensures) in
    c.from_residual.ensures ∙ not-a-frame c.args.s.now (no-kind _ other.0 other.1)

pub returns-then-not-well_formed : goal.returns-then-not-well_formed
returns-then-not-well_formed c =
    let l = c.args.s.now in
    let kind = number-is _ _ (sym c.in_ok-kind.was ∙ c.ok.ensures.value ∙ ap result_ok c.try_from.ensures) in
    elim c.then-not-well_formed.branch [
      | then-not-well_formed-via-then-not-well_formed w ↦
          not-a-frame l
          (λ s. false≢true (sym w.if-not-well_formed.true ∙ c.well_formed-2.ensures ∙ ap (λ k. fits table (tags_of table k) l) (sym kind) ∙ s.fit))
      | then-not-well_formed-via-else-not-well_formed+then-s-ne1 w ↦ not-a-frame l (λ s. w.if-s-ne1.true s.edition-is)
    ]
