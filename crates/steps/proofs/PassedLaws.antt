-- What an arrival has passed, and what its refusal says.
use Rattle.std.specs.Prelude.{true, List, ◌≡◌, ⊤, ℕ, ◌<◌, eqb, Option, Some, None, Ok, Err}
use mathlib.Core.Option.{none, some}
use mathlib.Core.Option as maybe
use mathlib.Core.Path.{refl, sym, ap, subst, ◌∙◌}
use native.Mathlib.Omega.{arith}
use Rattle.rules.specs.Maps.{between}
use Rattle.rules.specs.Calls.{Check, decide}
use Rattle.rules.specs.Message.{Said, message, request, decode}
use Rattle.rules.proofs.MapsLaws.{and_right, between-low, between-high}
use Rattle.rules.proofs.LimitsLaws.{decode-limits}
use Rattle.answers.specs.declared.Refusal.{Refusal}
use Rattle.answers.specs.Answers.{Answered, number_of, refusal_of, judged}
use Rattle.answers.proofs.AnswersLaws.{Numbered, decide-numbered}
use Rattle.state.specs.declared.Core.{Core}
use Rattle.frame.specs.declared.Head.{Head}
use Rattle.frame.specs.declared.Data.{Data}
use Rattle.frame.specs.declared.Frame.{Frame}
use Rattle.frame.specs.declared.Frame.TheVariants as frame
use Rattle.frame.specs.Frame.{frame_of}
use Rattle.steps.specs.Checks.{FromUnit, of_group}

pub from-unit : (c : Core) (h : Head) → of_group c h ≡ true → FromUnit c h
unfolding of_group
from-unit c h e =
    let unit : between 1 c.n h.src ≡ true = and_right (eqb h.n c.n) (between 1 c.n h.src) e in
    record { first = between-low 1 c.n h.src unit; unit = between-high 1 c.n h.src unit }

-- a frame's data are short
abbrev short : Option Frame → Type 0
short None = ⊤
short (Some (frame.Data f)) = f.len < 256
short (Some (frame.Request f)) = ⊤

pub frame-short : (l : List ℕ) (f : Data) → Some (frame.Data f) ≡ frame_of (decode l) → f.len < 256
unfolding frame_of
frame-short l f e = subst short (sym e) (go (decode l) refl)
  where
    go : (o : maybe.Option Said) → decode l ≡ o → short (frame_of o)
    go none h = tt
    go (some (message p)) h = omega (arith, (decode-limits l p h).short)
    go (some (request r)) h = tt

-- checks made by a function of their own: its refusal tells what they decide
module _ {B : Type 0} (refused : ℕ → B) (done : B) where
  by-answer : Answered ⊤ → B
  by-answer (Ok x) = done
  by-answer (Err r) = refused (number_of r)

  pub refused-decides : (l : List Check) → Numbered l → (r : Refusal) → ◌≡◌ {A = Answered ⊤} (judged l tt) (Err r) → decide l refused done ≡ refused (number_of r)
  unfolding by-answer
  refused-decides l n r h =
      sym (decide-numbered by-answer (λ a. Err (refusal_of a)) (Ok tt) refused (λ a e. ap refused e) l n) ∙ ap by-answer h
