-- What `checked` answers tells whether the unit is sound.
use Rattle.std.specs.Prelude.{Bool, true, false, not, cond, List, ◌≡◌, ⊤, ℕ, Ok, Err}
use mathlib.Core.Path.{refl, sym, ◌∙◌}
use Rattle.answers.specs.declared.Refusal.TheVariants.{Unsound}
use Rattle.answers.specs.Answers.{Answered, judged}
use Rattle.state.specs.declared.Core.{Core}
use Rattle.state.specs.Soundness.{sound_of, not_sound}

module _ (c : Core) (acks : List ℕ) (r : Answered ⊤) (given : r ≡ judged (not_sound c acks) tt) where
  pub checked-sound : (x : ⊤) → r ≡ Ok x → sound_of c acks ≡ true
  checked-sound x e = go (sound_of c acks) refl (sym e ∙ given)
    where
      go : (t : Bool) → sound_of c acks ≡ t → ◌≡◌ {A = Answered ⊤} (Ok x) (cond (not t) (Err Unsound) (Ok tt)) → sound_of c acks ≡ true
      go true s h = s
      go false s h = search
