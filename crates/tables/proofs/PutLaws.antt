-- What fits of a list, copied into another from a place on, is all of it stored there.
use mathlib.Core.List.{List, ◌++◌}
use mathlib.Core.Path.{◌≡◌, refl, sym, ap, ◌∙◌}
use Prim.Native.Nat.{ℕ, ◌+◌, ◌-◌, ◌≤◌}
use native.Mathlib.Omega.{arith}
use lib.ListN.{length, take, drop, length-take}
use lib.Seq.{sets, sets-eq, take_all}
use borrow.Rule.Slice.PartMut.{put_mid}
use Rattle.std.proofs.lemmas.Slice.{put_mid-paste}
use Rattle.rules.proofs.StoresLaws.{sets-past, sets-front}

module _ {A : Type 0} (d xs : List A) (at : ℕ) where
  pub put_past : length d ≤ at → d ≡ sets d at xs
  put_past h = sym (sets-past d at xs h)

  pub put_fitting : (k : ℕ) (now : List A) → at ≤ length d → now ≡ take (length d - at) xs → k ≡ length now → put_mid at k d now ≡ sets d at xs
  put_fitting k now h e i =
      let fits : at + length now ≤ length d = omega (arith, ap length e, length-take (length d - at) xs) in
      put_mid-paste at k d now now (length now) refl (sym i) refl
      ∙ ap (λ (l : List A). take at d ++ l ++ drop (at + length now) d) (take_all (length now) now (omega arith))
      ∙ sym (sets-eq now d at fits)
      ∙ ap (sets d at) e
      ∙ sets-front d at xs (length d - at) (omega arith)
