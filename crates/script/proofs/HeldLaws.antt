-- A number that is too large for 32 bits does on the desk what it does as 32 bits hold it: nothing has that number.
use mathlib.Core.Bool.{Bool, true, false, and-false}
use mathlib.Core.List.{List}
use mathlib.Core.Path.{◌≡◌, refl, sym, ap, subst, ◌∙◌}
use Prim.Native.Nat.{ℕ, ◌<◌, ◌≤◌}
use native.Mathlib.Omega.{arith}
use lib.ListN.{length}
use Rattle.rules.specs.Maps.{at}
use Rattle.rules.specs.Message.{last}
use Rattle.rules.specs.State.{State}
use Rattle.rules.specs.Calls.{Result, refusal, make_request, make_checks}
use Rattle.rules.specs.Sound.{sound}
use Rattle.rules.proofs.MapsLaws.{Lt?, lt, ge, lt?}
use Rattle.rules.proofs.SoundLaws.{sound-facts}
use Rattle.script.specs.Items.{Command, groups, sends, arrives, requests, takes, unreadable}
use Rattle.script.specs.Desk.{Desk, answers, has_unit, has_frame, refused, called, wrote, lent, act}
use Rattle.script.specs.Shown.{held}
use Rattle.script.proofs.ItemsLaws.{above-between}

-- the command, with its numbers as 32 bits hold them
abbrev pub held_in : Command → Command
held_in (groups n w) = groups (held n) (held w)
held_in (sends u word) = sends (held u) word
held_in (arrives u f) = arrives (held u) (held f)
held_in (requests u k) = requests (held u) (held k)
held_in (takes u) = takes (held u)
held_in unreadable = unreadable

-- ---- a number is held as it is, or it is past whatever has a number

pub held-cases : (P : ℕ → Type 0) (x : ℕ) → P x → (last < x → P last) → P (held x)
held-cases P x here past = go (lt? last x)
  where
    go : {t : Bool} → Lt? last x t → P (held x)
    go (lt h) = let e : last ≡ held x = omega arith in subst P e (past h)
    go (ge h) = let e : x ≡ held x = omega arith in subst P e here

-- ---- requests

module _ (s : State) (out : List ℕ) where
  asks-closed : (k : ℕ) → sound s ≡ false → make_request s k out ≡ refusal 1 s out 1
  unfolding make_request make_checks
  asks-closed k e = rw e

  asks-nobody : (k : ℕ) → 8 < k → sound s ≡ true → make_request s k out ≡ refusal 1 s out 5
  unfolding make_request make_checks
  asks-nobody k h e = rw (e, above-between 1 s.n k (omega (arith, (sound-facts s e).ranges.n-high)))

  pub asks-past : (k j : ℕ) → 8 < k → 8 < j → make_request s k out ≡ make_request s j out
  asks-past k j h i = go (sound s) refl
    where
      go : (t : Bool) → sound s ≡ t → make_request s k out ≡ make_request s j out
      go true e = asks-nobody k h e ∙ sym (asks-nobody j i e)
      go false e = asks-closed k e ∙ sym (asks-closed j e)

-- ---- commands

module _ (d : Desk) (units : d.n < last) (frames : length d.frames < last) where
  no-unit : (u : ℕ) → last ≤ u → has_unit d u ≡ false
  no-unit u h = above-between 1 d.n u (omega arith)

  no-frame : (f : ℕ) → last ≤ f → has_frame d f ≡ false
  no-frame f h = above-between 1 (length d.frames) f (omega arith)

  -- a command that names no unit of the desk
  unit-held : (c : ℕ → Command) → ((u : ℕ) → has_unit d u ≡ false → act d (c u) ≡ refused d) → (u : ℕ) → act d (c (held u)) ≡ act d (c u)
  unit-held c nobody u =
      held-cases (λ (h : ℕ). act d (c h) ≡ act d (c u)) u refl (λ past. nobody last (no-unit last (omega arith)) ∙ sym (nobody u (no-unit u (omega arith))))

  frame-held : (u f : ℕ) → act d (arrives u (held f)) ≡ act d (arrives u f)
  frame-held u f = held-cases (λ (h : ℕ). act d (arrives u h) ≡ act d (arrives u f)) f refl (λ past. none last (omega arith) ∙ sym (none f (omega arith)))
    where
      none : (g : ℕ) → last ≤ g → act d (arrives u g) ≡ refused d
      none g h = rw (no-frame g h, and-false (has_unit d u))

  request-held : (u k : ℕ) → act d (requests u (held k)) ≡ act d (requests u k)
  request-held u k =
      held-cases (λ (h : ℕ). act d (requests u h) ≡ act d (requests u k)) k refl
      (λ past. ap (λ (r : Result). called d (has_unit d u) u r (wrote r (at r.numbers 1)) (answers r.answer))
      (asks-past (d.units u) (lent 117) last k (omega arith) (omega arith)))

  -- the desk does the same
  pub act-held : (c : Command) → act d (held_in c) ≡ act d c
  act-held (groups n w) = refl
  act-held (sends u word) = unit-held (λ v. sends v word) (λ v e. rw e) u
  act-held (arrives u f) = unit-held (λ v. arrives v (held f)) (λ v e. rw e) u ∙ frame-held u f
  act-held (requests u k) = unit-held (λ v. requests v (held k)) (λ v e. rw e) u ∙ request-held u k
  act-held (takes u) = unit-held takes (λ v e. rw e) u
  act-held unreadable = refl
