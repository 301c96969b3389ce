-- Refusals and the numbers 1 to 18 are one to one, and what checks with such numbers decide says the same of both.
use Rattle.std.specs.Prelude.{Bool, true, false, cond, List, [], ◌∷◌, ◌≡◌, ⊤, ℕ, Ok, Err}
use Rattle.std.specs.Result.{IsErrAnd}
use mathlib.Core.Bool.{true≢false}
use mathlib.Core.Path.{refl, ap, subst, ◌∙◌}
use Rattle.rules.specs.Calls.{Check, decide}
use Rattle.rules.proofs.CallsLaws.{Passed, Refused, now, later}
use Rattle.rules.proofs.AlikeLaws.{Alike, decide-alike}
use Rattle.rules.proofs.DecideLaws.{decide-map}
use Rattle.answers.specs.declared.Refusal.{Refusal}
use Rattle.answers.specs.declared.Refusal.TheVariants.{Unsound, CannotOpen, NotAFrame, OtherGroup, NoSuchUnit, OwnFrame, Impossible, AcceptedBefore, EarlierMissing, NamesMissing, AckFell, NoPlace, TooLong, NoNumberLeft, WindowShut, OutputTooShort, ForAnother, Nothing}
use Rattle.answers.specs.Answers.{Answered, number_of, refusal_of, judged}

pub refusal-number : (r : Refusal) → refusal_of (number_of r) ≡ r
refusal-number Unsound = refl
refusal-number CannotOpen = refl
refusal-number NotAFrame = refl
refusal-number OtherGroup = refl
refusal-number NoSuchUnit = refl
refusal-number OwnFrame = refl
refusal-number Impossible = refl
refusal-number AcceptedBefore = refl
refusal-number EarlierMissing = refl
refusal-number NamesMissing = refl
refusal-number AckFell = refl
refusal-number NoPlace = refl
refusal-number TooLong = refl
refusal-number NoNumberLeft = refl
refusal-number WindowShut = refl
refusal-number OutputTooShort = refl
refusal-number ForAnother = refl
refusal-number Nothing = refl

-- each check refuses with a number that a refusal has
abbrev pub Numbered : List Check → Type 0
Numbered [] = ⊤
Numbered (c ∷ l) = (number_of (refusal_of c.answer) ≡ c.answer) × Numbered l

-- f says what a result means: of each refusal with such a number, and of what is done
module _ {A B : Type 0} (f : A → B) (refused : ℕ → A) (done : A) (refused' : ℕ → B) (same : (a : ℕ) → number_of (refusal_of a) ≡ a → f (refused a) ≡ refused' a) where
  pub decide-numbered : (l : List Check) → Numbered l → f (decide l refused done) ≡ decide l refused' (f done)
  decide-numbered [] n = refl
  decide-numbered (c ∷ l) n = go c.holds (decide-numbered l n.1)
    where
      go : (t : Bool) → f (decide l refused done) ≡ decide l refused' (f done) → f (cond t (refused c.answer) (decide l refused done)) ≡ cond t (refused' c.answer) (decide l refused' (f done))
      go true h = same c.answer n.0
      go false h = h

  pub numbered-map : (done' : B) (l : List Check) → Numbered l → (Passed l → f done ≡ done') → f (decide l refused done) ≡ decide l refused' done'
  numbered-map done' l n d =
      decide-numbered l n ∙ decide-map (λ (b : B). b) refused' (f done) refused' done' l (λ a r. refl) d

  -- among the results of a list that refuses alike
  pub numbered-alike : (done' : B) (l m : List Check) → Numbered l → Alike l m → (Passed l → f done ≡ done') → f (decide l refused done) ≡ decide m refused' done'
  numbered-alike done' l m n x d =
      decide-numbered l n ∙ decide-alike (λ (b : B). b) refused' (f done) refused' done' (λ a. refl) l m x d

-- what a caller hands on by `?`
pub passed_on : {A : Type 0} (q : Answered A) (e : Refusal) → IsErrAnd q (λ d. d ≡ e) → q ≡ Err e
passed_on (Ok x) e p = search
passed_on (Err d) e p = ap (λ (z : Refusal). Err z) p

pub err_not_ok : {A : Type 0} {e : Refusal} {x : A} → ◌≡◌ {A = Answered A} (Err e) (Ok x) → ⊥
err_not_ok h = true≢false (let z : true ≡ false = search in z)

pub done_passes : {A : Type 0} (done : A) (l : List Check) (x : A) → judged l done ≡ Ok x → Passed l
done_passes done [] x h = tt
done_passes done (c ∷ l) x h = go c.holds refl (done_passes done l x) h
  where
    go : (t : Bool) → c.holds ≡ t → (judged l done ≡ Ok x → Passed l) → cond t (Err (refusal_of c.answer)) (judged l done) ≡ Ok x → (c.holds ≡ false) × Passed l
    go true e f z = absurd (err_not_ok z)
    go false e f z = (e, f z)

pub same_ok : {A : Type 0} {x y : A} → ◌≡◌ {A = Answered A} (Ok x) (Ok y) → x ≡ y
same_ok h = search

pub refused-numbered : (a : ℕ) (l : List Check) → Numbered l → Refused a l → number_of (refusal_of a) ≡ a
refused-numbered a [] n r = elim r [ ]
refused-numbered a (c ∷ l) n (now h e) = subst (λ (k : ℕ). number_of (refusal_of k) ≡ k) e n.0
refused-numbered a (c ∷ l) n (later h r) = refused-numbered a l n.1 r
