-- The messages of a course are those that the logs of a group say were sent; where they agree after an event, they did before it.
use mathlib.Core.List.{List, [], ◌∷◌, ◌++◌, append_assoc, append-nil}
use mathlib.Core.Path.{◌≡◌, sym, ap, subst, ◌∙◌}
use Prim.Native.Nat.{ℕ, ◌+◌, ◌-◌, ◌≤◌, ◌<◌}
use native.Mathlib.Omega.{arith}
use lib.ListN.{length, get_or, length-append, get_or-append}
use lib.Seq.{get_or-append_seam}
use Rattle.rules.specs.Message.{Message}
use Rattle.rules.specs.State.{Place, State}
use Rattle.rules.proofs.MapsLaws.{upd_same}
use Rattle.group.specs.Runs.{Did, sent, accepted, Group, updated}
use Rattle.group.specs.Causality.{sent_in}
use Rattle.group.proofs.Course.{Course, nothing}
use Rattle.group.proofs.Good.{top_of, updated-all}

-- j's messages in the log l
abbrev pub Listed : Course → ℕ → List Did → Type 0
Listed c j l = (s : ℕ) → c.first j ≤ s → s < c.first j + length (sent_in l) → get_or (sent_in l) (s - c.first j) nothing ≡ c.msg j s

abbrev pub Agrees : Course → Group → Type 0
Agrees c g = (j : ℕ) → Listed c j (g.log j)

sent_in-append : (d l : List Did) → sent_in (d ++ l) ≡ sent_in l ++ sent_in d
sent_in-append [] l = sym (append-nil (sent_in l))
sent_in-append (sent m f ∷ d) l = ap (λ (x : List Message). x ++ (m ∷ [])) (sent_in-append d l) ∙ append_assoc (sent_in l) (sent_in d) (m ∷ [])
sent_in-append (accepted m ∷ d) l = sent_in-append d l

listed-before : (c : Course) (j : ℕ) (d l : List Did) → Listed c j (d ++ l) → Listed c j l
listed-before c j d l h s low high =
    sym (get_or-append (sent_in l) (sent_in d) nothing (s - c.first j) (omega arith))
    ∙ ap (λ (x : List Message). get_or x (s - c.first j) nothing) (sym (sent_in-append d l))
    ∙ h s low (omega (arith, ap length (sent_in-append d l), length-append (sent_in l) (sent_in d)))

module _ (c : Course) (g : Group) (i : ℕ) (s : State) (frames : List (List ℕ)) where
  pub agrees-before : (deeds : List Did) (places : List Place) → Agrees c (updated g i s frames deeds places) → Agrees c g
  agrees-before deeds places h j =
      updated-all g i s frames deeds places (λ l u log took. Listed c l log → Listed c l (g.log l)) (listed-before c i deeds (g.log i)) (λ l d x. x) j (h j)

  -- a message just sent is the next
  pub agrees-sent : (m : Message) (f : List ℕ) (places : List Place) → Agrees c (updated g i s frames (sent m f ∷ []) places) → m ≡ c.msg i (top_of c g i)
  unfolding updated
  agrees-sent m f places h =
      sym (get_or-append_seam (sent_in (g.log i)) m [] nothing)
      ∙ ap (λ x. get_or (sent_in (g.log i) ++ (m ∷ [])) x nothing) (let e : length (sent_in (g.log i)) ≡ top_of c g i - c.first i = omega arith in e)
      ∙ subst (Listed c i) (upd_same g.log i (sent m f ∷ g.log i)) (h i) (top_of c g i) (omega arith) (omega (arith, length-append (sent_in (g.log i)) (m ∷ [])))
