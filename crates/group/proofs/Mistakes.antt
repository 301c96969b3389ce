-- What each mistake breaks: with one piece wrong, a run leads to a state in which a named clause of demand 3 is false.
use mathlib.Core.Bool.{Bool, true}
use mathlib.Core.List.Memᴰ
use mathlib.Core.List.{List, [], ◌∷◌, ◌++◌, cons≢nil}
use mathlib.Core.Path.{◌≡◌, refl, sym, ap, subst, ◌∙◌}
use Prim.Native.Nat.{ℕ, zero, suc, ◌+◌, ◌/◌, ◌≤◌, ◌<◌, min, max}
use native.Mathlib.Omega.{arith}
use lib.Dec.{eqb}
use lib.ListN.{length, get_or}
use Rattle.rules.specs.Maps.{every, least}
use Rattle.rules.specs.Message.{Message}
use Rattle.rules.specs.State.{Place, State, min_al, min_pal}
use Rattle.rules.specs.Steps.{known, window, insert}
use Rattle.rules.specs.Calls.{opening}
use Rattle.group.specs.Runs.{Index, Did, sent, accepted, Group, fresh, Run}
use Rattle.group.specs.Causality.{Ahead, about, Cause, direct, chain}
use Rattle.group.specs.Demand.{in_message, in_place, confirmed_at, InCausalOrder, PreackedByAll, FewWait, SenderKeeps}
use Rattle.group.proofs.All.{ahead-get_or}
use Rattle.group.proofs.Course.{nothing}
use Rattle.group.proofs.Scripts.{Line, ◌says◌, ◌hears◌, play, fits, script-run, computing}
use Rattle.group.proofs.Pieces as Pieces
use Rattle.group.proofs.Pieces.{Pieces, pieces, lowest, stored, preacked, preack_while, preack_to, confirm_while, send, arrive_data, call}

-- a group of n with window w, CID 7 and first numbers 1, of units with these pieces, comes to a state in which the clause is false
pub record Breaks (k : Pieces) (n w : ℕ) (Clause : Group → Type 0) : Type 0 where
  pub state : Group
  pub run : Run (call k) n w 7 (λ i. 1) state
  pub broken : ¬ (Clause state)

module _ (k : Pieces) (n w : ℕ) (script : List Line) where
  abbrev last : Group
  last = play (call k) (fresh n w 7 (λ i. 1)) script

  breaks : (Clause : Group → Type 0) → every 1 n (λ i. eqb (opening i n w 7 (λ j. 1)).answer 0) ≡ true
      → fits (call k) n (fresh n w 7 (λ i. 1)) script ≡ true → ¬ (Clause last) → Breaks k n w Clause
  breaks Clause a b c = record { state = last; run = script-run (call k) n w 7 (λ i. 1) script a b; broken = c }

-- where a proof unfolds this, runs with open pieces compute too
unfoldable all-computing : Unit {0}
unfolding computing stored preacked preack_while preack_to confirm_while Pieces.accepted send arrive_data
all-computing = tt

-- ---- the window W + 1

abbrev pub wide : State → ℕ
wide s = min (s.w + 1) (least s.n s.buf / s.n)

pub wide-window : Breaks (pieces known wide lowest insert min_al min_pal) 2 2 (λ g. FewWait 2 g 2)
unfolding all-computing
wide-window =
    breaks _ 2 2 (1 says [] ∷ 1 says [] ∷ 1 says [] ∷ []) _ refl refl
    (λ h. let x : 3 ≤ 2 = h 1 1 (omega arith) (omega arith) in omega arith)

-- ---- kept frames dropped when some units have them

abbrev greatest : ℕ → (ℕ → ℕ) → ℕ
greatest zero f = f 1
greatest (suc m) f = max (greatest m f) (f (suc m))

abbrev pub highest : State → ℕ
highest s = greatest s.n (s.al s.me)

pub dropped-frames : Breaks (pieces known window highest insert min_al min_pal) 2 2 (SenderKeeps 2)
unfolding all-computing
dropped-frames =
    breaks _ 2 2 (1 says [] ∷ 1 says [] ∷ []) _ refl refl
    (λ h. cons≢nil (sym (h 2 1 (omega arith) (omega arith) _ _ (Memᴰ.tail (Memᴰ.head refl)) Memᴰ.not-nil).1))

-- ---- confirmed by AL

pub confirmed-by-al : Breaks (pieces known window lowest insert min_al min_al) 2 2 (PreackedByAll 2)
unfolding all-computing
confirmed-by-al =
    breaks _ 2 2 (1 says [] ∷ 2 hears 1 ∷ 2 says [] ∷ 1 hears 2 ∷ 1 says [] ∷ []) _ refl refl
    (λ h. Memᴰ.not-nil (h 1 2 (omega arith) (omega arith) _ (Memᴰ.head refl)))

-- ---- everything confirmed at the first acceptance

abbrev pub all-accepted : State → ℕ → ℕ
all-accepted s j = s.req j

pub confirmed-at-once : Breaks (pieces known window lowest insert all-accepted all-accepted) 2 2 (PreackedByAll 2)
unfolding all-computing
confirmed-at-once =
    breaks _ 2 2 (1 says [] ∷ []) _ refl refl (λ h. Memᴰ.not-nil (h 1 2 (omega arith) (omega arith) _ (Memᴰ.head refl)))

-- ---- order

-- the x-th confirmed message of unit i, and the x-th entry of its log, from 0
abbrev place : Group → ℕ → ℕ → Place
place g i x = get_or (confirmed_at g i) x (record { slot = 0; src = 0; seq = 0; ack = []; text = [] })

abbrev entry : Group → ℕ → ℕ → Did
entry g i x = get_or (g.log i) x (accepted nothing)

abbrev SentAs : Did → Type 0
SentAs (sent m f) = Unit {0}
SentAs (accepted m) = ⊥

sent-as : (e : Did) → SentAs e → (f : List ℕ) × (e ≡ sent (about e) f)
sent-as (sent m f) h = (f, refl)
sent-as (accepted m) h = absurd h

-- the first message of unit j, without data
abbrev first : ℕ → List ℕ → ℕ → Message
first j ack buf = record { cid = 7; src = j; seq = 1; ack = ack; buf = buf; text = [] }

-- indices of a list, in this order
abbrev InOrder : ℕ → ℕ → ℕ → Type 0
InOrder x y size = (x < y) × (y < size)

module _ (n : ℕ) (g : Group) where
  -- unit k sent q, and had p in its log before
  caused : (p q : Message) (k : ℕ) → Index n k → (x y : ℕ) → InOrder x y (length (g.log k)) → SentAs (entry g k x)
      → about (entry g k y) ≡ p → about (entry g k x) ≡ q → Cause n g p q
  caused p q k kn x y h s ep eq =
      let r = sent-as (entry g k x) s in
      direct p q r.0 (entry g k y) k kn ep
      (subst (λ (e : Did). Ahead e (entry g k y) (g.log k)) (r.1 ∙ ap (λ (m : Message). sent m r.0) eq)
      (ahead-get_or (accepted nothing) (g.log k) x y h.0 h.1))

  -- at unit i q stands before p
  disordered : (i : ℕ) → Index n i → (x y : ℕ) → InOrder x y (length (confirmed_at g i)) → (p q : Message)
      → in_place (place g i x) ≡ in_message q → in_place (place g i y) ≡ in_message p → Cause n g p q → ¬ (InCausalOrder n g)
  disordered i inn x y h p q eq ep c order = order i inn (place g i x) (place g i y) (ahead-get_or _ (confirmed_at g i) x y h.0 h.1) q p eq ep c

-- inserted at the end: unit 1's first message is confirmed before unit 2's, which it had accepted before it sent

abbrev pub append : Place → List Place → List Place
append p l = l ++ (p ∷ [])

end_script : List Line
end_script = 2 says [] ∷ 1 hears 1 ∷ 1 says [] ∷ 1 says [] ∷ 2 hears 2 ∷ 2 hears 3 ∷ 2 says [] ∷ 2 says [] ∷ 1 hears 4 ∷ 1 hears 5 ∷ 1 says [] ∷ []

end : Group
end = last (pieces known window lowest append min_al min_pal) 2 2 end_script

pub inserted-at-the-end : Breaks (pieces known window lowest append min_al min_pal) 2 2 (InCausalOrder 2)
unfolding all-computing end_script end
inserted-at-the-end =
    breaks (pieces known window lowest append min_al min_pal) 2 2 end_script (InCausalOrder 2) refl refl
    (disordered 2 end 1 (omega arith) 0 1 (omega arith) p q refl refl (caused 2 end p q 1 (omega arith) 4 5 (omega arith) tt refl refl))
  where
    p : Message
    p = first 2 (1 ∷ 1 ∷ []) 16

    q : Message
    q = first 1 (1 ∷ 2 ∷ []) 15

-- the second acceptance condition dropped: unit 1 accepts unit 3's first message without unit 2's, which unit 3 had accepted,
-- and so its own first message, by a chain later than unit 2's, is confirmed before it

abbrev pub always : State → Message → Bool
always s p = true

chain_script : List Line
chain_script =
    2 says [] ∷ 3 hears 1 ∷ 3 says [] ∷ 1 hears 2 ∷ 1 says [] ∷ 1 hears 1 ∷ 2 hears 3 ∷ 2 hears 2 ∷ 3 hears 3 ∷ 3 says [] ∷ 2 hears 4 ∷ 1 hears 4
    ∷ 1 says [] ∷ 2 says [] ∷ 3 hears 5 ∷ 1 hears 6 ∷ 3 hears 6 ∷ 1 says [] ∷ 2 hears 5 ∷ 3 says [] ∷ 1 hears 8 ∷ 2 says [] ∷ 1 hears 9
    ∷ []

gone : Group
gone = last (pieces always window lowest insert min_al min_pal) 3 3 chain_script

pub accepted-by-number : Breaks (pieces always window lowest insert min_al min_pal) 3 3 (InCausalOrder 3)
unfolding all-computing chain_script gone
accepted-by-number =
    breaks (pieces always window lowest insert min_al min_pal) 3 3 chain_script (InCausalOrder 3) refl refl
    (disordered 3 gone 1 (omega arith) 1 2 (omega arith) p q refl refl
    (chain p r q (caused 3 gone p r 3 (omega arith) 5 6 (omega arith) tt refl refl) (caused 3 gone r q 1 (omega arith) 7 8 (omega arith) tt refl refl)))
  where
    p : Message
    p = first 2 (1 ∷ 1 ∷ 1 ∷ []) 36

    r : Message
    r = first 3 (1 ∷ 2 ∷ 1 ∷ []) 35

    q : Message
    q = first 1 (1 ∷ 1 ∷ 2 ∷ []) 35
