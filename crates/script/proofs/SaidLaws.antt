-- What the code shows of a line says, with the line's bytes, what the line says, its numbers as 32 bits hold them.
use mathlib.Core.Bool.{Bool, true, false, cond, and-false}
use mathlib.Core.List.{List, [], ◌∷◌, ◌++◌, append_assoc}
use mathlib.Core.Option.{Option, none, some}
use Rattle.std.specs.Prelude.{Option as Maybe, Some, None}
use mathlib.Core.Path.{◌≡◌, refl, sym, ap, ◌∙◌}
use Prim.Native.Nat.{ℕ, ◌-◌, ◌<◌}
use native.Mathlib.Omega.{arith}
use Prim.Native.Char.{code}
use lib.Dec.{eqb, leb}
use lib.ListN.{length, drop, length-append}
use lib.Seq.{drop_at}
use Rattle.rules.specs.Message.{last}
use Rattle.rules.specs.Sound.{ranges_fit}
use Rattle.rules.proofs.MapsLaws.{Eq?, same, other, eq?}
use Rattle.script.specs.Lines.{onto}
use Rattle.script.specs.Items.{space, items, glued, is_number, value, Command, groups, sends, arrives, requests, takes, unreadable, letter, of_two, of_three, of_items, command}
use Rattle.script.specs.Desk.{Desk, act}
use Rattle.script.specs.Script.{Group as Named, in_range, group_of}
use Rattle.script.specs.Reader.{Begun, command_in}
use Rattle.script.specs.Shown.{held, shown, said, group_in}
use Rattle.script.specs.declared.line.Group.{Group as Opening}
use Rattle.script.proofs.ItemsLaws.{above-between}
use Rattle.script.proofs.CommandLaws.{items-some}
use Rattle.script.proofs.ShownLaws.{three-cases}
use Rattle.script.proofs.HeldLaws.{held_in, held-cases, act-held}

-- ---- a line is its items with a space between any two

glued-onto : (b : ℕ) (l : List (List ℕ)) → glued (onto b l) ≡ b ∷ glued l
glued-onto b [] = refl
glued-onto b (x ∷ []) = refl
glued-onto b (x ∷ y ∷ l) = refl

glued-items : (l : List ℕ) → glued (items l) ≡ l
glued-items [] = refl
glued-items (b ∷ l) = go (eq? b space) (items-some l) (glued-items l)
  where
    go : {t : Bool} → Eq? b space t → (x : List ℕ) × (r : List (List ℕ)) × (items l ≡ x ∷ r) → glued (items l) ≡ l
        → glued (cond t ([] ∷ items l) (onto b (items l))) ≡ b ∷ l
    go (same e) (x, r, q) h = rw (q, e) (ap (λ (m : List ℕ). space ∷ m) (rw q at h))
    go (other e) (x, r, q) h = glued-onto b (items l) ∙ ap (λ (m : List ℕ). b ∷ m) h

-- a third item is the end of its line
third_last : (x y z l : List ℕ) → glued (x ∷ y ∷ z ∷ []) ≡ l → drop (length l - length z) l ≡ z
third_last x y z l e =
    let front : List ℕ = x ++ (space ∷ (y ++ (space ∷ []))) in
    let cut : l ≡ front ++ z = sym e ∙ simp append_assoc in
    rw cut (drop_at front z (length (front ++ z) - length z) (omega (arith, length-append front z)))

-- ---- the command

said-items : (i : List (List ℕ)) (l : List ℕ) → glued i ≡ l → said (shown (of_items i)) l ≡ held_in (of_items i)
unfolding shown of_two
said-items [] l e = refl
said-items (x ∷ []) l e = refl
said-items (x ∷ y ∷ []) l e = go (is_number y) (eqb (letter x) (code "T"))
  where
    of : Bool → Bool → Command
    of n t = cond n (cond t (takes (value y)) unreadable) unreadable

    go : (n t : Bool) → said (shown (of n t)) l ≡ held_in (of n t)
    go true true = refl
    go true false = refl
    go false t = refl
said-items (x ∷ y ∷ z ∷ []) l e = go (is_number y)
  where
    go : (n : Bool) → said (shown (cond n (of_three (letter x) (value y) z) unreadable)) l ≡ held_in (cond n (of_three (letter x) (value y) z) unreadable)
    go true =
        three-cases (letter x) z (λ f. said (shown (f (value y))) l ≡ held_in (f (value y)))
        (ap (sends (held (value y))) (third_last x y z l e)) refl refl refl refl
    go false = refl
said-items (x ∷ y ∷ z ∷ t ∷ i) l e = refl

said-command : (l : List ℕ) → said (shown (command l)) l ≡ held_in (command l)
unfolding shown command
said-command l = go (leb (length l) 80)
  where
    go : (t : Bool) → said (shown (cond t (of_items (items l)) unreadable)) l ≡ held_in (cond t (of_items (items l)) unreadable)
    go true = said-items (items l) l (glued-items l)
    go false = refl

pub said-shown : (b : Begun) → said (shown (command_in b)) b.bytes ≡ held_in (command_in b)
unfolding shown command_in
said-shown b = go b.long
  where
    go : (t : Bool) → said (shown (cond t unreadable (command b.bytes))) b.bytes ≡ held_in (cond t unreadable (command b.bytes))
    go true = refl
    go false = said-command b.bytes

-- a desk of fewer units and frames than 32 bits count does with what the code shows what it does with the line
pub act-said : (d : Desk) → d.n < last → length d.frames < last → (b : Begun) → act d (said (shown (command_in b)) b.bytes) ≡ act d (command_in b)
act-said d units frames b = ap (act d) (said-shown b) ∙ act-held d units frames (command_in b)

-- ---- the group

abbrev pub shown_group : Option Named → Maybe Opening
shown_group none = None
shown_group (some g) = Some (record { n = g.n; w = g.w })

range-n : (n w : ℕ) → 8 < n → in_range n w ≡ false
unfolding in_range ranges_fit
range-n n w h = rw (above-between 2 8 n h)

range-w : (n w : ℕ) → 4 < w → in_range n w ≡ false
unfolding in_range ranges_fit
range-w n w h = simp (above-between 2 4 w h, and-false)

pub group_in-shown : (c : Command) → group_in (shown c) ≡ shown_group (group_of c)
unfolding group_in shown
group_in-shown (groups n w) = first ∙ second ∙ go (in_range n w)
  where
    of : ℕ → ℕ → Maybe Opening
    of x y = cond (in_range x y) (Some (record { n = x; w = y })) None

    first : of (held n) (held w) ≡ of n (held w)
    first = held-cases (λ (x : ℕ). of x (held w) ≡ of n (held w)) n refl (λ past. rw (range-n last (held w) (omega arith), range-n n (held w) (omega arith)))

    second : of n (held w) ≡ of n w
    second = held-cases (λ (y : ℕ). of n y ≡ of n w) w refl (λ past. rw (range-w n last (omega arith), range-w n w (omega arith)))

    go : (t : Bool) → cond t (Some (record { n = n; w = w })) None ≡ shown_group (cond t (some (record { n = n; w = w })) none)
    go true = refl
    go false = refl
group_in-shown (sends u word) = refl
group_in-shown (arrives u f) = refl
group_in-shown (requests u k) = refl
group_in-shown (takes u) = refl
group_in-shown unreadable = refl
