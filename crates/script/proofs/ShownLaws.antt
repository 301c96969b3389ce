-- Laws of what the code shows of a line: one for each way in which the code comes to it.
use mathlib.Core.Bool.{Bool, true, false, cond, ◌&&◌, and-true, and-false}
use mathlib.Core.List.{List, [], ◌∷◌}
use mathlib.Core.Path.{◌≡◌, refl, sym, ap}
use Prim.Native.Nat.{ℕ, ◌+◌, ◌-◌, ◌≤◌}
use Prim.Native.Char.{code}
use native.Mathlib.Omega.{arith}
use lib.Dec.{eqb}
use lib.ListN.{length, take, drop}
use borrow.Author.Tests.{ne_eqb}
use Rattle.std.specs.Prelude.{Some, None}
use Rattle.std.specs.Bool.{then_some}
use Rattle.rules.specs.Message.{last}
use Rattle.script.specs.Lines.{Found}
use Rattle.script.specs.Items.{space, items, is_number, value, is_word, Command, groups, sends, arrives, requests, takes, unreadable, of_two, of_three, of_items}
use Rattle.script.specs.Shown.{held, value_in, shown, of_numbers}
use Rattle.script.proofs.LinesLaws.{none≢some, found-none, found_at}
use Rattle.script.proofs.CommandLaws.{items-one, items_more, take_rest, of_items-number, of_items-rest}
use Rattle.script.specs.declared.line.Line.TheVariants.{Group, Send, Arrive, Request, Take}

-- ---- numbers

pub held_fits : (x : ℕ) → x ≤ last → held x ≡ x
held_fits x h = omega arith

held-held : (x : ℕ) → held (held x) ≡ held x
held-held x = omega arith

pub value_in-none : (l : List ℕ) → value_in l ≡ None → is_number l ≡ false
unfolding value_in
value_in-none l e = go (is_number l) e
  where
    go : (t : Bool) → cond t (Some (held (value l))) None ≡ None → t ≡ false
    go true e = absurd (none≢some (sym e))
    go false e = refl

-- l is a number, which 32 bits hold as x
pub record Number (l : List ℕ) (x : ℕ) : Type 0 where
  pub is : is_number l ≡ true
  pub value-is : x ≡ held (value l)

pub value_in-is : (l : List ℕ) (x : ℕ) → value_in l ≡ Some x → Number l x
unfolding value_in
value_in-is l x e = go (is_number l) refl e
  where
    go : (t : Bool) → is_number l ≡ t → cond t (Some (held (value l))) None ≡ Some x → Number l x
    go true p e = record { is = p; value-is = cc }
    go false p e = absurd (none≢some e)

-- ---- lines of two items

pub shown-two : (c u : ℕ) → shown (of_two c (held u)) ≡ shown (of_two c u)
unfolding shown of_two
shown-two c u = go (eqb c (code "T"))
  where
    go : (t : Bool) → shown (cond t (takes (held u)) unreadable) ≡ shown (cond t (takes u) unreadable)
    go true = ap (λ (x : ℕ). Some (Take x)) (held-held u)
    go false = refl

-- ---- lines of three items

-- what holds of each command of three items holds of the one that they are
module _ (c : ℕ) (z : List ℕ) (P : (ℕ → Command) → Type 0) where
  pub three-cases : P (λ u. sends u z) → P (λ u. groups u (value z)) → P (λ u. arrives u (value z)) → P (λ u. requests u (value z))
      → P (λ u. unreadable) → P (λ u. of_three c u z)
  unfolding of_three
  three-cases s g a r n =
      go (eqb c (code "S") && is_word z) (eqb c (code "G") && is_number z) (eqb c (code "A") && is_number z) (eqb c (code "R") && is_number z)
    where
      go : (x y v w : Bool)
          → P (λ u. cond x (sends u z) (cond y (groups u (value z)) (cond v (arrives u (value z)) (cond w (requests u (value z)) unreadable))))
      go true y v w = s
      go false true v w = g
      go false false true w = a
      go false false false true = r
      go false false false false = n

pub shown-three : (c u : ℕ) (z : List ℕ) → shown (of_three c (held u) z) ≡ shown (of_three c u z)
unfolding shown
shown-three c u z =
    three-cases c z (λ f. shown (f (held u)) ≡ shown (f u)) (ap (λ (x : ℕ). Some (Send x (length z))) (held-held u))
    (ap (λ (x : ℕ). Some (Group (record { n = x; w = held (value z) }))) (held-held u))
    (ap (λ (x : ℕ). Some (Arrive x (held (value z)))) (held-held u))
    (ap (λ (x : ℕ). Some (Request x (held (value z)))) (held-held u))
    refl

module _ (c u : ℕ) (z : List ℕ) (fits : u ≤ last) where
  pub shown-word : c ≡ code "S" → then_some (is_word z) (Send u (length z)) ≡ shown (of_three c u z)
  unfolding shown of_three
  shown-word e = rw e (go (is_word z))
    where
      go : (t : Bool) → then_some t (Send u (length z)) ≡ shown (cond t (sends u z) unreadable)
      go true = rw (held_fits u fits)
      go false = refl

  pub shown-no-number : (c ≡ code "S" → ⊥) → is_number z ≡ false → None ≡ shown (of_three c u z)
  unfolding shown of_three
  shown-no-number e n = rw (ne_eqb c (code "S") e) (simp (n, and-false))

  pub shown-numbered : (x : ℕ) → (c ≡ code "S" → ⊥) → Number z x → of_numbers c u x ≡ shown (of_three c u z)
  unfolding shown of_three of_numbers
  shown-numbered x e n =
      rw (ne_eqb c (code "S") e, n.is, n.value-is) (simp and-true (go (eqb c (code "G")) (eqb c (code "A")) (eqb c (code "R"))))
    where
      v : ℕ
      v = value z

      go : (g a r : Bool)
          → cond g (Some (Group (record { n = u; w = held v }))) (cond a (Some (Arrive u (held v))) (cond r (Some (Request u (held v))) None))
          ≡ shown (cond g (groups u v) (cond a (arrives u v) (cond r (requests u v) unreadable)))
      go true a r = rw (held_fits u fits)
      go false true r = rw (held_fits u fits)
      go false false true = rw (held_fits u fits)
      go false false false = refl

-- ---- what follows a letter, with its first item up to e

module _ (c : ℕ) (s : List ℕ) where
  module _ (f : Found s space None) where
    pub one_none : value_in s ≡ None → None ≡ shown (of_items ((c ∷ []) ∷ items s))
    unfolding shown
    one_none h = rw (items-one s (found-none s space f), of_items-number (c ∷ []) s [] (value_in-none s h))

    pub after_two : (u : ℕ) → value_in s ≡ Some u → shown (of_two c u) ≡ shown (of_items ((c ∷ []) ∷ items s))
    after_two u h =
        let n : Number s u = value_in-is s u h in
        rw (items-one s (found-none s space f), n.is, n.value-is) (shown-two c (value s))

  module _ (e : ℕ) (f : Found s space (Some e)) where
    items-first : items s ≡ take e s ∷ items (drop (e + 1) s)
    items-first =
        let (p, h) = found_at s space e f in
        rw p (items_more s (omega arith))

    pub after_none : value_in (take e s) ≡ None → None ≡ shown (of_items ((c ∷ []) ∷ items s))
    unfolding shown
    after_none h = rw (items-first, of_items-number (c ∷ []) (take e s) (items (drop (e + 1) s)) (value_in-none (take e s) h))

    pub after-three : (u : ℕ) → value_in (take e s) ≡ Some u
        → shown (of_three c u (take (length s - (e + 1)) (drop (e + 1) s))) ≡ shown (of_items ((c ∷ []) ∷ items s))
    after-three u h =
        let n : Number (take e s) u = value_in-is (take e s) u h in
        rw (take_rest (e + 1) s, items-first, of_items-rest (c ∷ []) (take e s) (drop (e + 1) s), n.is, n.value-is)
        (shown-three c (value (take e s)) (drop (e + 1) s))
