-- The checks of data from a unit of the group, and what they note, on a unit's numbers and on the state that they show.
use mathlib.Core.Bool.{Bool, true, cond, not, ◌||◌}
use mathlib.Core.List.{List, [], ◌∷◌}
use mathlib.Core.Path.{◌≡◌, refl, sym, ap, ◌∙◌, fun_ext}
use Prim.Native.Nat.{ℕ, zero, suc, ◌-◌, ◌*◌, ◌≤◌, ◌<◌, max}
use native.Mathlib.Omega.{arith}
use lib.Dec.{eqb, leb, ltb}
use lib.ListN.{length, drop, set, get_or-eq_default}
use borrow.Author.Tests.{ne_eqb}
use Rattle.rules.specs.Maps.{at, every, units, upd}
use Rattle.rules.specs.Message.{Message, last}
use Rattle.rules.specs.State.{State}
use Rattle.rules.specs.Steps.{known, with_heard, noted}
use Rattle.rules.specs.Calls.{◌⇒◌, data_checks}
use Rattle.rules.proofs.MapsLaws.{units_in}
use Rattle.tables.specs.Rows.{below_but, column_of, raised}
use Rattle.tables.proofs.GridLaws.{Unit?, inside, outside, unit?}
use Rattle.lists.specs.View.{Whole}
use Rattle.state.specs.declared.Core.{Core}
use Rattle.state.specs.View.{place_at, kept_of, look}
use Rattle.state.proofs.EveryLaws.{every-units}
use Rattle.frame.specs.declared.Data.{Data}
use Rattle.frame.specs.Acks.{eight}
use Rattle.frame.specs.Frame.{data_of}
use Rattle.frame.proofs.Numbers.{length-eight}
use Rattle.store.specs.Store.{after}
use Rattle.store.proofs.RowLaws.{units-set}
use Rattle.steps.specs.Arrival.{noted_of}
use Rattle.steps.specs.Checks.{impossible, unit_checks}
use Rattle.steps.proofs.AckLaws.{at-eight}
use Rattle.steps.proofs.ChecksLook.{OfGroup, full-look}
use Rattle.steps.proofs.RowLook.{at-column, at-raised}

-- past the end of a list, and before its start, stands 0
at-outside : (l : List ℕ) (k : ℕ) → (1 ≤ k → k ≤ length l → ⊥) → at l k ≡ 0
at-outside l zero h = refl
at-outside l (suc k) h = get_or-eq_default l 0 (omega (arith, h (omega arith)))

module _ (c : Core) (acks bytes frames : List ℕ) (p : Message) (most : c.n ≤ 8) (G : OfGroup c.n p.src p.ack) where
  abbrev s : State
  s = look c acks bytes frames

  abbrev f : Data
  f = data_of p

  -- ---- the checks

  impossible-look : impossible c f ≡ ltb c.seq (at p.ack c.me) || not (eqb (at p.ack p.src) p.seq) || ltb (4 * c.w * c.n) p.buf
  unfolding impossible
  impossible-look = rw (at-eight p.ack c.me, at-eight p.ack p.src)

  known_look : below_but c.n p.src (at (eight p.ack)) (at c.req) ≡ known s p
  unfolding below_but known look
  known_look =
      every-units c.n (λ k. cond (eqb k p.src) true (leb (at (eight p.ack) k) (at c.req k)))
      (λ k. cond (eqb k p.src) true (leb (at p.ack k) (units c.n (at c.req) k)))
      (λ k a b. rw (at-eight p.ack k, units_in c.n (at c.req) k a b))

  risen-look : below_but c.n 0 (at (column_of c.al p.src)) (at (eight p.ack)) ≡ every 1 c.n (λ k. leb (s.al k p.src) (at p.ack k))
  unfolding below_but look
  risen-look =
      every-units c.n (λ k. cond (eqb k 0) true (leb (at (column_of c.al p.src) k) (at (eight p.ack) k))) (λ k. leb (s.al k p.src) (at p.ack k))
      (λ k a b. rw (ne_eqb k 0 (λ e. omega arith), at-column c.n most k a b c.al p.src G.low G.high, at-eight p.ack k))

  pub unit-checks : Whole c.n c.order → unit_checks c f ≡ drop 3 (data_checks s p)
  unfolding data_checks look
  unit-checks W i =
      let req : at c.req p.src ≡ units c.n (at c.req) p.src = sym (units_in c.n (at c.req) p.src G.low G.high) in
      (eqb p.src c.me ⇒ 6)
      ∷ (impossible-look i ⇒ 7)
      ∷ (ltb p.seq (req i) ⇒ 8)
      ∷ (ltb (req i) p.seq ⇒ 9)
      ∷ (not (known_look i) ⇒ 10)
      ∷ (not (risen-look i) ⇒ 11)
      ∷ (full-look c acks bytes frames W p.src i ⇒ 12)
      ∷ []

  -- ---- what is noted

  -- the number after p's, where one fits, and what the frame says of each unit
  abbrev next : ℕ
  next = after p.seq

  abbrev said : List ℕ
  said = set (eight p.ack) (p.src - 1) next

  module _ (end : p.seq < last) where
    at-said : (k : ℕ) → 1 ≤ k → k ≤ c.n → at said k ≡ cond (eqb k p.src) (suc p.seq) (at p.ack k)
    unfolding upd
    at-said k a b =
        sym (units_in c.n (at said) k a b)
        ∙ sym (ap (λ (g : ℕ → ℕ). g k) (units-set c.n (eight p.ack) p.src next G.low G.high (omega (arith, length-eight p.ack (omega arith)))))
        ∙ ap (λ (x : ℕ). cond (eqb k p.src) next x) (units_in c.n (at (eight p.ack)) k a b ∙ at-eight p.ack k)
        ∙ ap (λ (x : ℕ). cond (eqb k p.src) x (at p.ack k)) (let e : next ≡ suc p.seq = omega arith in e)

    new-heard : units c.n (at (raised c.n c.heard said)) ≡ (λ k. max (units c.n (at c.heard) k) (cond (eqb k p.src) (suc p.seq) (at p.ack k)))
    unfolding units
    new-heard = fun_ext (λ k. one k (unit? c.n k))
      where
        one : (k : ℕ) {t : Bool} → Unit? c.n k t
            → cond t (at (raised c.n c.heard said) k) 0 ≡ max (cond t (at c.heard k) 0) (cond (eqb k p.src) (suc p.seq) (at p.ack k))
        one k (inside a b) = at-raised c.n most k a b c.heard said ∙ ap (max (at c.heard k)) (at-said k a b)
        one k (outside x) =
            rw (ne_eqb k p.src (λ e. x (omega arith) (omega arith)), at-outside p.ack k (λ a b. x a (omega arith)))

    pub noted-look : look (noted_of c f) acks bytes frames ≡ noted s p
    unfolding noted_of noted look place_at kept_of
    noted-look = ap (with_heard s) new-heard
