-- A unit's numbers are sound exactly where the state that they show is, whatever the bytes of data and frames are.
use mathlib.Core.Bool.{Bool, true, false, not, ◌&&◌}
use mathlib.Core.List.{List, [], ◌∷◌, map}
use mathlib.Core.Path.{◌≡◌, refl, sym, ap, ◌∙◌, fun_ext}
use Prim.Native.Nat.{ℕ, ◌+◌, ◌-◌, ◌*◌, ◌≤◌, ◌<◌}
use native.Mathlib.Omega.{arith}
use lib.Dec.{eqb, ltb}
use lib.ListN.{length, get_or}
use borrow.Author.Tests.{le-leb, lt-ltb, eq-eqb, ltb-true}
use Rattle.rules.specs.Maps.{between, all, among, at, every, units}
use Rattle.rules.specs.Message.{last}
use Rattle.rules.specs.State.{Place, State, min_al, taken}
use Rattle.rules.specs.Sound.{ranges_fit, nexts_fit, window_fits, place_fits, kept_fit, once, sound}
use Rattle.rules.proofs.MapsLaws.{and_left, and_right, and_intro, same_test, between-low, between-high, is-between, units_in}
use Rattle.rules.proofs.SoundLaws.{Ranges, ranges_fit-facts}
use Rattle.tables.specs.Rows.{row_of, part, grid, none_zero}
use Rattle.tables.proofs.GridLaws.{grid-row}
use Rattle.tables.proofs.ListedLaws.{length_part}
use Rattle.tables.proofs.RowLaws.{at_next}
use Rattle.lists.specs.Order.{sender_of, takens}
use Rattle.lists.proofs.PlaceLaws.{All, all_map, once-cons}
use Rattle.lists.proofs.TakenLaws.{taken-shows}
use Rattle.state.specs.declared.Core.{Core}
use Rattle.state.specs.View.{place_at, lowest, kept_of, look}
use Rattle.state.specs.Soundness.{nexts_of, own_low, kept_lengths, window_of, place_of, none_twice, places_of, sound_of}
use Rattle.state.proofs.EveryLaws.{every-same, every-units, every-both, no_zero-part}
use Rattle.state.proofs.PlaceLaws.{place-sender}
use Rattle.state.proofs.LookLaws.{holds-look, shows-look, low-look, lowest-is, kept-length}

-- a number that can be sent
sent-range : (x : ℕ) → ltb 0 x && ltb x last ≡ between 1 (last - 1) x
sent-range x =
    same_test (ltb 0 x && ltb x last) (between 1 (last - 1) x)
    (λ h. is-between 1 (last - 1) x (omega (arith, ltb-true 0 x (and_left (ltb 0 x) (ltb x last) h))) (omega (arith, ltb-true x last (and_right (ltb 0 x) (ltb x last) h))))
    (λ h. and_intro (ltb 0 x) (ltb x last) (lt-ltb 0 x (omega (arith, between-low 1 (last - 1) x h))) (lt-ltb x last (omega (arith, between-high 1 (last - 1) x h))))

module _ (c : Core) (acks bytes frames : List ℕ) where
  abbrev s : State
  s = look c acks bytes frames

  -- ---- no "next" number is 0

  one : (f : List ℕ) → every 1 c.n (λ k. ltb 0 (units c.n (at f) k)) ≡ none_zero c.n (at f)
  unfolding none_zero
  one f =
      every-units c.n (λ k. ltb 0 (units c.n (at f) k)) (λ k. ltb 0 (at f k)) (λ k a b. ap (ltb 0) (units_in c.n (at f) k a b))

  table : (t : List ℕ) → every 1 c.n (λ k. every 1 c.n (λ j. ltb 0 (grid c.n t k j))) ≡ every 1 c.n (λ k. none_zero c.n (at (row_of t k)))
  table t =
      every-units c.n (λ k. every 1 c.n (λ j. ltb 0 (grid c.n t k j))) (λ k. none_zero c.n (at (row_of t k)))
      (λ k a b. ap (λ (f : ℕ → ℕ). every 1 c.n (λ j. ltb 0 (f j))) (grid-row c.n t k a b) ∙ one (row_of t k))

  nexts : nexts_fit s ≡ nexts_of c.n c.seq c.req c.heard c.al c.order.pal
  unfolding nexts_fit nexts_of look
  nexts =
      ap (λ (x : Bool). ltb 0 c.seq && x && every 1 c.n (λ k. every 1 c.n (λ j. al k j && pal k j))) (every-both 1 c.n req heard)
      ∙ ap (λ (x : Bool). ltb 0 c.seq && (every 1 c.n req && every 1 c.n heard) && x) cells
      ∙ rw (one c.req, one c.heard, table c.al, table c.order.pal) (regroup (ltb 0 c.seq) _ _ _ _)
    where
      req : ℕ → Bool
      req k = ltb 0 (units c.n (at c.req) k)

      heard : ℕ → Bool
      heard k = ltb 0 (units c.n (at c.heard) k)

      al : ℕ → ℕ → Bool
      al k j = ltb 0 (grid c.n c.al k j)

      pal : ℕ → ℕ → Bool
      pal k j = ltb 0 (grid c.n c.order.pal k j)

      cells : every 1 c.n (λ k. every 1 c.n (λ j. al k j && pal k j)) ≡ every 1 c.n (λ k. every 1 c.n (al k)) && every 1 c.n (λ k. every 1 c.n (pal k))
      cells =
          every-units c.n (λ k. every 1 c.n (λ j. al k j && pal k j)) (λ k. every 1 c.n (al k) && every 1 c.n (pal k)) (λ k a b. every-both 1 c.n (al k) (pal k))
          ∙ every-both 1 c.n (λ k. every 1 c.n (al k)) (λ k. every 1 c.n (pal k))

      regroup : (a r h t u : Bool) → a && (r && h) && (t && u) ≡ a && r && h && t && u
      regroup true true true t u = refl
      regroup true true false t u = refl
      regroup true false h t u = refl
      regroup false r h t u = refl

  -- ---- the places

  abbrev fits : ℕ → Bool
  fits = place_of c.n c.w c.seqs c.lens acks

  place : (p : ℕ) → place_fits s (place_at c acks bytes p) ≡ fits p
  unfolding place_fits place_of look place_at between
  place p =
      rw (
        le-leb 1 (sender_of p) (omega arith),
        eq-eqb (length (part acks (8 * p) c.n)) c.n (length_part acks (8 * p) c.n),
        no_zero-part acks (8 * p) c.n,
        length_part bytes (48 * p) (get_or c.lens p 0),
        sent-range (get_or c.seqs p 0),
      )

  fine : (l : List ℕ) → all fits l ≡ true → All (λ p. sender_of p ≤ c.n) l
  fine [] h = tt
  fine (p ∷ l) h = (place-sender c.n c.w c.seqs c.lens acks p (and_left (fits p) (all fits l) h), fine l (and_right (fits p) (all fits l) h))

  once_is : (l : List ℕ) → All (λ p. sender_of p ≤ c.n) l → once (map (place_at c acks bytes) l) ≡ none_twice l
  once_is [] h = refl
  once_is (p ∷ l) h =
      once-cons (place_at c acks bytes) c.n c.seqs acks (holds-look c acks bytes) p l h.0 h.1
      ∙ ap (λ (b : Bool). not (among p l) && b) (once_is l h.1)

  taken_is : taken s ≡ map (place_at c acks bytes) (takens c.order)
  taken_is = taken-shows (place_at c acks bytes) c.n c.order s (shows-look c acks bytes frames)

  places_fit : all (place_fits s) (taken s) && once (taken s) ≡ places_of c.n c.w c.seqs c.lens acks c.order
  unfolding places_of
  places_fit =
      ap (λ (l : List Place). all (place_fits s) l && once l) taken_is
      ∙ ap (λ (b : Bool). b && once (map (place_at c acks bytes) l)) (all_map (place_fits s) (place_at c acks bytes) l ∙ ap (λ (t : ℕ → Bool). all t l) (fun_ext place))
      ∙ go (all fits l) (λ h. once_is l (fine l h))
    where
      l : List ℕ
      l = takens c.order

      go : (t : Bool) → (t ≡ true → once (map (place_at c acks bytes) l) ≡ none_twice l) → t && once (map (place_at c acks bytes) l) ≡ t && none_twice l
      go true h = h refl
      go false h = refl

  -- ---- with i, n and W in range: SEQ and the kept frames

  module _ (r : Ranges c.me c.n c.w) where
    low : min_al s c.me ≡ own_low c
    low = sym (low-look c acks bytes frames r.i-low r.i-high)

    own : eqb (s.req s.me) s.seq ≡ eqb (at c.req c.me) c.seq
    unfolding look
    own = ap (λ (x : ℕ). eqb x c.seq) (units_in c.n (at c.req) c.me r.i-low r.i-high)

    kept_fits : kept_fit s ≡ kept_lengths c.kept c.n (c.seq - own_low c)
    unfolding kept_fit kept_lengths look
    kept_fits =
        ap (λ (x : ℕ). every x (c.seq - x) fits) low
        ∙ every-same (own_low c) 1 (c.seq - own_low c) fits (λ k. between (37 + 4 * c.n) (85 + 4 * c.n) (at c.kept k))
        (λ i x. ap (between (37 + 4 * c.n) (85 + 4 * c.n)) (slot i x))
      where
        fits : ℕ → Bool
        fits x = between (37 + 4 * c.n) (85 + 4 * c.n) (length (kept_of c frames x))

        slot : (i : ℕ) → i < c.seq - own_low c → length (kept_of c frames (own_low c + i)) ≡ at c.kept (1 + i)
        slot i x =
            let e = lowest-is c r.i-low r.i-high in
            kept-length c frames (own_low c + i) (omega arith) (omega arith)
            ∙ ap (λ (j : ℕ). get_or c.kept j 0) (let d : own_low c + i - lowest c ≡ i = omega arith in d)
            ∙ sym (at_next c.kept i)
            ∙ ap (at c.kept) (let d : i + 1 ≡ 1 + i = omega arith in d)

    window : window_fits s && kept_fit s ≡ window_of (own_low c) c.w c.n c.seq c.kept
    unfolding window_fits window_of look
    window = rw (low, kept_fits)

  -- ---- the whole

  pub sound-look : sound_of c acks ≡ sound s
  unfolding sound_of sound look
  sound-look = go (ranges_fit c.me c.n c.w) (ranges_fit-facts c.me c.n c.w)
    where
      regroup : (n o w k p u : Bool) → n && o && (w && k) && (p && u) ≡ n && o && w && p && k && u
      regroup true true true true true u = refl
      regroup true true true true false u = refl
      regroup true true true false true u = refl
      regroup true true true false false u = refl
      regroup true true false k p u = refl
      regroup true false w k p u = refl
      regroup false o w k p u = refl

      go : (t : Bool) → (t ≡ true → Ranges c.me c.n c.w)
          → t && nexts_of c.n c.seq c.req c.heard c.al c.order.pal && eqb (at c.req c.me) c.seq && window_of (own_low c) c.w c.n c.seq c.kept && places_of c.n c.w c.seqs c.lens acks c.order
          ≡ t && nexts_fit s && eqb (s.req s.me) s.seq && window_fits s && all (place_fits s) (taken s) && kept_fit s && once (taken s)
      go false h = refl
      go true h =
          rw (← nexts, ← own (h refl), ← window (h refl), ← places_fit)
          (regroup (nexts_fit s) (eqb (s.req s.me) s.seq) (window_fits s) (kept_fit s) (all (place_fits s) (taken s)) (once (taken s)))
