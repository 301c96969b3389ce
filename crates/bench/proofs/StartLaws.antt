-- A group that is opened shows the script's desk as it is opened.
use mathlib.Core.Bool.{Bool, true, false, cond, ◌&&◌, and-false}
use mathlib.Core.List.{List}
use mathlib.Core.Path.{◌≡◌, refl, sym, ap, ◌∙◌, fun_ext}
use Prim.Native.Nat.{ℕ, zero, suc, ◌-◌, ◌≤◌}
use native.Mathlib.Omega.{arith}
use lib.ListN.{get_or, replicate, get_or-replicate}
use Rattle.rules.specs.Maps.{between, at, every, units}
use Rattle.rules.specs.Message.{last}
use Rattle.rules.specs.State.{opened, closed}
use Rattle.rules.specs.Sound.{ranges_fit}
use Rattle.rules.specs.Calls.{Opened, open_checks, opening}
use Rattle.rules.proofs.MapsLaws.{between-low, between-high, not-true}
use Rattle.rules.proofs.SoundLaws.{Ranges, ranges_fit-facts}
use Rattle.tables.proofs.GridLaws.{Unit?, inside, outside, unit?}
use Rattle.tables.proofs.RowLaws.{at_before}
use Rattle.state.proofs.EveryLaws.{every-units}
use Rattle.state.proofs.OpeningLaws.{opening-look}
use Rattle.unit.specs.declared.Unit.{Unit}
use Rattle.unit.specs.View.{view}
use Rattle.unit.specs.Exact.{opened_of}
use Rattle.script.specs.Desk.{opened_desk}
use Rattle.bench.specs.Desk.{no_unit, units_of, frames_in, desk_of, started_unit, started_desk, Fits}

-- ---- first numbers past n are not looked at

abbrev ones : ℕ → ℕ
ones = at (replicate 8 1)

at_ones : (k : ℕ) → 1 ≤ k → k ≤ 8 → ones k ≡ 1
at_ones k a b = sym (at_before (replicate 8 1) k (λ e. omega arith)) ∙ get_or-replicate 8 (k - 1) 1 0 (omega arith)

module _ (i n w : ℕ) where
  refused-closed : (first : ℕ → ℕ) → ranges_fit i n w ≡ false → opening i n w 1 first ≡ record { answer = 2; unit = closed }
  unfolding opening open_checks
  refused-closed first e = rw e

  module _ (R : Ranges i n w) where
    units-ones : units n ones ≡ units n (λ k. 1)
    unfolding units
    units-ones = fun_ext (λ k. go k (unit? n k))
      where
        go : (k : ℕ) {t : Bool} → Unit? n k t → cond t (ones k) 0 ≡ cond t 1 0
        go k (inside a b) = at_ones k a (omega arith)
        go k (outside x) = refl

    opened-ones : opened i n w 1 ones ≡ opened i n w 1 (λ k. 1)
    unfolding opened
    opened-ones = rw (units-ones, at_ones i (omega arith) (omega arith))

    every-ones : every 1 n (λ k. between 1 last (ones k)) ≡ every 1 n (λ k. between 1 last 1)
    every-ones = every-units n (λ k. between 1 last (ones k)) (λ k. between 1 last 1) (λ k a b. ap (between 1 last) (at_ones k a (omega arith)))

    ranged : opening i n w 1 ones ≡ opening i n w 1 (λ k. 1)
    unfolding opening open_checks
    ranged = rw (every-ones, opened-ones)

  opening-ones : opening i n w 1 ones ≡ opening i n w 1 (λ k. 1)
  opening-ones = go (ranges_fit i n w) refl
    where
      go : (t : Bool) → ranges_fit i n w ≡ t → opening i n w 1 ones ≡ opening i n w 1 (λ k. 1)
      go true e = ranged (ranges_fit-facts i n w e)
      go false e = refused-closed ones e ∙ sym (refused-closed (λ k. 1) e)

  pub started-view : view (started_unit i n w) ≡ (opening i n w 1 (λ k. 1)).unit
  unfolding started_unit opened_of
  started-view =
      ap (λ (o : Opened). o.unit)
      (opening-look (record { me = i; n = n; w = w; cid = 1; first = replicate 8 1 }) (replicate 1024 0) (replicate 6144 0) (replicate 468 0) ∙ opening-ones)

  -- what is no unit is closed
  outside-closed : (1 ≤ i → i ≤ n → ⊥) → (opening i n w 1 (λ k. 1)).unit ≡ closed
  unfolding ranges_fit
  outside-closed h =
      let no : between 1 n i ≡ false = not-true _ (λ e. h (between-low 1 n i e) (between-high 1 n i e)) in
      ap (λ (o : Opened). o.unit) (refused-closed (λ k. 1) (rw no (and-false (between 2 8 n && between 2 4 w))))

-- ---- the desk

module _ (n w : ℕ) (few : n ≤ 3) where
  units-started : units_of (started_desk n w).units ≡ (λ u. (opening u n w 1 (λ k. 1)).unit)
  unfolding units_of started_desk
  units-started = fun_ext (λ u. go u (unit? 3 u))
    where
      units : List Unit
      units = (started_desk n w).units

      three : (u : ℕ) → 1 ≤ u → u ≤ 3 → view (get_or units (u - 1) no_unit) ≡ (opening u n w 1 (λ k. 1)).unit
      three zero a b = absurd (omega arith)
      three (suc zero) a b = started-view 1 n w
      three (suc (suc zero)) a b = started-view 2 n w
      three (suc (suc (suc zero))) a b = started-view 3 n w
      three (suc (suc (suc (suc u)))) a b = absurd (omega arith)

      go : (u : ℕ) {t : Bool} → Unit? 3 u t → cond t (view (get_or units (u - 1) no_unit)) closed ≡ (opening u n w 1 (λ k. 1)).unit
      go u (inside a b) = three u a b
      go u (outside x) = sym (outside-closed u n w (λ a b. x a (omega arith)))

  pub started-means : desk_of (started_desk n w) ≡ opened_desk n w
  unfolding frames_in started_desk opened_desk
  started-means = rw units-started

  pub started-fits : Fits (started_desk n w)
  unfolding started_desk
  started-fits = record { units = few; frames = omega arith; lengths = λ i h. absurd (omega arith) }
