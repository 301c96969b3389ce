-- A group with one visit more.
use mathlib.Core.List.{List, [], ◌∷◌}
use mathlib.Core.Path.{◌≡◌, refl, ap, ◌∙◌}
use Prim.Native.Nat.{ℕ, zero, suc, ◌+◌, ◌*◌, ◌/◌, ◌%◌, ◌<◌}
use native.Mathlib.Omega.{arith}
use lib.Dec.{eqb}
use lib.ListN.{length, get_or, set, replicate}
use Rattle.handing.specs.Handing.{Gives}
use Rattle.unit.specs.declared.Unit.{Unit}
use Rattle.drive.specs.Run.{Summed, visit_of, unit_of, opened_units, unit_at, Group, visited_at, run_of}

-- within a list it does not matter what is read past its end
read-within : (l : List Unit) (k : ℕ) (d e : Unit) → k < length l → get_or l k d ≡ get_or l k e
read-within [] k d e h = absurd (omega arith)
read-within (x ∷ l) zero d e h = refl
read-within (x ∷ l) (suc k) d e h = read-within l k d e (omega arith)

module _ (n w : ℕ) where
  pub group-opened : (units : List Unit) → units ≡ opened_units n w 8
      → ◌≡◌ {A = Group} (record { units = units; text = replicate 16 0; frame = replicate 117 0; sum = 0 }) (run_of n w 0)
  unfolding run_of
  group-opened units e = rw e

  module _ (i : ℕ) (g : Group) (k : ℕ) where
    abbrev text : List ℕ
    text = set g.text (i / n % 16) (i / n % 256)

    pub visit-more : g ≡ run_of n w i → k ≡ unit_at n i → k < length g.units → (d : Unit) (v : Summed) (frame : List ℕ)
        → Gives (visit_of (get_or g.units k d) (eqb (i % n) 0) text g.frame (53 + 4 * n) g.sum) v frame
        → ◌≡◌ {A = Group} (record { units = set g.units k v.unit; text = text; frame = frame; sum = v.sum }) (run_of n w (i + 1))
    unfolding run_of
    visit-more e at h d v frame gives =
        let one_more : suc i ≡ i + 1 = omega arith in
        rw (gives.result, gives.output, read-within g.units k d (unit_of n w 0) h, at) (ap (visited_at n w i) e ∙ ap (run_of n w) one_more)
