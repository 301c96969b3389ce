-- Opening a unit's numbers is opening a unit of the rules.
use mathlib.Core.Bool.{Bool, true, false, cond, not, ◌&&◌}
use mathlib.Core.List.{List, []}
use mathlib.Core.Path.{◌≡◌, refl, sym, ap, ◌∙◌, fun_ext}
use Prim.Native.Nat.{ℕ, zero, suc, ◌+◌, ◌-◌, ◌*◌, ◌/◌, ◌%◌, ◌≤◌, ◌<◌, max}
use native.Mathlib.Omega.{arith}
use native.Mathlib.Nat.{zero-add}
use lib.Dec.{eqb, leb, ltb}
use lib.ListN.{get_or, replicate, get_or-replicate}
use borrow.Author.Tests.{le-leb, lt-leb, lt-ltb, le-ltb}
use Rattle.std.specs.Prelude.{⊤, Ok, Err}
use Rattle.rules.specs.Maps.{between, at, every, units}
use Rattle.rules.specs.Message.{last}
use Rattle.rules.specs.State.{State, opened, closed}
use Rattle.rules.specs.Calls as Rules
use Rattle.rules.specs.Calls.{open_checks, opening}
use Rattle.rules.specs.Sound.{ranges_fit, sound}
use Rattle.rules.proofs.MapsLaws.{Lt?, lt, ge, lt?, Eq?, same, other, eq?, units_in, get_or-listed}
use Rattle.rules.proofs.OpeningLaws as RulesOpening
use Rattle.rules.proofs.OpeningLaws.{Opens, passed-opens}
use Rattle.rules.proofs.SoundLaws.{facts-sound}
use Rattle.tables.specs.Rows.{part, row_of, grid, none_zero, raised, with_column}
use Rattle.tables.proofs.GridLaws.{Unit?, inside, outside, unit?, at_from}
use Rattle.tables.proofs.RowLaws.{at_before}
use Rattle.answers.specs.declared.Refusal.TheVariants.{CannotOpen}
use Rattle.answers.specs.Answers.{Answered, answer_of}
use Rattle.state.specs.declared.Core.{Core}
use Rattle.state.specs.declared.Opening.{Opening}
use Rattle.state.specs.View.{lowest, kept_of, look}
use Rattle.state.specs.Opening.{up_to, rows_of, core_of, closed_core, opened_of}
use Rattle.state.specs.Soundness.{sound_of}
use Rattle.state.proofs.EveryLaws.{every-units}
use Rattle.state.proofs.MarkLaws.{get_or-blank}
use Rattle.state.proofs.SoundLaws.{sound-look}

-- numbers of 32 bits are in range where none is 0
pub firsts-fit : (l : List ℕ) (n : ℕ) → ((i : ℕ) → get_or l i 0 ≤ last) → none_zero n (at l) ≡ every 1 n (λ k. between 1 last (at l k))
unfolding none_zero between
firsts-fit l n h = every-units n (λ k. ltb 0 (at l k)) (λ k. leb 1 (at l k) && leb (at l k) last) (λ k a b. go k (lt? 0 (at l k)))
  where
    most : (k : ℕ) → at l k ≤ last
    most zero = omega arith
    most (suc k) = h k

    go : (k : ℕ) {t : Bool} → Lt? 0 (at l k) t → t ≡ leb 1 (at l k) && leb (at l k) last
    go k (lt x) = rw (le-leb 1 (at l k) x, le-leb (at l k) last (most k))
    go k (ge x) = rw (lt-leb 1 (at l k) (omega arith))

-- ---- the numbers of a fresh unit

units-same : (n : ℕ) (f g : ℕ → ℕ) → ((k : ℕ) → 1 ≤ k → k ≤ n → f k ≡ g k) → units n f ≡ units n g
unfolding units
units-same n f g h = fun_ext (λ k. go k (unit? n k))
  where
    go : (k : ℕ) {t : Bool} → Unit? n k t → cond t (f k) 0 ≡ cond t (g k) 0
    go k (inside a b) = h k a b
    go k (outside x) = refl

units-out : (n : ℕ) (f : ℕ → ℕ) (k : ℕ) → (1 ≤ k → k ≤ n → ⊥) → units n f k ≡ 0
unfolding units
units-out n f k h = go (unit? n k)
  where
    go : {t : Bool} → Unit? n k t → cond t (f k) 0 ≡ 0
    go (inside a b) = absurd (h a b)
    go (outside x) = refl

units-none : (n k : ℕ) → units n (λ j. 0) k ≡ 0
unfolding units
units-none n k = go (between 1 n k)
  where
    go : (t : Bool) → ◌≡◌ {A = ℕ} (cond t 0 0) 0
    go true = refl
    go false = refl

at-up_to : (n : ℕ) (l : List ℕ) (k : ℕ) → n ≤ 8 → 1 ≤ k → k ≤ n → at (up_to n l) k ≡ at l k
unfolding raised
at-up_to n l k most a b =
    sym (at_before (up_to n l) k (λ e. omega arith))
    ∙ get_or-listed 0 8 entry (k - 1) (omega arith)
    ∙ ap entry (zero-add (k - 1))
    ∙ rw (lt-ltb (k - 1) n (omega arith), get_or-blank {A = ℕ} 8 0 (k - 1)) (omega arith)
    ∙ at_before l k (λ e. omega arith)
  where
    entry : ℕ → ℕ
    entry i = cond (ltb i n) (max (get_or (replicate 8 0) i 0) (get_or l i 0)) (get_or (replicate 8 0) i 0)

-- a cell of the table
get_or-rows_of : (v : List ℕ) (j q : ℕ) → q < 64 → get_or (rows_of j v) q 0 ≡ cond (ltb (q % 8) j) (get_or v (q / 8) 0) 0
unfolding with_column
get_or-rows_of v zero q h = get_or-blank {A = ℕ} 64 0 q ∙ rw (le-ltb (q % 8) 0 (omega arith))
get_or-rows_of v (suc j) q h =
    get_or-listed 0 64 (λ i. cond (eqb (i % 8 + 1) (suc j)) (get_or v (i / 8) 0) (get_or (rows_of j v) i 0)) q h
    ∙ rw (zero-add q, get_or-rows_of v j q h) (go (eq? (q % 8 + 1) (suc j)) (lt? (q % 8) j))
  where
    x : ℕ
    x = get_or v (q / 8) 0

    go : {s t : Bool} → Eq? (q % 8 + 1) (suc j) s → Lt? (q % 8) j t → cond s x (cond t x 0) ≡ cond (ltb (q % 8) (suc j)) x 0
    go (same e) t = rw (lt-ltb (q % 8) (suc j) (omega arith))
    go (other d) (lt a) = rw (lt-ltb (q % 8) (suc j) (omega arith))
    go (other d) (ge a) = rw (le-ltb (q % 8) (suc j) (omega arith))

module _ (n : ℕ) (most : n ≤ 8) where
  units-up_to : (l : List ℕ) → units n (at (up_to n l)) ≡ units n (at l)
  units-up_to l = units-same n (at (up_to n l)) (at l) (λ k a b. at-up_to n l k most a b)

  -- unit k's number in each cell of row k
  grid-rows_of : (v : List ℕ) → grid n (rows_of n v) ≡ (λ k. units n (λ j. units n (at v) k))
  unfolding grid
  grid-rows_of v = fun_ext (λ k. fun_ext (λ j. go k j (unit? n k)))
    where
      cell : (k j : ℕ) → 1 ≤ k → k ≤ n → 1 ≤ j → j ≤ n → at (row_of (rows_of n v) k) j ≡ at v k
      cell k j a b d e =
          at_from (rows_of n v) (8 * (k - 1)) j d
          ∙ get_or-rows_of v n (8 * (k - 1) + (j - 1)) (omega arith)
          ∙ rw (lt-ltb ((8 * (k - 1) + (j - 1)) % 8) n (omega arith)) (ap (λ (i : ℕ). get_or v i 0) (let q : (8 * (k - 1) + (j - 1)) / 8 ≡ k - 1 = omega arith in q))
          ∙ at_before v k (λ z. omega arith)

      go : (k j : ℕ) {t : Bool} → Unit? n k t → cond t (units n (at (row_of (rows_of n v) k)) j) 0 ≡ units n (λ j. units n (at v) k) j
      go k j (inside a b) = ap (λ (f : ℕ → ℕ). f j) (units-same n (at (row_of (rows_of n v) k)) (λ j. units n (at v) k) (λ j d e. cell k j a b d e ∙ sym (units_in n (at v) k a b)))
      go k j (outside x) = sym (ap (λ (z : ℕ). units n (λ j. z) j) (units-out n (at v) k x) ∙ units-none n j)

module _ (o : Opening) (most : o.n ≤ 8) where
  grid-fresh : grid o.n (rows_of o.n (up_to o.n o.first)) ≡ (λ k. units o.n (λ j. units o.n (at o.first) k))
  grid-fresh =
      grid-rows_of o.n most (up_to o.n o.first)
      ∙ ap (λ (f : ℕ → ℕ). λ (k : ℕ). units o.n (λ j. f k)) (units-up_to o.n most o.first)

  buf-fresh : units o.n (at (up_to o.n (replicate 8 (4 * o.w * o.n)))) ≡ units o.n (λ j. 4 * o.w * o.n)
  buf-fresh =
      units-up_to o.n most (replicate 8 (4 * o.w * o.n))
      ∙ units-same o.n (at (replicate 8 (4 * o.w * o.n))) (λ j. 4 * o.w * o.n)
      (λ k a b. sym (at_before (replicate 8 (4 * o.w * o.n)) k (λ e. omega arith)) ∙ get_or-replicate 8 (k - 1) (4 * o.w * o.n) 0 (omega arith))

  kept_fresh : (frames : List ℕ) → kept_of (core_of o) frames ≡ (λ x. [])
  unfolding kept_of core_of
  kept_fresh frames =
      fun_ext
      (λ x.
      ap (λ (m : ℕ). cond (leb (lowest (core_of o)) x) (cond (ltb x (at o.first o.me)) (part frames (117 * (x - lowest (core_of o))) m) []) [])
      (get_or-blank {A = ℕ} 4 0 (x - lowest (core_of o)))
      ∙ none (leb (lowest (core_of o)) x) (ltb x (at o.first o.me)))
    where
      none : (s t : Bool) → ◌≡◌ {A = List ℕ} (cond s (cond t [] []) []) []
      none true true = refl
      none true false = refl
      none false t = refl

  pub fresh-look : (acks bytes frames : List ℕ) → look (core_of o) acks bytes frames ≡ opened o.me o.n o.w o.cid (at o.first)
  unfolding look core_of opened
  fresh-look acks bytes frames = rw (units-up_to o.n most o.first, grid-fresh, buf-fresh, kept_fresh frames)

-- ---- the closed unit

-- opened with nothing, a unit is closed
pub closed-fresh : core_of (record { me = 0; n = 0; w = 0; cid = 0; first = replicate 8 0 }) ≡ closed_core
unfolding core_of raised
closed-fresh = refl

pub closed-look : (acks bytes frames : List ℕ) → look closed_core acks bytes frames ≡ closed
unfolding closed
closed-look acks bytes frames =
    sym (ap (λ (c : Core). look c acks bytes frames) closed-fresh)
    ∙ fresh-look (record { me = 0; n = 0; w = 0; cid = 0; first = replicate 8 0 }) (omega arith) acks bytes frames
    ∙ ap (opened 0 0 0 0) (fun_ext (λ k. none k))
  where
    none : (k : ℕ) → at (replicate 8 0) k ≡ 0
    none zero = refl
    none (suc k) = get_or-blank 8 0 k

-- ---- the two ways it ends

abbrev pub Opened : Type 0
Opened = Core × Answered ⊤

pub data OpensSound (acks : List ℕ) : Opened → Type 0 where
  opens : (c : Core) → sound_of c acks ≡ true → OpensSound acks (c, Ok tt)
  refuses : OpensSound acks (closed_core, Err CannotOpen)

module _ (o : Opening) where
  -- what the rules open with the same arguments
  abbrev there : Rules.Opened
  there = opening o.me o.n o.w o.cid (at o.first)

  abbrev fresh : State
  fresh = opened o.me o.n o.w o.cid (at o.first)

  abbrev Fits : Type 0
  Fits = Opens o.me o.n o.w o.cid (at o.first)

  opened-cases : (P : Opened → Rules.Opened → Type 0)
      → P (closed_core, Err CannotOpen) (record { answer = 2; unit = closed })
      → (Fits → P (core_of o, Ok tt) (record { answer = 0; unit = fresh }))
      → P (opened_of o) there
  unfolding opened_of opening open_checks
  opened-cases P x y =
      go (ranges_fit o.me o.n o.w && leb o.cid last && every 1 o.n (λ k. between 1 last (at o.first k)))
      (λ e. passed-opens o.me o.n o.w o.cid (at o.first) (ap not e, tt))
    where
      go : (t : Bool) → (t ≡ true → Fits)
          → P (cond (not t) (closed_core, Err CannotOpen) (core_of o, Ok tt))
          (cond (not t) (record { answer = 2; unit = closed }) (record { answer = 0; unit = fresh }))
      go true f = y (f refl)
      go false f = x

  -- answer and unit are those of the rules, whatever the arrays hold
  pub opening-look : (acks bytes frames : List ℕ) → record { answer = answer_of (opened_of o).1; unit = look (opened_of o).0 acks bytes frames } ≡ there
  opening-look acks bytes frames =
      opened-cases (λ r q. record { answer = answer_of r.1; unit = look r.0 acks bytes frames } ≡ q)
      (ap (λ (s : State). record { answer = 2; unit = s }) (closed-look acks bytes frames))
      (λ f. ap (λ (s : State). record { answer = 0; unit = s }) (fresh-look o f.ranges.n-high acks bytes frames))

  -- the unit is sound, or closed
  pub opened-sound : (acks : List ℕ) → OpensSound acks (opened_of o)
  opened-sound acks =
      opened-cases (λ r q. OpensSound acks r) refuses
      (λ f.
      opens (core_of o)
      (sound-look (core_of o) acks [] []
      ∙ ap sound (fresh-look o f.ranges.n-high acks [] [])
      ∙ facts-sound fresh (RulesOpening.opened-sound o.me o.n o.w o.cid (at o.first) f)))
