-- What the group shows with another unit, and with a frame more.
use mathlib.Core.Bool.{Bool, cond}
use mathlib.Core.List.{List, [], ◌∷◌, ◌++◌, append-nil}
use mathlib.Core.Path.{◌≡◌, refl, sym, ap, ◌∙◌, fun_ext}
use Prim.Native.Nat.{ℕ, zero, suc, ◌+◌, ◌-◌, ◌<◌, ◌≤◌}
use native.Mathlib.Omega.{arith}
use native.Mathlib.Numerals.{add-one}
use lib.ListN.{length, get_or, take, drop, set, length-append, length-drop, get_or-append}
use lib.Seq.{ext_get_or, get_or-take, get_or-drop, get_or-set_same, get_or-set_other, get_or_at, set-get_or, length-take-le}
use Rattle.rules.specs.Maps.{upd}
use Rattle.rules.specs.State.{closed}
use Rattle.rules.proofs.MapsLaws.{Lt?, lt, ge, lt?, Eq?, same, other, eq?, is-between, get_or-listed}
use Rattle.tables.specs.Rows.{part}
use Rattle.tables.proofs.GridLaws.{Unit?, inside, outside, unit?}
use Rattle.tables.proofs.ListedLaws.{length_part}
use Rattle.std.specs.Prelude.{Ok, Err}
use Rattle.answers.specs.Answers.{Answered}
use Rattle.unit.specs.declared.Unit.{Unit}
use Rattle.unit.specs.View.{view}
use Rattle.bench.specs.declared.desk.Frame.{Frame}
use Rattle.bench.specs.declared.desk.Desk.{Desk}
use Rattle.bench.specs.Desk.{no_unit, units_of, no_frame, frame_in, frames_in, desk_of, Fits, with_unit, kept_in}

-- ---- units

module _ (l : List Unit) (u : ℕ) (low : 1 ≤ u) (high : u ≤ 3) where
  pub unit-is : units_of l u ≡ view (get_or l (u - 1) no_unit)
  unfolding units_of
  unit-is = rw (is-between 1 3 u low high)

  module _ (long : length l ≡ 3) where
    pub unit-set : (x : Unit) → units_of (set l (u - 1) x) ≡ upd (units_of l) u (view x)
    unfolding units_of upd
    unit-set x = fun_ext (λ k. go k (eq? k u) (unit? 3 k))
      where
        go : (k : ℕ) {s t : Bool} → Eq? k u s → Unit? 3 k t
            → cond t (view (get_or (set l (u - 1) x) (k - 1) no_unit)) closed ≡ cond s (view x) (cond t (view (get_or l (k - 1) no_unit)) closed)
        go k (same e) (inside a b) = rw (e, get_or-set_same l (u - 1) x no_unit (omega arith))
        go k (same e) (outside f) = absurd (f (omega arith) (omega arith))
        go k (other n) (inside a b) = ap view (get_or-set_other l (u - 1) (k - 1) x no_unit (λ e. n (omega arith)))
        go k (other n) (outside f) = refl

    -- a unit that stays
    pub unit_kept : upd (units_of l) u (view (get_or l (u - 1) no_unit)) ≡ units_of l
    unit_kept = sym (unit-set (get_or l (u - 1) no_unit)) ∙ ap units_of (set-get_or l (u - 1) no_unit)

pub with-fits : (d : Desk) (u : ℕ) (x : Unit) → Fits d → Fits (with_unit d u x)
with-fits d u x f = record { units = f.units; frames = f.frames; lengths = f.lengths }

-- ---- frames

-- a part that lies within the list
pub part-take : (l : List ℕ) (a m : ℕ) → a + m ≤ length l → part l a m ≡ take m (drop a l)
part-take l a m h =
    ext_get_or 0 (part l a m) (take m (drop a l)) (length_part l a m ∙ sym (length-take-le m (drop a l) (omega (arith, length-drop a l))))
    (λ i x.
    let h : i < m = omega (arith, length_part l a m) in
    get_or-listed a m (λ j. get_or l j 0) i h ∙ sym (get_or-take m (drop a l) i 0 h ∙ get_or-drop a l i 0))

module _ (frames : List Frame) where
  pub length-frames : (m : ℕ) → length (frames_in frames m) ≡ m
  unfolding frames_in
  length-frames zero = refl
  length-frames (suc m) = length-append (frames_in frames m) (frame_in frames m ∷ []) ∙ rw (length-frames m) (add-one m)

  pub frame_at : (m i : ℕ) → i < m → get_or (frames_in frames m) i [] ≡ frame_in frames i
  unfolding frames_in
  frame_at zero i h = absurd (omega arith)
  frame_at (suc m) i h = go (lt? i m) (frame_at m i)
    where
      go : {t : Bool} → Lt? i m t → (i < m → get_or (frames_in frames m) i [] ≡ frame_in frames i)
          → get_or (frames_in frames m ++ (frame_in frames m ∷ [])) i [] ≡ frame_in frames i
      go (lt x) ih = get_or-append (frames_in frames m) (frame_in frames m ∷ []) [] i (omega (arith, length-frames m)) ∙ ih x
      go (ge x) ih =
          let e : m ≡ i = omega arith in
          get_or_at (frames_in frames m) (frame_in frames m) [] [] i (length-frames m ∙ e) ∙ ap (frame_in frames) e

frames-same : (frames frames' : List Frame) (m : ℕ) → ((i : ℕ) → i < m → frame_in frames i ≡ frame_in frames' i)
    → frames_in frames m ≡ frames_in frames' m
unfolding frames_in
frames-same frames frames' zero h = refl
frames-same frames frames' (suc m) h = rw (frames-same frames frames' m (λ i x. h i (omega arith)), h m (omega arith))

-- one more frame, in the next slot
module _ (d : Desk) (fits : Fits d) (room : d.count < 64) (long : length d.frames ≡ 64) (f : Frame) (short : f.len ≤ 117) where
  abbrev frames' : List Frame
  frames' = set d.frames d.count f

  shown-is : (g : Frame) {h : Frame} → h ≡ g → take h.len h.bytes ≡ take g.len g.bytes
  shown-is g e = ap (λ (h : Frame). take h.len h.bytes) e

  old-frame : (i : ℕ) → i < d.count → frame_in frames' i ≡ frame_in d.frames i
  old-frame i h = shown-is (get_or d.frames i no_frame) (get_or-set_other d.frames d.count i f no_frame (λ e. omega arith))

  new-frame : frame_in frames' d.count ≡ take f.len f.bytes
  new-frame = shown-is f (get_or-set_same d.frames d.count f no_frame (omega arith))

  frames-more : frames_in frames' (d.count + 1) ≡ frames_in d.frames d.count ++ (take f.len f.bytes ∷ [])
  unfolding frames_in
  frames-more = rw (add-one d.count, frames-same frames' d.frames d.count old-frame, new-frame)

  lengths-more : (i : ℕ) → i < d.count + 1 → (get_or frames' i no_frame).len ≤ 117
  lengths-more i h = go (eq? i d.count)
    where
      go : {t : Bool} → Eq? i d.count t → (get_or frames' i no_frame).len ≤ 117
      go (same e) = rw (e, get_or-set_same d.frames d.count f no_frame (omega arith)) short
      go (other n) = rw (get_or-set_other d.frames d.count i f no_frame n) (fits.lengths i (omega arith))

-- the length of what was written; 0 where a call refused
abbrev pub length_of : Answered ℕ → ℕ
length_of (Ok len) = len
length_of (Err r) = 0

-- the frames that a call wrote: one, or none
abbrev pub frames_of : Answered ℕ → List ℕ → List (List ℕ)
frames_of (Ok len) bytes = take len bytes ∷ []
frames_of (Err r) bytes = []

-- what is kept of a call
module _ (d : Desk) (fits : Fits d) (room : d.count < 64) (long : length d.frames ≡ 64) (bytes : List ℕ) where
  pub kept-shows : (r : Answered ℕ) → length_of r ≤ 117
      → desk_of (kept_in d r bytes) ≡ record { n = d.n; units = units_of d.units; frames = frames_in d.frames d.count ++ frames_of r bytes }
  unfolding kept_in
  kept-shows (Ok len) short = rw (frames-more d fits room long (record { bytes = bytes; len = len }) short)
  kept-shows (Err r) short = rw append-nil

  pub kept-fits : (r : Answered ℕ) → length_of r ≤ 117 → Fits (kept_in d r bytes)
  unfolding kept_in
  kept-fits (Ok len) short =
      record { units = fits.units; frames = omega arith; lengths = lengths-more d fits room long (record { bytes = bytes; len = len }) short }
  kept-fits (Err r) short = fits

  pub kept_more : (r : Answered ℕ) → (kept_in d r bytes).count ≤ d.count + 1
  unfolding kept_in
  kept_more (Ok len) = omega arith
  kept_more (Err r) = omega arith
