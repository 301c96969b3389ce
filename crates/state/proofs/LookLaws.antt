-- The state that a unit's numbers and arrays show: its lists, its places, its minAL.
use mathlib.Core.List.{List}
use mathlib.Core.Path.{◌≡◌, refl, sym, ap}
use Prim.Native.Nat.{ℕ, ◌-◌, ◌*◌, ◌≤◌, ◌<◌}
use lib.ListN.{length, get_or}
use borrow.Author.Tests.{le-leb, lt-ltb}
use Rattle.rules.specs.State.{State, min_al, free}
use Rattle.tables.proofs.GridLaws.{least-grid}
use Rattle.tables.proofs.ListedLaws.{length_part}
use Rattle.lists.specs.View.{Holds, Shows}
use Rattle.lists.proofs.TakenLaws.{taken-length}
use Rattle.state.specs.declared.Core.{Core}
use Rattle.state.specs.View.{place_at, lowest, free_places, kept_of, look}
use Rattle.state.specs.Soundness.{low_in, own_low}

module _ (c : Core) (acks bytes : List ℕ) where
  pub holds-look : Holds (place_at c acks bytes) c.n c.seqs acks
  unfolding place_at
  holds-look = record { src = λ p h. refl; slot = λ p h. refl; seq = λ p h. refl; ack = λ p h. refl }

  pub shows-look : (frames : List ℕ) → Shows (place_at c acks bytes) c.n c.order (look c acks bytes frames)
  unfolding look
  shows-look frames = record { units = refl; pal = refl; waiting = refl; ordered = refl; confirmed = refl }

pub lowest-is : (c : Core) → 1 ≤ c.me → c.me ≤ c.n → lowest c ≡ own_low c
unfolding low_in
lowest-is c a b = least-grid c.n c.al c.me a b

module _ (c : Core) (acks bytes frames : List ℕ) where
  abbrev s : State
  s = look c acks bytes frames

  pub low-look : 1 ≤ c.me → c.me ≤ c.n → own_low c ≡ min_al s c.me
  unfolding min_al look
  low-look a b = sym (lowest-is c a b)

  pub places-look : free_places c ≡ free s
  unfolding free_places free look
  places-look = ap (λ (m : ℕ). 4 * c.w * c.n - m) (sym (taken-length (place_at c acks bytes) c.n c.order s (shows-look c acks bytes frames)))

-- the frame of a kept number is as long as its slot says
pub kept-length : (c : Core) (frames : List ℕ) (x : ℕ) → lowest c ≤ x → x < c.seq → length (kept_of c frames x) ≡ get_or c.kept (x - lowest c) 0
unfolding kept_of
kept-length c frames x a b =
    rw (le-leb (lowest c) x a, lt-ltb x c.seq b) (length_part frames (117 * (x - lowest c)) (get_or c.kept (x - lowest c) 0))
