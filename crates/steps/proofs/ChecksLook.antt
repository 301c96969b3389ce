-- The tests of both kinds of frame and of a send, on a unit's numbers and on the state that they show.
use mathlib.Core.Bool.{Bool, true, false, not, ◌&&◌, ◌||◌}
use mathlib.Core.List.{List}
use mathlib.Core.Path.{◌≡◌, refl, ap}
use Prim.Native.Nat.{ℕ, ◌*◌, ◌≤◌}
use lib.Dec.{eqb, leb}
use lib.ListN.{length}
use borrow.Author.Tests.{eqb-true, not-false}
use Rattle.rules.specs.Maps.{between}
use Rattle.rules.specs.State.{State}
use Rattle.rules.specs.Calls.{foreign, full}
use Rattle.rules.proofs.MapsLaws.{between-low, between-high, or_left, or_right}
use Rattle.lists.specs.View.{Whole}
use Rattle.lists.proofs.TakenLaws.{taken_of-is}
use Rattle.state.specs.declared.Core.{Core}
use Rattle.state.specs.View.{place_at, look}
use Rattle.state.proofs.LookLaws.{holds-look, shows-look}
use Rattle.frame.specs.declared.Head.{Head}
use Rattle.steps.specs.Checks.{of_group, no_place}

not-and : (a b : Bool) → not (a && b) ≡ not a || not b
not-and true b = refl
not-and false b = refl

-- the sender is one of n units, and there are n ACKs
pub record OfGroup (n src : ℕ) (ack : List ℕ) : Type 0 where
  pub count : length ack ≡ n
  pub low : 1 ≤ src
  pub high : src ≤ n

module _ (c : Core) (acks bytes frames : List ℕ) where
  abbrev s : State
  s = look c acks bytes frames

  pub group-look : (h : Head) (ack : List ℕ) → h.n ≡ length ack → not (of_group c h) ≡ foreign s h.src ack
  unfolding of_group foreign look
  group-look h ack e = rw e (not-and (eqb (length ack) c.n) (between 1 c.n h.src))

  pub not-foreign : (src : ℕ) (ack : List ℕ) → foreign s src ack ≡ false → OfGroup c.n src ack
  unfolding foreign look
  not-foreign src ack h =
      let unit : between 1 c.n src ≡ true = not-false (between 1 c.n src) (search (or_left, or_right)) in
      record {
        count = eqb-true (length ack) c.n (not-false (eqb (length ack) c.n) (search or_left));
        low = between-low 1 c.n src unit;
        high = between-high 1 c.n src unit;
      }

  pub full-look : Whole c.n c.order → (j : ℕ) → no_place c j ≡ full s j
  unfolding no_place full look
  full-look W j =
      ap (leb (4 * c.w))
      (taken_of-is (place_at c acks bytes) c.n c.order s (shows-look c acks bytes frames) c.seqs acks (holds-look c acks bytes) W j)
