-- What soundness says of the order of places: it has room for those that are taken, and each is of a sender 1 to n.
use mathlib.Core.Bool.{Bool, true, ◌&&◌}
use mathlib.Core.List.{List, []}
use mathlib.Core.Path.{◌≡◌, refl, sym, ap, ◌∙◌}
use Prim.Native.Nat.{ℕ, zero, suc, ◌*◌, ◌≤◌}
use native.Mathlib.Omega.{arith}
use native.Mathlib.Nat.{mul-le-mul}
use lib.ListN.{length}
use Rattle.rules.specs.Maps.{all, every, listed}
use Rattle.rules.proofs.MapsLaws.{and_left, and_right, every-at}
use Rattle.rules.proofs.SoundLaws.{Ranges, Sound, sound-facts}
use Rattle.rules.proofs.SlotsLaws.{taken-most}
use Rattle.lists.specs.Order.{total, entry, takens}
use Rattle.lists.specs.View.{Whole}
use Rattle.lists.proofs.TakenLaws.{taken-length}
use Rattle.state.specs.declared.Core.{Core}
use Rattle.state.specs.View.{place_at, look}
use Rattle.state.specs.Soundness.{place_of, places_of, sound_of}
use Rattle.state.proofs.LookLaws.{shows-look}
use Rattle.state.proofs.PlaceLaws.{place-sender}
use Rattle.state.proofs.SoundLaws.{sound-look}

all-every : (t : ℕ → Bool) (a m : ℕ) (f : ℕ → ℕ) → all t (listed a m f) ≡ every a m (λ i. t (f i))
all-every t a zero f = refl
all-every t a (suc m) f = ap (λ (b : Bool). t (f a) && b) (all-every t (suc a) m f)

module _ (c : Core) (acks : List ℕ) where
  -- the facts of the rules
  pub sound-shown : (bytes frames : List ℕ) → sound_of c acks ≡ true → Sound (look c acks bytes frames)
  sound-shown bytes frames h = sound-facts (look c acks bytes frames) (sym (sound-look c acks bytes frames) ∙ h)

  -- i, n and W are in range
  pub sound-ranges : sound_of c acks ≡ true → Ranges c.me c.n c.w
  unfolding look
  sound-ranges h = (sound-shown [] [] h).ranges

  -- more than 128 would repeat one
  pub sound-room : sound_of c acks ≡ true → total c.order ≤ 128
  unfolding look
  sound-room h =
      let s = look c acks [] [] in
      let f = sound-shown [] [] h in
      omega (
        arith,
        taken-length (place_at c acks []) c.n c.order s (shows-look c acks [] []),
        taken-most s f,
        mul-le-mul {n₁ = 4 * c.w} {m₁ = c.n} {n₂ = 16} {m₂ = 8} (omega (arith, f.ranges.w-high)) f.ranges.n-high,
      )

  -- each taken place is one of those of the senders; the array's length comes from its type
  pub sound-whole : length c.order.list ≡ 128 → sound_of c acks ≡ true → Whole c.n c.order
  unfolding sound_of places_of
  sound-whole long h =
      let fit : all fits (takens c.order) ≡ true = search (and_left, and_right) in
      record {
        long = long;
        room = sound-room h;
        senders = λ i x.
            place-sender c.n c.w c.seqs c.lens acks (entry c.order i) (every-at 0 (total c.order) (λ q. fits (entry c.order q)) (sym (all-every fits 0 (total c.order) (entry c.order)) ∙ fit) i (omega arith) (omega arith));
      }
    where
      fits : ℕ → Bool
      fits = place_of c.n c.w c.seqs c.lens acks
