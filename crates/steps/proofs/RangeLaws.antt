-- What the ranges of n and W bound, and what a sound unit's numbers supply.
use mathlib.Core.Bool.{true}
use mathlib.Core.List.{List}
use mathlib.Core.Path.{◌≡◌}
use Prim.Native.Nat.{ℕ, ◌*◌, ◌≤◌}
use native.Mathlib.Nat.{mul-le-mul}
use native.Mathlib.Omega.{arith}
use Rattle.rules.proofs.SlotsLaws.{first_free-le}
use Rattle.lists.specs.Order.{slots_in, takens, free_of}
use Rattle.lists.specs.declared.Order.{Order}
use Rattle.state.specs.declared.Core.{Core}
use Rattle.state.specs.Soundness.{sound_of}
use Rattle.state.proofs.RoomLaws.{sound-ranges}
use Rattle.steps.specs.Checks.{InRange}

pub places-few : (c : Core) → InRange c → 4 * c.w * c.n ≤ 128
places-few c r = mul-le-mul {n₁ = 4 * c.w} {m₁ = c.n} {n₂ = 16} {m₂ = 8} (omega (arith, r.narrow)) r.few

pub free_of-le : (o : Order) (j most : ℕ) → free_of o j most ≤ most
unfolding free_of
free_of-le o j most = omega (arith, first_free-le (slots_in j (takens o)) 0 most)

pub sound-ranged : (c : Core) (acks : List ℕ) → sound_of c acks ≡ true → InRange c
sound-ranged c acks h =
    let r = sound-ranges c acks h in
    record { own = r.i-low; unit = r.i-high; few = r.n-high; narrow = r.w-high }
