-- A place that fits is one of the 128.
use mathlib.Core.Bool.{true}
use mathlib.Core.List.{List}
use mathlib.Core.Path.{◌≡◌}
use Prim.Native.Nat.{ℕ, ◌≤◌, ◌<◌}
use native.Mathlib.Omega.{arith}
use borrow.Author.Tests.{leb-true}
use Rattle.lists.specs.Order.{sender_of}
use Rattle.rules.proofs.MapsLaws.{and_left}
use Rattle.state.specs.Soundness.{place_of}

module _ (n w : ℕ) (seqs lens acks : List ℕ) where
  pub place-sender : (p : ℕ) → place_of n w seqs lens acks p ≡ true → sender_of p ≤ n
  unfolding place_of
  place-sender p h = leb-true (sender_of p) n (search (and_left))

  pub place-room : n ≤ 8 → (p : ℕ) → place_of n w seqs lens acks p ≡ true → p < 128
  place-room most p h = omega (arith, place-sender p h)
