-- What taking gives where nothing is confirmed, and where a message is taken.
use Rattle.std.specs.Prelude.{true, List, ◌≡◌, ◌≢◌, ℕ, ◌*◌, ◌≤◌, length, get_or, Ok, Err}
use mathlib.Core.Path.{refl}
use borrow.Author.Tests.{eq-eqb, ne_eqb, le-ltb}
use Rattle.rules.specs.Calls.{written}
use Rattle.answers.specs.declared.Refusal.TheVariants.{Nothing}
use Rattle.tables.specs.Rows.{part}
use Rattle.lists.specs.declared.Order.{Order}
use Rattle.lists.specs.Order.{sender_of, without_first}
use Rattle.state.specs.declared.Core.{Core}
use Rattle.state.specs.Soundness.{sound_of}
use Rattle.state.specs.Changed.{with_order}
use Rattle.handing.specs.Handing.{Given, Gives, oldest_place, length_at, taking_of}

gives : {A : Type 0} (g : Given A) (r : A) (after : List ℕ) → g ≡ record { result = r; output = after } → Gives g r after
gives g r after e = rw e (record { result = refl; output = refl })

module _ (c : Core) (acks bytes out : List ℕ) (s : sound_of c acks ≡ true) where
  pub taking-18 : c.order.confirmed ≡ 0 → Gives (taking_of c acks bytes out) (c, Err Nothing) out
  unfolding taking_of
  taking-18 e = gives _ _ _ (rw (s, eq-eqb c.order.confirmed 0 e))

  -- place p, with m bytes of data
  module _ (e : c.order.confirmed ≢ 0) (p : ℕ) (z : p ≡ oldest_place c) (m : ℕ) (y : m ≡ length_at c p) where
    pub taking-0 : m ≤ length out → (seq : ℕ) → seq ≡ get_or c.seqs p 0 → (rest : Order) → rest ≡ without_first c.order
        → (after : List ℕ) → after ≡ written out (part bytes (48 * p) m)
        → Gives (taking_of c acks bytes out) (with_order c rest, Ok (record { src = sender_of p; seq = seq; len = m })) after
    unfolding taking_of
    taking-0 h seq x rest o after w =
        gives _ _ _ (rw (s, ne_eqb c.order.confirmed 0 e, ← z, ← y, le-ltb (length out) m h, ← x, ← o, w))
