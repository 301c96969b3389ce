-- When a unit's numbers are sound (01, "What a unit holds"), clause by clause, as they stand in its arrays.
use Rattle.std.specs.Prelude.{Bool, true, not, ◌&&◌, List, [], ◌∷◌, ℕ, ◌+◌, ◌-◌, ◌*◌, eqb, leb, ltb, get_or, drop}
use Rattle.rules.specs.Maps.{between, all, among, at, every, least}
use Rattle.rules.specs.Message.{last}
use Rattle.rules.specs.Calls.{Check, ◌⇒◌}
use Rattle.rules.specs.Sound.{ranges_fit}
use Rattle.tables.specs.Rows.{row_of, none_zero}
use Rattle.lists.specs.declared.Order.{Order}
use Rattle.lists.specs.Order.{sender_of, slot_of, takens}
use Rattle.state.specs.declared.Core.{Core}

-- no "next" number of n units is 0
unfoldable pub nexts_of : ℕ → ℕ → List ℕ → List ℕ → List ℕ → List ℕ → Bool
nexts_of n seq req heard al pal =
    ltb 0 seq
    && none_zero n (at req)
    && none_zero n (at heard)
    && every 1 n (λ k. none_zero n (at (row_of al k)))
    && every 1 n (λ k. none_zero n (at (row_of pal k)))

-- minAL of unit k, read from its row
unfoldable pub low_in : List ℕ → ℕ → ℕ → ℕ
low_in al k n = least n (at (row_of al k))

-- minAL of the own index
abbrev pub own_low : Core → ℕ
own_low c = low_in c.al c.me c.n

-- the first m kept frames, of numbers from minAL on, are 37 + 4n to 85 + 4n bytes long
unfoldable pub kept_lengths : List ℕ → ℕ → ℕ → Bool
kept_lengths kept n m = every 1 m (λ k. between (37 + 4 * n) (85 + 4 * n) (at kept k))

-- low ≤ SEQ ≤ low + W, and a frame is kept for each number from low up to SEQ - 1
unfoldable pub window_of : ℕ → ℕ → ℕ → ℕ → List ℕ → Bool
window_of low w n seq kept = between low (low + w) seq && kept_lengths kept n (seq - low)

-- place p is one of the 4W of a sender 1 to n, and the message in it keeps the frame limits
unfoldable pub place_of : ℕ → ℕ → List ℕ → List ℕ → List ℕ → ℕ → Bool
place_of n w seqs lens acks p =
    leb (sender_of p) n
    && ltb (slot_of p) (4 * w)
    && between 1 (last - 1) (get_or seqs p 0)
    && none_zero n (at (drop (8 * p) acks))
    && leb (get_or lens p 0) 48

-- no number stands twice in the list
abbrev pub none_twice : List ℕ → Bool
none_twice [] = true
none_twice (p ∷ l) = not (among p l) && none_twice l

-- each taken place fits, and the lists together hold it once
unfoldable pub places_of : ℕ → ℕ → List ℕ → List ℕ → List ℕ → Order → Bool
places_of n w seqs lens acks o = all (place_of n w seqs lens acks) (takens o) && none_twice (takens o)

unfoldable pub sound_of : Core → List ℕ → Bool
sound_of c acks =
    ranges_fit c.me c.n c.w
    && nexts_of c.n c.seq c.req c.heard c.al c.order.pal
    && eqb (at c.req c.me) c.seq
    && window_of (own_low c) c.w c.n c.seq c.kept
    && places_of c.n c.w c.seqs c.lens acks c.order

-- the check that comes first in each call
abbrev pub not_sound : Core → List ℕ → List Check
not_sound c acks = (not (sound_of c acks) ⇒ 1) ∷ []
