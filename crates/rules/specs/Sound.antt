-- When a unit value is sound (01, "What a unit holds"), clause by clause.
use Rattle.std.specs.Prelude.{Bool, true, not, ◌&&◌, List, [], ◌∷◌, ℕ, ◌+◌, ◌-◌, ◌*◌, eqb, leb, ltb, length}
use Rattle.rules.specs.Maps.{between, all, every}
use Rattle.rules.specs.Message.{last, no_zero}
use Rattle.rules.specs.State.{Place, State, min_al, taken}

-- i, n and W are in range
unfoldable pub ranges_fit : ℕ → ℕ → ℕ → Bool
ranges_fit i n w = between 2 8 n && between 2 4 w && between 1 n i

-- no "next" number is 0
unfoldable pub nexts_fit : State → Bool
nexts_fit s =
    ltb 0 s.seq
    && every 1 s.n (λ k. ltb 0 (s.req k) && ltb 0 (s.heard k))
    && every 1 s.n (λ k. every 1 s.n (λ j. ltb 0 (s.al k j) && ltb 0 (s.pal k j)))

-- minAL_i ≤ SEQ ≤ minAL_i + W
unfoldable pub window_fits : State → Bool
window_fits s = between (min_al s s.me) (min_al s s.me + s.w) s.seq

-- a stored message keeps the frame limits, its sender is 1 to n, and it stands in one of its sender's 4W places
unfoldable pub place_fits : State → Place → Bool
place_fits s p =
    between 1 s.n p.src
    && ltb p.slot (4 * s.w)
    && (ltb 0 p.seq && ltb p.seq last)
    && (eqb (length p.ack) s.n && no_zero p.ack)
    && leb (length p.text) 48

-- so do the lengths of the kept frames: 37 + 4n + d bytes, d at most 48
unfoldable pub kept_fit : State → Bool
kept_fit s =
    every (min_al s s.me) (s.seq - min_al s s.me)
    (λ x. between (37 + 4 * s.n) (85 + 4 * s.n) (length (s.kept x)))

-- the lists together hold each taken place once
abbrev pub same_place : Place → Place → Bool
same_place p q = eqb p.src q.src && eqb p.slot q.slot

abbrev pub once : List Place → Bool
once [] = true
once (p ∷ l) = all (λ q. not (same_place p q)) l && once l

unfoldable pub sound : State → Bool
sound s =
    ranges_fit s.me s.n s.w
    && nexts_fit s
    && eqb (s.req s.me) s.seq
    && window_fits s
    && all (place_fits s) (taken s)
    && kept_fit s
    && once (taken s)
