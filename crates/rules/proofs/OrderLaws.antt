-- Which messages are pre-acknowledged, and which are confirmed.
use mathlib.Core.Logic.{◌⊎◌, inl, inr}
use mathlib.Core.List.Memᴰ
use mathlib.Core.List.{List, [], ◌∷◌, ◌++◌, tail, Memᴰ}
use mathlib.Core.Path.{◌≡◌, refl, sym, subst}
use Prim.Native.Nat.{ℕ, ◌≤◌, ◌<◌}
use native.Mathlib.Omega.{arith}
use Rattle.rules.specs.Maps.{least}
use Rattle.rules.specs.Message.{Message}
use Rattle.rules.specs.State.{Place, State, min_al, min_pal}
use Rattle.rules.specs.Steps.{insert, stored, preacked, preack_to, moved, accepted}
use Rattle.rules.proofs.MapsLaws.{least-le}
use Rattle.rules.proofs.InsertLaws.{insert-mem}
use Rattle.rules.proofs.StepsLaws.{Due, Ready, preack_to-all, confirm-all}

-- by table t, AL or PAL, each unit 1 to n expects a number past q's
pub record Beyond (n : ℕ) (t : ℕ → ℕ → ℕ) (q : Place) : Type 0 where
  pub each : (k : ℕ) → 1 ≤ k → k ≤ n → q.seq < t q.src k

least-beyond : (n : ℕ) (t : ℕ → ℕ → ℕ) (q : Place) → q.seq < least n (t q.src) → Beyond n t q
least-beyond n t q h = record { each = λ k a b. omega (arith, least-le n (t q.src) k a b) }

-- what an acceptance moves to the ordered list and to the confirmed one
pub record Moves (s t : State) : Type 0 where
  pub preacknowledged : (q : Place) → Memᴰ q (t.confirmed ++ t.ordered) → Memᴰ q (s.confirmed ++ s.ordered) ⊎ Beyond t.n t.al q
  pub confirmed : (q : Place) → Memᴰ q t.confirmed → Memᴰ q s.confirmed ⊎ Beyond t.n t.pal q

preacked-moves : (j : ℕ) (s t : State) (p : Place) (ps : List Place) → t.confirmed ≡ s.confirmed → Moves s t → Due j t p ps → Moves s (preacked t p)
unfolding preacked min_al
preacked-moves j s t p ps same h due =
    record {
      preacknowledged = λ q m. go q (Memᴰ.append_cases t.confirmed m);
      confirmed = λ q m. inl (subst (λ (l : List Place). Memᴰ q l) same m);
    }
  where
    mine : Beyond t.n t.al p
    mine = least-beyond t.n t.al p (subst (λ (k : ℕ). p.seq < least t.n (t.al k)) (sym due.src) due.early)

    new : (q : Place) → (q ≡ p) ⊎ Memᴰ q t.ordered → Memᴰ q (s.confirmed ++ s.ordered) ⊎ Beyond t.n t.al q
    new q (inl e) = inr (subst (λ (z : Place). Beyond t.n t.al z) (sym e) mine)
    new q (inr m) = h.preacknowledged q (Memᴰ.append_right t.confirmed m)

    go : (q : Place) → Memᴰ q t.confirmed ⊎ Memᴰ q (insert p t.ordered)
        → Memᴰ q (s.confirmed ++ s.ordered) ⊎ Beyond t.n t.al q
    go q (inl m) = h.preacknowledged q (Memᴰ.append_left t.ordered m)
    go q (inr m) = new q (insert-mem p q t.ordered m)

tail-mem : (q : Place) (l : List Place) → Memᴰ q (tail l) → Memᴰ q l
tail-mem q [] m = m
tail-mem q (p ∷ l) m = Memᴰ.tail m

moved-moves : (s t : State) (p : Place) (ps : List Place) → Moves s t → Ready t p ps → Moves s (moved t p)
unfolding moved min_pal
moved-moves s t p ps h ready =
    record {
      preacknowledged = λ q m. h.preacknowledged q (back q (Memᴰ.append_cases (t.confirmed ++ (p ∷ [])) m));
      confirmed = λ q m. go q (Memᴰ.append_cases t.confirmed m);
    }
  where
    front : (q : Place) → Memᴰ q t.confirmed ⊎ Memᴰ q (p ∷ []) → Memᴰ q (t.confirmed ++ t.ordered)
    front q (inl m) = Memᴰ.append_left t.ordered m
    front q (inr m) =
        Memᴰ.append_right t.confirmed
        (subst (λ (l : List Place). Memᴰ q l) (sym ready.head) (Memᴰ.head (Memᴰ.eq_of_singleton m)))

    back : (q : Place) → Memᴰ q (t.confirmed ++ (p ∷ [])) ⊎ Memᴰ q (tail t.ordered) → Memᴰ q (t.confirmed ++ t.ordered)
    back q (inl m) = front q (Memᴰ.append_cases t.confirmed m)
    back q (inr m) = Memᴰ.append_right t.confirmed (tail-mem q t.ordered m)

    go : (q : Place) → Memᴰ q t.confirmed ⊎ Memᴰ q (p ∷ []) → Memᴰ q s.confirmed ⊎ Beyond t.n t.pal q
    go q (inl m) = h.confirmed q m
    go q (inr m) =
        inr (subst (λ (z : Place). Beyond t.n t.pal z) (sym (Memᴰ.eq_of_singleton m)) (least-beyond t.n t.pal p ready.early))

pub accepted-moves : (s : State) (p : Message) → Moves s (accepted s p)
unfolding accepted stored preacked
accepted-moves s p =
    confirm-all (Moves s) (λ t q qs h ready. moved-moves s t q qs h ready) (preack_to s.n (stored s p))
    (preack_to-all Early early s.n (stored s p) (refl, record { preacknowledged = λ q m. inl m; confirmed = λ q m. inl m })).0.1
  where
    Early : State → Type 0
    Early t = (t.confirmed ≡ s.confirmed) × Moves s t

    early : (j : ℕ) (t : State) (q : Place) (qs : List Place) → Early t → Due j t q qs → Early (preacked t q)
    early j t q qs h due = (h.0, preacked-moves j s t q qs h.0 h.1 due)
