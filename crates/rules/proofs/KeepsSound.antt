-- The steps keep soundness: settling, an acceptance, a take, and what is noted of missing numbers.
use mathlib.Core.Bool.{Bool, true, false, not, ◌&&◌}
use mathlib.Core.Logic.{◌⊎◌, inl, inr}
use mathlib.Core.List.Memᴰ
use mathlib.Core.List.{List, ◌∷◌, ◌++◌, Memᴰ}
use mathlib.Core.Path.{◌≡◌, refl, sym, ap, subst, ◌∙◌}
use Prim.Native.Nat.{ℕ, suc, ◌+◌, ◌≤◌, ◌<◌, max}
use native.Mathlib.Omega.{arith}
use lib.Dec.{eqb}
use borrow.Author.Tests.{le-leb}
use Rattle.rules.specs.Maps.{all, upd, column, at}
use Rattle.rules.specs.Message.{Message}
use Rattle.rules.specs.State.{Place, State, min_al, taken}
use Rattle.rules.specs.Steps.{placed, stored, noted, with_lists, preacked, preack_to, moved, accepted, without_taken}
use Rattle.rules.specs.Sound.{place_fits}
use Rattle.rules.specs.Calls.{full}
use Rattle.rules.proofs.MapsLaws.{Eq?, same, other, eq?, upd-all, column-all, column-same, least-le, least-glb}
use Rattle.rules.proofs.StepsLaws.{Due, Ready, preack_to-all, confirm-all}
use Rattle.rules.proofs.PlacesLaws.{bit, all-mem, mem-all, from-mem, tally, all-tally, tally-preacked, tally-moved, tally-stored, tally-without_taken, stands, count}
use Rattle.rules.proofs.SlotsLaws.{free_slot-lt, placed-free}
use Rattle.rules.proofs.SoundLaws.{Ranges, Nexts, Window, Within, Held, Kept, Sound, place_fits-facts, facts-place_fits}

-- ---- the places

-- what each place of a list is, each place of a list with the same counts is
pub held_same : (s : State) (l r : List Place) → ((f : Place → ℕ) → tally f r ≡ tally f l)
    → ((p : Place) → Memᴰ p l → Held s.n s.w p) → (p : Place) → Memᴰ p r → Held s.n s.w p
held_same s l r e h p m = place_fits-facts s p (all-mem (place_fits s) every m)
  where
    every : all (place_fits s) r ≡ true
    every =
        all-tally (place_fits s) r
        ∙ ap (λ (x : ℕ). eqb x 0) (e (λ q. bit (not (place_fits s q))))
        ∙ sym (all-tally (place_fits s) l)
        ∙ mem-all (place_fits s) l (λ q n. facts-place_fits s q (h q n))

-- ---- settling

-- other lists and another PAL
relisted : (s : State) (pal : ℕ → ℕ → ℕ) (w o c : List Place) → Sound s
    → ((k j : ℕ) → 1 ≤ k → k ≤ s.n → 1 ≤ j → j ≤ s.n → 0 < pal k j)
    → ((p : Place) → Memᴰ p (c ++ o ++ w) → Held s.n s.w p) → ((j k : ℕ) → count j k (c ++ o ++ w) ≤ 1) → Sound (with_lists s pal w o c)
unfolding min_al
relisted s pal w o c f nexts held once =
    record {
      ranges = f.ranges;
      nexts = record { seq = f.nexts.seq; req = f.nexts.req; heard = f.nexts.heard; al = f.nexts.al; pal = nexts };
      own = f.own;
      window = record { low = f.window.low; high = f.window.high };
      held = held;
      kept = record { short = f.kept.short; long = f.kept.long };
      once = once;
    }

pub preacked-sound : (j : ℕ) (s : State) (p : Place) (ps : List Place) → Sound s → Due j s p ps → Sound (preacked s p)
unfolding preacked
preacked-sound j s p ps f due =
    relisted s _ _ _ _ f
    (column-all s.pal p.src (at p.ack) (λ k c z. 1 ≤ k → k ≤ s.n → 1 ≤ c → c ≤ s.n → 0 < z) (λ k a b x y. mine.says.acks k a b)
    (λ k c d. f.nexts.pal k c))
    (held_same s (taken s) (taken (preacked s p)) (λ g. tally-preacked g j s p ps due) f.held)
    (λ i k. subst (λ z. z ≤ 1) (sym (tally-preacked (λ q. bit (stands i k q)) j s p ps due)) (f.once i k))
  where
    mine : Held s.n s.w p
    mine = f.held p (Memᴰ.append_right (s.confirmed ++ s.ordered) (from-mem j s.waiting p ps due.oldest))

pub moved-sound : (s : State) (p : Place) (ps : List Place) → Sound s → Ready s p ps → Sound (moved s p)
unfolding moved
moved-sound s p ps f ready =
    relisted s _ _ _ _ f f.nexts.pal (held_same s (taken s) (taken (moved s p)) (λ g. tally-moved g s p ps ready) f.held)
    (λ i k. subst (λ z. z ≤ 1) (sym (tally-moved (λ q. bit (stands i k q)) s p ps ready)) (f.once i k))

pub settled-sound : (s : State) (p : Message) → Sound (stored s p) → Sound (accepted s p)
unfolding accepted
settled-sound s p f =
    confirm-all Sound (λ t q qs h ready. moved-sound t q qs h ready) (preack_to s.n (stored s p))
    (preack_to-all Sound (λ j t q qs h due. preacked-sound j t q qs h due) s.n (stored s p) f).0

-- ---- acceptance

-- what acceptance of p needs of the unit: soundness but for REQ_i, which p itself may set right, and of p
pub record Storable (s : State) (p : Message) : Type 0 where
  pub ranges : Ranges s.me s.n s.w
  pub nexts : Nexts s
  pub window : Window s
  pub held : (q : Place) → Memᴰ q (taken s) → Held s.n s.w q
  pub kept : Kept s
  pub once : (j k : ℕ) → count j k (taken s) ≤ 1
  pub says : Within s.n p.src p.seq p.ack p.text
  pub room : full s p.src ≡ false
  pub own : upd s.req p.src (suc p.seq) s.me ≡ s.seq
  pub low : min_al s s.me ≤ at p.ack s.me
  pub high : at p.ack s.me ≤ s.seq

-- the least of the own row does not fall
pub min_al-rises : (s : State) (p : Message) → 1 ≤ s.n → min_al s s.me ≤ at p.ack s.me → min_al s s.me ≤ min_al (stored s p) s.me
unfolding min_al stored
min_al-rises s p one low =
    least-glb s.n (column s.al p.src (at p.ack) s.me) (min_al s s.me) one
    (λ c a b.
    column-all s.al p.src (at p.ack) (λ k c z. k ≡ s.me → 1 ≤ c → c ≤ s.n → min_al s s.me ≤ z)
    (λ k e x y. subst (λ i. min_al s s.me ≤ at p.ack i) (sym e) low)
    (λ k c d e x y. subst (λ i. min_al s s.me ≤ s.al i c) (sym e) (least-le s.n (s.al s.me) c x y)) s.me c refl a b)

module _ (s : State) (p : Message) (f : Storable s p) where
  -- the place that p takes
  stored-mine : Held s.n s.w (placed s p)
  unfolding placed
  stored-mine = record { slot = free_slot-lt s p.src f.room; says = f.says }

  stored-held : (q : Place) → Memᴰ q (taken (stored s p)) → Held s.n s.w q
  stored-held = held_same s (placed s p ∷ taken s) (taken (stored s p)) (λ g. tally-stored g s p) (λ q m. go q (Memᴰ.cases_cons m))
    where
      go : (q : Place) → (q ≡ placed s p) ⊎ Memᴰ q (taken s) → Held s.n s.w q
      go q (inl e) = subst (λ z. Held s.n s.w z) (sym e) stored-mine
      go q (inr m) = f.held q m

  stored-once : (j k : ℕ) → count j k (taken (stored s p)) ≤ 1
  stored-once j k = subst (λ z. z ≤ 1) (sym (tally-stored (λ q. bit (stands j k q)) s p)) (go (eq? j (placed s p).src) (eq? k (placed s p).slot))
    where
      go : {a b : Bool} → Eq? j (placed s p).src a → Eq? k (placed s p).slot b → bit (a && b) + count j k (taken s) ≤ 1
      go (same x) (same y) = rw (x, y) (omega (arith, placed-free s p f.room))
      go (same x) (other y) = omega (arith, f.once j k)
      go (other x) y = omega (arith, f.once j k)

  stored-nexts : Nexts (stored s p)
  unfolding stored
  stored-nexts =
      record {
        seq = f.nexts.seq;
        req = upd-all s.req p.src (suc p.seq) (λ k x. 1 ≤ k → k ≤ s.n → 0 < x) (λ a b. omega arith) (λ k d. f.nexts.req k);
        heard =
            upd-all s.heard p.src (max (s.heard p.src) (suc p.seq)) (λ k x. 1 ≤ k → k ≤ s.n → 0 < x) (λ a b. omega arith)
            (λ k d. f.nexts.heard k);
        al =
            column-all s.al p.src (at p.ack) (λ k c x. 1 ≤ k → k ≤ s.n → 1 ≤ c → c ≤ s.n → 0 < x)
            (λ k a b x y. f.says.acks k a b) (λ k c d. f.nexts.al k c);
        pal = f.nexts.pal;
      }

  stored-rises : min_al s s.me ≤ min_al (stored s p) s.me
  stored-rises = min_al-rises s p (omega (arith, f.ranges.n-low)) f.low

  stored-window : Window (stored s p)
  unfolding stored min_al
  stored-window =
      record {
        low =
            omega (
              arith,
              column-same s.al p.src (at p.ack) s.me,
              f.high,
              least-le s.n (column s.al p.src (at p.ack) s.me) p.src f.says.src-low f.says.src-high,
            );
        high = omega (arith, stored-rises, f.window.high);
      }

  stored-kept : Kept (stored s p)
  unfolding stored min_al
  stored-kept =
      record {
        short = λ x a b. rw (le-leb _ x a) (f.kept.short x (omega (arith, stored-rises)) b);
        long = λ x a b. rw (le-leb _ x a) (f.kept.long x (omega (arith, stored-rises)) b);
      }

  pub stored-sound : Sound (stored s p)
  unfolding stored
  stored-sound =
      record { ranges = f.ranges; nexts = stored-nexts; own = f.own; window = stored-window; held = stored-held; kept = stored-kept; once = stored-once }

pub accepted-sound : (s : State) (p : Message) → Storable s p → Sound (accepted s p)
accepted-sound s p f = settled-sound s p (stored-sound s p f)

-- ---- take, and what is noted

pub without_taken-sound : (s : State) (p : Place) (ps : List Place) → s.confirmed ≡ p ∷ ps → Sound s → Sound (without_taken s)
unfolding without_taken
without_taken-sound s p ps e f =
    relisted s _ _ _ _ f f.nexts.pal
    (λ q m. held_same s (taken s) (p ∷ taken (without_taken s)) (λ g. tally-without_taken g s p ps e) f.held q (Memᴰ.tail m))
    (λ j k. omega (arith, tally-without_taken (λ q. bit (stands j k q)) s p ps e, f.once j k))

pub noted-sound : (s : State) (p : Message) → Sound s → Sound (noted s p)
unfolding noted min_al
noted-sound s p f =
    record {
      ranges = f.ranges;
      nexts = record { seq = f.nexts.seq; req = f.nexts.req; heard = λ k a b. omega (arith, f.nexts.heard k a b); al = f.nexts.al; pal = f.nexts.pal };
      own = f.own;
      window = record { low = f.window.low; high = f.window.high };
      held = f.held;
      kept = record { short = f.kept.short; long = f.kept.long };
      once = f.once;
    }
