-- What a unit has confirmed is, per sender, the first so many messages sent, each once.
use mathlib.Core.List.{List, [], ◌∷◌, map, Memᴰ as Mem}
use mathlib.Core.Path.{◌≡◌, refl, sym, ap, ap₂, subst, subst₂, ◌∙◌}
use Prim.Native.Nat.{ℕ, suc, ◌+◌, ◌-◌, ◌≤◌, ◌<◌}
use native.Mathlib.Omega.{arith}
use lib.ListN.{length, get_or, take, drop}
use lib.Seq.{drop-cons}
use Rattle.rules.specs.Message.{Message}
use Rattle.rules.specs.State.{Place, from}
use Rattle.rules.proofs.StepsLaws.{from-append}
use Rattle.group.specs.Runs.{Index, Did}
use Rattle.group.specs.Causality.{Ahead, sent_in}
use Rattle.group.specs.Demand.{in_message, in_place}
use Rattle.group.proofs.All.{All, all_left, all-mem, ahead-front}
use Rattle.group.proofs.Senders.{all_from, all-src, from-ahead, Upward, upward-left, upward-ahead}
use Rattle.group.proofs.Course.{Course, nothing}
use Rattle.group.proofs.Numbers.{Spoken}
use Rattle.group.proofs.Lists.{Holds, Part, Lists}
use Rattle.group.proofs.Agrees.{Listed}

-- a place says what its message says
pub holds-content : {c : Course} {top : ℕ → ℕ} → Spoken c top → (p : Place) → Holds c top p → in_place p ≡ in_message (c.msg p.src p.seq)
holds-content H p h t =
    record {
      src = sym (H.src p.src p.seq h.sent) t;
      seq = sym (H.seq p.src p.seq h.sent) t;
      ack = h.ack t;
      text = h.text t;
    }

-- places of j whose numbers rise from a hold j's messages from a on
upward-says : {c : Course} {top : ℕ → ℕ} → Spoken c top → (j : ℕ) (log : List Did) → Listed c j log → top j ≡ c.first j + length (sent_in log)
    → (a : ℕ) (l : List Place) (b : ℕ) → c.first j ≤ a → Upward a l b → All (Holds c top) l → All (λ p. p.src ≡ j) l
    → map in_place l ≡ take (length l) (map in_message (drop (a - c.first j) (sent_in log)))
upward-says H j log listed end a [] b low up holds srcs = refl
upward-says {c} {top} H j log listed end a (p ∷ l) b low up holds srcs =
    (λ t. content t ∷ upward-says H j log listed end (suc a) l b (omega arith) up.1 holds.1 srcs.1 t)
    ∙ ap (λ x. in_message (get_or (sent_in log) (a - c.first j) nothing) ∷ take (length l) (map in_message (drop x (sent_in log)))) next
    ∙ ap (λ (x : List Message). take (suc (length l)) (map in_message x))
    (sym (drop-cons (sent_in log) (a - c.first j) nothing (omega (arith, high))))
  where
    high : a < top j
    high = subst₂ (λ x k. x < top k) up.0 srcs.0 holds.0.sent.high

    next : suc a - c.first j ≡ suc (a - c.first j)
    next = omega arith

    content : in_place p ≡ in_message (get_or (sent_in log) (a - c.first j) nothing)
    content =
        holds-content H p holds.0 ∙ ap in_message (ap₂ c.msg srcs.0 up.0 ∙ sym (listed a low (omega (arith, high))))

module _ {c : Course} {top pre : ℕ → ℕ} {done : List Place} {u : Part} (L : Lists c top pre done u) where
  done-lane : (k : ℕ) → Index c.n k → Upward (c.first k) (from k done) (c.first k + length (from k done))
  done-lane k kn =
      upward-left (c.first k) (from k done) (from k u.ordered) (pre k)
      (subst (λ (l : List Place). Upward (c.first k) l (pre k)) (from-append k done u.ordered) (L.lane k kn))

  done-holds : All (Holds c top) done
  done-holds = all_left (Holds c top) done u.ordered L.holds

  pub done-firsts : Spoken c top → (k : ℕ) → Index c.n k → (log : List Did) → Listed c k log → top k ≡ c.first k + length (sent_in log)
      → map in_place (from k done) ≡ take (length (from k done)) (map in_message (sent_in log))
  done-firsts H k kn log listed end =
      upward-says H k log listed end (c.first k) (from k done) (c.first k + length (from k done)) (omega arith) (done-lane k kn)
      (all_from (Holds c top) k done done-holds) (all-src k done)
      ∙ ap (λ x. take (length (from k done)) (map in_message (drop x (sent_in log)))) (let e : c.first k - c.first k ≡ 0 = omega arith in e)

  pub done-units : (p : Place) → Mem p done → Index c.n p.src
  done-units p m = (all-mem (Holds c top) p done m done-holds).sent.index

  pub done-once : (p q : Place) → Ahead p q done → ¬ ((p.src ≡ q.src) × (p.seq ≡ q.seq))
  done-once p q a e = omega (arith, e.1, below)
    where
      below : p.seq < q.seq
      below =
          upward-ahead (c.first p.src) (from p.src done) (c.first p.src + length (from p.src done)) p q
          (done-lane p.src (done-units p (ahead-front p q done a))) (from-ahead p q p.src done refl (sym e.0) a)
