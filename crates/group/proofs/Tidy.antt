-- What a unit knows of the others and its lists, through one acceptance.
use mathlib.Core.Bool.{Bool, cond}
use mathlib.Core.Logic.{◌≢◌}
use mathlib.Core.List.{List, ◌++◌}
use mathlib.Core.Path.{◌≡◌, sym, ap, ap₂, subst, subst₂, ◌∙◌}
use Prim.Native.Nat.{ℕ, suc, ◌≤◌}
use native.Mathlib.Nat.{le_refl, le_trans}
use Rattle.rules.specs.Maps.{at, upd, column}
use Rattle.rules.specs.Message.{Message}
use Rattle.rules.specs.State.{Place, State, min_al}
use Rattle.rules.specs.Steps.{placed, stored, accepted}
use Rattle.rules.proofs.MapsLaws.{Eq?, same, other, eq?, column-all}
use Rattle.rules.proofs.KeptLaws.{settled-rest}
use Rattle.group.specs.Runs.{Index}
use Rattle.group.proofs.All.{all_map}
use Rattle.group.proofs.Course.{Course, Sent, ack_of}
use Rattle.group.proofs.Numbers.{Numbers, Spoken, Closed, row-high}
use Rattle.group.proofs.Growth.{bumped, sent-bumped, grown, grown-up, grown-same, Next, numbers-accepted, closed-accepted}
use Rattle.group.proofs.Columns.{Column, Says, column-message, says-message, column-more, row-le, row-glb}
use Rattle.group.proofs.Lists.{Holds, Part, part, Lists}
use Rattle.group.proofs.Settle.{Core, core, Knows, Settled, accepted-settled}

pub record Tidy (c : Course) (top : ℕ → ℕ) (R : ℕ → ℕ → ℕ) (done : List Place) (u : Part) : Type 0 where
  pub size : u.n ≡ c.n
  pub columns : (x : ℕ) → Index c.n x → Column c R x (u.req x) (λ k. u.al k x)
  pub settled : Settled c top done u

-- AL is just what the last messages said
pub record Told (c : Course) (u : Part) : Type 0 where
  pub told : (x : ℕ) → Index c.n x → Says c x (u.req x) (λ k. u.al k x)

-- ---- another writes, or accepts

pub tidy-written : {c : Course} {top : ℕ → ℕ} {R : ℕ → ℕ → ℕ} {done : List Place} {u : Part} → Tidy c top R done u → (i : ℕ)
    → Tidy c (bumped top i) R done u
tidy-written {c} {top} {done = done} {u = u} T i =
    record { size = T.size; columns = T.columns; settled = record { pre = T.settled.pre; lists = lists; calm = T.settled.calm } }
  where
    L : Lists c top T.settled.pre done u
    L = T.settled.lists

    more : (p : Place) → Holds c top p → Holds c (bumped top i) p
    more p h = record { sent = sent-bumped i h.sent; ack = h.ack; text = h.text }

    lists : Lists c (bumped top i) T.settled.pre done u
    lists =
        record {
          lane = L.lane;
          rest = L.rest;
          early = L.early;
          holds = all_map more (done ++ u.ordered) L.holds;
          waits = all_map more u.waiting L.waits;
          pal = L.pal;
          ordered = L.ordered;
          over = L.over;
          firm = L.firm;
        }

pub tidy-grown : {c : Course} {top : ℕ → ℕ} {R : ℕ → ℕ → ℕ} {done : List Place} {u : Part} → Tidy c top R done u → (i j : ℕ)
    → Tidy c top (grown R i j) done u
tidy-grown {R = R} T i j = record { size = T.size; columns = λ x xn. column-more (grown-up R i j x) (T.columns x xn); settled = T.settled }

-- ---- the unit itself accepts

-- what holds of the new message's column and of the other columns holds of each
stored-all : (u : State) (p : Message) (P : ℕ → ℕ → (ℕ → ℕ) → Type 0) → P p.src (suc p.seq) (at p.ack)
    → ((x : ℕ) → x ≢ p.src → P x (u.req x) (λ k. u.al k x)) → (x : ℕ) → P x ((stored u p).req x) (λ k. (stored u p).al k x)
unfolding stored upd column
stored-all u p P h o x = go (eq? x p.src)
  where
    go : {t : Bool} → Eq? x p.src t → P x (cond t (suc p.seq) (u.req x)) (λ k. cond t (at p.ack k) (u.al k x))
    go (same e) = subst (λ y. P y (suc p.seq) (at p.ack)) (sym e) h
    go (other d) = o x d

module _ {c : Course} {top : ℕ → ℕ} {R : ℕ → ℕ → ℕ} {i j : ℕ} (I : Numbers c top R) (H : Spoken c top) (C : Closed c top R) (A : Next c top R i j)
    (old : List Place) (u : State) (same : u.req ≡ R i) (T : Tidy c top R (old ++ u.confirmed) (part u))
    (up : (k : ℕ) → Index c.n k → u.al k j ≤ ack_of (c.msg j (R i j)) k) where
  -- the message
  abbrev p : Message
  p = c.msg j (R i j)

  src : p.src ≡ j
  src = H.src j (R i j) A.sent

  seq : p.seq ≡ R i j
  seq = H.seq j (R i j) A.sent

  holds : Holds c top (placed u p)
  unfolding placed
  holds =
      record {
        sent = subst₂ (Sent c top) (sym src) (sym seq) A.sent;
        ack = ap (λ (m : Message). m.ack) (sym (ap₂ c.msg src seq));
        text = ap (λ (m : Message). m.text) (sym (ap₂ c.msg src seq));
      }

  stored-req : (stored u p).req ≡ grown R i j i
  unfolding stored bumped
  stored-req = (λ t. upd (same t) (src t) (suc (seq t))) ∙ sym (grown-same R i j)

  stored-columns : (x : ℕ) → Index c.n x → Column c (grown R i j) x ((stored u p).req x) (λ k. (stored u p).al k x)
  stored-columns =
      stored-all u p (λ x r v. Index c.n x → Column c (grown R i j) x r v)
      (λ xn. subst₂ (λ x s. Column c (grown R i j) x (suc s) (at p.ack)) (sym src) (sym seq)
      (column-message (numbers-accepted A I) (closed-accepted A H C) A.sent))
      (λ x d xn. column-more (grown-up R i j x) (T.columns x xn))

  stored-knows : Knows c top (core (stored u p))
  unfolding stored
  stored-knows =
      record {
        size = T.size;
        high = row-high (numbers-accepted A I) A.index stored-req;
        low = λ x xn.
            le_trans (row-le T.size ((stored u p).al x) i A.index)
            (subst (λ (f : ℕ → ℕ). (stored u p).al x i ≤ f x) (sym stored-req) ((stored-columns i A.index).within x xn));
        reaches = λ x k xn kn. (stored-columns x xn).reaches k kn;
      }

  pub min_al-up : (k : ℕ) → Index c.n k → min_al u k ≤ min_al (stored u p) k
  unfolding stored min_al
  min_al-up k kn =
      row-glb T.size ((stored u p).al k) (min_al u k) (le_trans kn.0 kn.1)
      (λ x xn. le_trans (row-le T.size (u.al k) x xn)
      (column-all u.al p.src (at p.ack) (λ k x v. Index c.n k → u.al k x ≤ v)
      (λ k kn. subst (λ x. u.al k x ≤ at p.ack k) (sym src) (up k kn)) (λ k x d kn. le_refl _) k x kn))

  -- beside PAL and the lists, the unit is as storing left it
  pub accepted-core : core (accepted u p) ≡ core (stored u p)
  accepted-core = ap core (sym (settled-rest u p))

  pub accepted-req : (accepted u p).req ≡ grown R i j i
  accepted-req = ap (λ (k : Core). k.req) accepted-core ∙ stored-req

  pub tidy-accepted : Tidy c top (grown R i j) (old ++ (accepted u p).confirmed) (part (accepted u p))
  unfolding stored
  tidy-accepted =
      record {
        size = ap (λ (k : Core). k.n) accepted-core ∙ T.size;
        columns =
            subst (λ (k : Core). (x : ℕ) → Index c.n x → Column c (grown R i j) x (k.req x) (λ y. k.al y x)) (sym accepted-core)
            stored-columns;
        settled =
            accepted-settled H C old u p T.settled holds (ap (λ (f : ℕ → ℕ). f p.src) same ∙ ap (R i) src ∙ sym seq) min_al-up
            stored-knows;
      }

  pub told-accepted : Told c (part u) → Told c (part (accepted u p))
  told-accepted W =
      record {
        told =
            subst (λ (k : Core). (x : ℕ) → Index c.n x → Says c x (k.req x) (λ y. k.al y x)) (sym accepted-core)
            (stored-all u p (λ x r v. Index c.n x → Says c x r v)
            (λ xn. subst₂ (λ x s. Says c x (suc s) (at p.ack)) (sym src) (sym seq) (says-message c j (R i j) A.sent.low))
            (λ x d. W.told x));
      }
