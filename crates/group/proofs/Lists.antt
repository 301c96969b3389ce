-- What the lists of a unit keep when a message is stored, pre-acknowledged and confirmed: `done` is all that the unit has
-- confirmed, those taken included.
use mathlib.Core.Logic.{◌≢◌}
use mathlib.Core.List.{List, [], ◌∷◌, ◌++◌, tail, append-nil}
use mathlib.Core.Path.{◌≡◌, refl, sym, ap, subst, ◌∙◌}
use Prim.Native.Nat.{ℕ, suc, ◌≤◌, ◌<◌}
use native.Mathlib.Omega.{arith}
use native.Mathlib.Nat.{le_refl, le_trans}
use lib.Seq.{append_snoc}
use Rattle.rules.specs.Maps.{at, upd, column, least}
use Rattle.rules.specs.Message.{Message}
use Rattle.rules.specs.State.{Place, State, min_al, from}
use Rattle.rules.specs.Steps.{placed, stored, without_oldest, insert, preacked, moved}
use Rattle.rules.proofs.MapsLaws.{upd-all, upd_same, upd_other, column-all}
use Rattle.rules.proofs.StepsLaws.{from-append, from-same, from-other, from-without_oldest, from-without_oldest-other}
use Rattle.group.specs.Runs.{Index}
use Rattle.group.proofs.All.{All, all_map, all_both, all_append, all_left, all_right}
use Rattle.group.proofs.Senders.{all_from, from_all, all-without_oldest, Upward, upward-snoc, upward-below}
use Rattle.group.proofs.Order.{Precedes, Ordered, Coherent, all_insert, ordered-append-insert, from-append-insert, from-append-insert-other}
use Rattle.group.proofs.Course.{Course, Sent, said, said-suc}
use Rattle.group.proofs.Numbers.{Spoken, Closed, said-mono}

-- p holds a message that was sent
pub record Holds (c : Course) (top : ℕ → ℕ) (p : Place) : Type 0 where
  pub sent : Sent c top p.src p.seq
  pub ack : p.ack ≡ (c.msg p.src p.seq).ack
  pub text : p.text ≡ (c.msg p.src p.seq).text

coherent : {c : Course} {top : ℕ → ℕ} {R : ℕ → ℕ → ℕ} → Spoken c top → Closed c top R → Coherent (Holds c top)
coherent {c} {top} H C =
    record {
      own = λ p h. says p h p.src ∙ H.own p.src p.seq h.sent;
      chain = λ p q r hp hq hr x.
          omega (
            arith,
            says p hp r.src,
            says q hq r.src,
            C.chain q.src q.seq p.src p.seq r.src hq.sent hp.sent.index hr.sent.index hp.sent.low
                (omega (arith, says q hq p.src)),
          );
    }
  where
    says : (p : Place) → Holds c top p → (k : ℕ) → at p.ack k ≡ at (c.msg p.src p.seq).ack k
    says p h k = ap (λ (l : List ℕ). at l k) h.ack

-- the part of a unit that this is about
pub record Part : Type 0 where
  pub n : ℕ
  pub req : ℕ → ℕ
  pub al : ℕ → ℕ → ℕ
  pub pal : ℕ → ℕ → ℕ
  pub waiting : List Place
  pub ordered : List Place

abbrev pub part : State → Part
part u = record { n = u.n; req = u.req; al = u.al; pal = u.pal; waiting = u.waiting; ordered = u.ordered }

-- pre k: the next number of k to be pre-acknowledged
pub record Lists (c : Course) (top pre : ℕ → ℕ) (done : List Place) (u : Part) : Type 0 where
  pub lane : (k : ℕ) → Index c.n k → Upward (c.first k) (from k (done ++ u.ordered)) (pre k)
  pub rest : (k : ℕ) → Index c.n k → Upward (pre k) (from k u.waiting) (u.req k)
  pub early : (k : ℕ) → Index c.n k → pre k ≤ least u.n (u.al k)
  pub holds : All (Holds c top) (done ++ u.ordered)
  pub waits : All (Holds c top) u.waiting
  pub pal : (k j : ℕ) → Index c.n k → Index c.n j → u.pal k j ≡ said c j (pre j) k
  pub ordered : Ordered (done ++ u.ordered)
  -- nothing that is still to be inserted precedes what is confirmed
  pub over : All (λ q. (j : ℕ) → Index c.n j → at q.ack j ≤ pre j) done
  pub firm : All (λ q. (j : ℕ) → Index c.n j → q.seq < u.pal q.src j) done

-- ---- a message is accepted, and waits

pub stored-lists : {c : Course} {top pre : ℕ → ℕ} {done : List Place} (u : State) → Lists c top pre done (part u)
    → (p : Message) → Holds c top (placed u p) → u.req p.src ≡ p.seq
    → ((k : ℕ) → Index c.n k → min_al u k ≤ min_al (stored u p) k) → Lists c top pre done (part (stored u p))
unfolding stored placed from min_al
stored-lists {c} {top} {pre} u L p h e up =
    record {
      lane = L.lane;
      rest =
          upd-all u.req p.src (suc p.seq) (λ k v. Index c.n k → Upward (pre k) (from k (u.waiting ++ (placed u p ∷ []))) v)
          (λ i. subst (λ (l : List Place). Upward (pre p.src) l (suc p.seq)) (sym own)
          (upward-snoc (pre p.src) (from p.src u.waiting) p.seq (placed u p)
          (subst (Upward (pre p.src) (from p.src u.waiting)) e (L.rest p.src i)) refl))
          (λ k d i. subst (λ (l : List Place). Upward (pre k) l (u.req k)) (sym (others k (λ x. d (sym x)))) (L.rest k i));
      early = λ k kn. le_trans (L.early k kn) (up k kn);
      holds = L.holds;
      waits = all_append (Holds c top) u.waiting (placed u p ∷ []) L.waits (h, tt);
      pal = L.pal;
      ordered = L.ordered;
      over = L.over;
      firm = L.firm;
    }
  where
    own : from p.src (u.waiting ++ (placed u p ∷ [])) ≡ from p.src u.waiting ++ (placed u p ∷ [])
    own =
        from-append p.src u.waiting (placed u p ∷ [])
        ∙ ap (λ (z : List Place). from p.src u.waiting ++ z) (from-same p.src (placed u p) [] refl)

    others : (k : ℕ) → p.src ≢ k → from k (u.waiting ++ (placed u p ∷ [])) ≡ from k u.waiting
    others k d =
        from-append k u.waiting (placed u p ∷ [])
        ∙ ap (λ (z : List Place). from k u.waiting ++ z) (from-other k (placed u p) [] d)
        ∙ append-nil (from k u.waiting)

-- ---- the oldest waiting message of its sender is pre-acknowledged

module _ {c : Course} {top pre : ℕ → ℕ} {R : ℕ → ℕ → ℕ} {done : List Place} (H : Spoken c top) (C : Closed c top R) (u : State)
    (L : Lists c top pre done (part u)) (p : Place) (ps : List Place) (oldest : from p.src u.waiting ≡ p ∷ ps) where
  held : Holds c top p
  held = (subst (All (Holds c top)) oldest (all_from (Holds c top) p.src u.waiting L.waits)).0

  known : Index c.n p.src
  known = held.sent.index

  -- its number is the next
  next : Upward (pre p.src) (p ∷ ps) (u.req p.src)
  next = subst (λ (l : List Place). Upward (pre p.src) l (u.req p.src)) oldest (L.rest p.src known)

  abbrev more : ℕ → ℕ
  more = upd pre p.src (suc p.seq)

  more-up : (k : ℕ) → pre k ≤ more k
  more-up = upd-all pre p.src (suc p.seq) (λ k v. pre k ≤ v) (omega (arith, next.0)) (λ k d. le_refl _)

  older : All (λ x. x.src ≡ p.src → x.seq < p.seq) (done ++ u.ordered)
  older =
      from_all (λ x. x.seq < p.seq) p.src (done ++ u.ordered)
      (all_map (λ x (b : (c.first p.src ≤ x.seq) × (x.seq < pre p.src)). omega (arith, next.0)) (from p.src (done ++ u.ordered))
      (upward-below (c.first p.src) (from p.src (done ++ u.ordered)) (pre p.src) (L.lane p.src known)))

  lane-more : (k : ℕ) → Index c.n k → Upward (c.first k) (from k (done ++ insert p u.ordered)) (more k)
  lane-more =
      upd-all pre p.src (suc p.seq) (λ k v. Index c.n k → Upward (c.first k) (from k (done ++ insert p u.ordered)) v)
      (λ i. subst (λ (l : List Place). Upward (c.first p.src) l (suc p.seq))
      (sym (from-append-insert (coherent H C) p done u.ordered held L.holds L.ordered older))
      (upward-snoc (c.first p.src) (from p.src (done ++ u.ordered)) p.seq p
      (subst (Upward (c.first p.src) (from p.src (done ++ u.ordered))) (sym next.0) (L.lane p.src i)) refl))
      (λ k d i. subst (λ (l : List Place). Upward (c.first k) l (pre k))
      (sym (from-append-insert-other k p done u.ordered (λ e. d (sym e)))) (L.lane k i))

  rest-less : (k : ℕ) → Index c.n k → Upward (more k) (from k (without_oldest p.src u.waiting)) (u.req k)
  rest-less =
      upd-all pre p.src (suc p.seq) (λ k v. Index c.n k → Upward v (from k (without_oldest p.src u.waiting)) (u.req k))
      (λ i. subst (λ (l : List Place). Upward (suc p.seq) l (u.req p.src)) (sym (from-without_oldest p.src u.waiting ∙ ap tail oldest))
      (subst (λ x. Upward (suc x) ps (u.req p.src)) (sym next.0) next.1))
      (λ k d i. subst (λ (l : List Place). Upward (pre k) l (u.req k))
      (sym (from-without_oldest-other p.src k u.waiting (λ e. d (sym e)))) (L.rest k i))

  abbrev new_pal : ℕ → ℕ → ℕ
  new_pal = column u.pal p.src (at p.ack)

  -- the new column is its ACK
  column-is : (k : ℕ) → at p.ack k ≡ said c p.src (suc p.seq) k
  column-is k =
      ap (λ (l : List ℕ). at l k) held.ack ∙ ap (λ (v : ℕ → ℕ). v k) (sym (said-suc c p.src p.seq held.sent.low))

  pal-more : (k j : ℕ) → Index c.n k → Index c.n j → new_pal k j ≡ said c j (more j) k
  pal-more =
      column-all u.pal p.src (at p.ack) (λ k j v. Index c.n k → Index c.n j → v ≡ said c j (more j) k)
      (λ k kn jn. column-is k ∙ ap (λ r. said c p.src r k) (sym (upd_same pre p.src (suc p.seq))))
      (λ k j d kn jn. L.pal k j kn jn ∙ ap (λ r. said c j r k) (sym (upd_other pre p.src (suc p.seq) j d)))

  pal-up : (k j : ℕ) → Index c.n k → u.pal k j ≤ new_pal k j
  pal-up =
      column-all u.pal p.src (at p.ack) (λ k j v. Index c.n k → u.pal k j ≤ v)
      (λ k kn. omega (
        arith,
        column-is k,
        L.pal k p.src kn known,
        said-mono p.src known H (pre p.src) (suc p.seq) held.sent.high (omega (arith, next.0)) k kn,
      ))
      (λ k j d kn. le_refl _)

  not-before : (x : Place) → ((j : ℕ) → Index c.n j → at x.ack j ≤ pre j) → ¬ (Precedes p x)
  not-before x f y = omega (arith, next.0, f p.src known)

  firmer : (x : Place) → Holds c top x → ((j : ℕ) → Index c.n j → x.seq < u.pal x.src j) → (j : ℕ) → Index c.n j → x.seq < new_pal x.src j
  firmer x h f j i = le_trans (f j i) (pal-up x.src j h.sent.index)

  pub preacked-lists : p.seq < min_al u p.src → Lists c top more done (part (preacked u p))
  unfolding preacked min_al
  preacked-lists early =
      record {
        lane = lane-more;
        rest = rest-less;
        early = upd-all pre p.src (suc p.seq) (λ k v. Index c.n k → v ≤ min_al u k) (λ i. early) (λ k d i. L.early k i);
        holds =
            all_append (Holds c top) done (insert p u.ordered) (all_left (Holds c top) done u.ordered L.holds)
            (all_insert (Holds c top) p u.ordered held (all_right (Holds c top) done u.ordered L.holds));
        waits = all-without_oldest (Holds c top) p.src u.waiting L.waits;
        pal = pal-more;
        ordered = ordered-append-insert (coherent H C) p done u.ordered held L.holds L.ordered (all_map not-before done L.over);
        over = all_map (λ x f j i. le_trans (f j i) (more-up j)) done L.over;
        firm = all_both firmer done (all_left (Holds c top) done u.ordered L.holds) L.firm;
      }

-- ---- the head of the ordered list is confirmed

pub moved_lists : {c : Course} {top pre : ℕ → ℕ} {done : List Place} (u : State) → Lists c top pre done (part u)
    → (p : Place) (ps : List Place) → u.ordered ≡ p ∷ ps
    → ((j : ℕ) → Index c.n j → at p.ack j ≤ pre j) → ((j : ℕ) → Index c.n j → p.seq < u.pal p.src j)
    → Lists c top pre (done ++ (p ∷ [])) (part (moved u p))
unfolding moved
moved_lists {c} {top} {pre} {done} u L p ps e f g =
    record {
      lane = λ k kn. subst (λ (l : List Place). Upward (c.first k) (from k l) (pre k)) (sym whole) (L.lane k kn);
      rest = L.rest;
      early = L.early;
      holds = subst (All (Holds c top)) (sym whole) L.holds;
      waits = L.waits;
      pal = L.pal;
      ordered = subst Ordered (sym whole) L.ordered;
      over = all_append _ done (p ∷ []) L.over (f, tt);
      firm = all_append _ done (p ∷ []) L.firm (g, tt);
    }
  where
    whole : done ++ (p ∷ []) ++ tail u.ordered ≡ done ++ u.ordered
    whole =
        ap (λ (l : List Place). done ++ (p ∷ []) ++ tail l) e ∙ append_snoc done p ps ∙ ap (λ (l : List Place). done ++ l) (sym e)
