-- What has reached whom: what one unit confirmed all have pre-acknowledged, few wait for that, and what a unit lacks its sender keeps.
use mathlib.Core.Bool.{Bool, true}
use mathlib.Core.List.Memᴰ
use mathlib.Core.List.{List, ◌++◌, map, Memᴰ as Mem}
use mathlib.Core.Path.{◌≡◌, sym, ap, ap₂, subst, ◌∙◌}
use Prim.Native.Nat.{ℕ, suc, ◌+◌, ◌-◌, ◌≤◌, ◌<◌}
use native.Mathlib.Omega.{arith}
use native.Mathlib.Nat.{le_trans}
use lib.ListN.{length}
use Rattle.rules.specs.Message.{Message, message, encode}
use Rattle.rules.specs.State.{Place, State, min_al, from}
use Rattle.rules.specs.Steps.{is_kept}
use Rattle.rules.proofs.MapsLaws.{Lt?, lt, ge, lt?}
use Rattle.rules.proofs.RequestLaws.{facts-is_kept}
use Rattle.group.specs.Runs.{Index, Did, sent}
use Rattle.group.specs.Causality.{about}
use Rattle.group.specs.Demand.{in_message, in_place}
use Rattle.group.proofs.All.{all_left, all-mem, mem-map}
use Rattle.group.proofs.Senders.{all_from, all-src, mem-from, upward-length, upward-find}
use Rattle.group.proofs.Course.{Course, Sent, ack_of, said-cases}
use Rattle.group.proofs.Numbers.{Numbers, Spoken, Closed, row-high, said_all, said-mono}
use Rattle.group.proofs.Columns.{row-le, row-glb}
use Rattle.group.proofs.Lists.{Holds, Part, part}
use Rattle.group.proofs.Settle.{core, Settled, first-le}
use Rattle.group.proofs.Tidy.{Tidy, Told}
use Rattle.group.proofs.Logs.{Of, Has, Log, tells-sent}
use Rattle.group.proofs.Members.{Member}
use Rattle.group.proofs.Good.{Window}
use Rattle.group.proofs.Confirmed.{holds-content}

-- ---- what u has confirmed, v, the unit l, has pre-acknowledged

module _ {c : Course} {top : ℕ → ℕ} {R : ℕ → ℕ → ℕ} {done made : List Place} {u v : Part} (H : Spoken c top) (I : Numbers c top R)
    (T : Tidy c top R done u) (Y : Tidy c top R made v) (l : ℕ) (ln : Index c.n l) (row : v.req ≡ R l) (p : Place) (m : Mem p done) where
  holds : Holds c top p
  holds = all-mem (Holds c top) p done m (all_left (Holds c top) done u.ordered T.settled.lists.holds)

  firm : (x : ℕ) → Index c.n x → p.seq < u.pal p.src x
  firm = all-mem (λ q. (j : ℕ) → Index c.n j → q.seq < u.pal q.src j) p done m T.settled.lists.firm

  -- what u has pre-acknowledged, v has accepted
  accepted : (x : ℕ) → Index c.n x → T.settled.pre x ≤ v.req x
  accepted x xn =
      omega (arith, T.settled.lists.early x xn, row-le T.size (u.al x) l ln, (T.columns l ln).within x xn, ap (λ (f : ℕ → ℕ). f x) row)

  -- some message of x that u has pre-acknowledged expects more than p; v knows of it
  seen : (x : ℕ) → Index c.n x → p.seq < v.al p.src x
  seen x xn =
      said-cases c x (T.settled.pre x) (λ f. p.seq < f p.src → p.seq < v.al p.src x)
      (λ e h. absurd (omega (arith, holds.sent.low)))
      (λ s e low h. omega (
        arith,
        said_all x xn H (v.req x) (row-high I ln row x xn) s p.src low (omega (arith, accepted x xn)) holds.sent.index,
        (Y.columns x xn).reaches p.src holds.sent.index,
      ))
      (subst (λ y. p.seq < y) (T.settled.lists.pal p.src x holds.sent.index xn) (firm x xn))

  pub preacked-too : Mem (in_place p) (map in_place (made ++ v.ordered))
  preacked-too =
      Memᴰ.cast same (mem-map in_place found.0 (made ++ v.ordered) (mem-from found.0 p.src (made ++ v.ordered) found.2))
    where
      lane : List Place
      lane = from p.src (made ++ v.ordered)

      below : p.seq < Y.settled.pre p.src
      below =
          le_trans (row-glb Y.size (v.al p.src) (suc p.seq) (le_trans ln.0 ln.1) seen)
          (Y.settled.calm p.src holds.sent.index)

      found : (q : Place) × (q.seq ≡ p.seq) × Mem q lane
      found =
          upward-find (c.first p.src) lane (Y.settled.pre p.src) p.seq (Y.settled.lists.lane p.src holds.sent.index)
          holds.sent.low below

      src : found.0.src ≡ p.src
      src = all-mem (λ q. q.src ≡ p.src) found.0 lane found.2 (all-src p.src (made ++ v.ordered))

      there : Holds c top found.0
      there = all-mem (Holds c top) found.0 lane found.2 (all_from (Holds c top) p.src (made ++ v.ordered) Y.settled.lists.holds)

      same : in_place p ≡ in_place found.0
      same = holds-content H p holds ∙ ap in_message (sym (ap₂ c.msg src found.1)) ∙ sym (holds-content H found.0 there)

-- ---- at most w of one sender's messages wait

module _ {c : Course} {top : ℕ → ℕ} {R : ℕ → ℕ → ℕ} {done : List Place} {u : Part} (H : Spoken c top) (I : Numbers c top R) (C : Closed c top R)
    (N : Window c top) (size : u.n ≡ c.n) (W : Told c u) (S : Settled c top done u) (i : ℕ) (inn : Index c.n i) (row : u.req ≡ R i)
    (k : ℕ) (kn : Index c.n k) where
  -- when the last accepted message of k was sent, k knew no more of x than u does
  near : c.first k < u.req k → (x : ℕ) → Index c.n x → u.req k - c.w ≤ u.al k x
  near h x xn =
      omega (arith, N.near k s x sent xn, (W.told x xn).says k kn, said-mono x xn H (ack_of (c.msg k s) x) (u.req x) (row-high I inn row x xn) known k kn)
    where
      s : ℕ
      s = u.req k - 1

      sent : Sent c top k s
      sent = record { index = kn; low = omega arith; high = omega (arith, row-high I inn row k kn) }

      known : ack_of (c.msg k s) x ≤ u.req x
      known =
          subst (λ (f : ℕ → ℕ). s < f k → ack_of (c.msg k s) x ≤ f x) (sym row) (C.close i k s x inn kn xn (omega arith)) (omega arith)

  pub few : length (from k u.waiting) ≤ c.w
  few = go (lt? (c.first k) (u.req k))
    where
      count : S.pre k + length (from k u.waiting) ≡ u.req k
      count = upward-length (S.pre k) (from k u.waiting) (u.req k) (S.lists.rest k kn)

      go : {t : Bool} → Lt? (c.first k) (u.req k) t → length (from k u.waiting) ≤ c.w
      go (lt h) = omega (arith, count, S.calm k kn, row-glb size (u.al k) (u.req k - c.w) (le_trans kn.0 kn.1) (near h))
      go (ge h) = omega (arith, count, first-le S.lists k kn)

-- ---- what unit i lacks, its sender j keeps

module _ {c : Course} {top : ℕ → ℕ} {R : ℕ → ℕ → ℕ} {done : List Place} {log mine : List Did} (i j : ℕ) (inn : Index c.n i) (jn : Index c.n j)
    (L : Log c top (R i) i log) (u : State) (M : Member c top R j (core u) (part u) done mine) where
  pub keeps : (m : Message) (f : List ℕ) → Mem (sent m f) mine → ¬ (Mem m (map about log)) → (is_kept u m.seq ≡ true) × (u.kept m.seq ≡ f)
  unfolding min_al
  keeps m f h lacks = (
    facts-is_kept u m.seq (subst (λ x. min_al u x ≤ m.seq) (sym M.me) low) (subst (λ x. m.seq < x) (sym M.seq) high),
    M.kept m.seq low high ∙ ap (λ (x : Message). encode (message x)) (sym is) ∙ sym by.1,
  )
    where
      of : Of c top m
      of = (all-mem (Has c top u.req) (sent m f) mine h M.logs.have).of

      by : (m.src ≡ j) × (f ≡ encode (message m))
      by = tells-sent c j m f mine M.logs.tell h

      is : m ≡ c.msg j m.seq
      is = of.is ∙ ap (λ x. c.msg x m.seq) by.0

      high : m.seq < top j
      high = subst (λ x. m.seq < top x) by.0 of.sent.high

      lacking : {t : Bool} → Lt? m.seq (R i j) t → R i j ≤ m.seq
      lacking (lt x) = absurd (lacks (Memᴰ.cast is (L.full j m.seq jn (subst (λ k. c.first k ≤ m.seq) by.0 of.sent.low) x)))
      lacking (ge x) = x

      low : min_al u j ≤ m.seq
      low = le_trans (row-le M.tidy.size (u.al j) i inn) (le_trans ((M.tidy.columns i inn).within j jn) (lacking (lt? m.seq (R i j))))
