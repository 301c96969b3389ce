-- What holds in every state of a run, and the three kinds of steps: a message sent, a message accepted from another, and all else.
use mathlib.Core.Bool.{Bool, cond}
use mathlib.Core.Logic.{◌≢◌}
use mathlib.Core.List.{List, [], ◌∷◌, ◌++◌, append-nil}
use mathlib.Core.Option.{some}
use mathlib.Core.Path.{◌≡◌, refl, sym, ap, subst, subst₂, ◌∙◌, fun_ext}
use Prim.Native.Nat.{ℕ, suc, ◌+◌, ◌≤◌, ◌<◌}
use native.Mathlib.Omega.{arith}
use lib.ListN.{length, length-append}
use Rattle.rules.specs.Maps.{upd}
use Rattle.rules.specs.Message.{Message, message, encode, decode, last}
use Rattle.rules.specs.State.{Place, State}
use Rattle.rules.specs.Steps as Steps
use Rattle.rules.proofs.MapsLaws.{Eq?, same, other, eq?, upd-all}
use Rattle.group.specs.Runs.{Index, Did, sent, accepted, Group, updated}
use Rattle.group.specs.Causality.{sent_in}
use Rattle.group.proofs.All.{All, all_map, all_append}
use Rattle.group.proofs.Course.{Course, Sent, ack_of, said}
use Rattle.group.proofs.Numbers.{Numbers, Spoken, Closed}
use Rattle.group.proofs.Growth.{bumped, bumped-same, bumped-other, grown, grown-other, Fresh, written_all, numbers-written, spoken-written, closed-written, Next, numbers-accepted, closed-accepted}
use Rattle.group.proofs.Lists.{part}
use Rattle.group.proofs.Settle.{core}
use Rattle.group.proofs.Logs.{Of, of-message, of-bumped, Tells, tells-now}
use Rattle.group.proofs.Members.{Member, member-written, member-grown, member-keeping, member-req, member-accepted}

abbrev pub top_of : Course → Group → ℕ → ℕ
top_of c g j = c.first j + length (sent_in (g.log j))

abbrev pub reqs : Group → ℕ → ℕ → ℕ
reqs g i k = (g.unit i).req k

-- the window at each send: a message's number was below what k expected of its sender, as far as the sender knew, and w more
pub record Window (c : Course) (top : ℕ → ℕ) : Type 0 where
  pub near : (j s k : ℕ) → Sent c top j s → Index c.n k → s < said c k (ack_of (c.msg j s) k) j + c.w

-- numbers stay in the ranges of 01
pub record Limits (c : Course) (top : ℕ → ℕ) : Type 0 where
  pub some : 2 ≤ c.n
  pub few : c.n ≤ 8
  pub narrow : c.w ≤ 4
  pub cid : c.cid ≤ last
  pub start : (k : ℕ) → Index c.n k → 1 ≤ c.first k
  pub end : (k : ℕ) → Index c.n k → top k ≤ last

-- each message can be read from its frame
pub record Readable (c : Course) (top : ℕ → ℕ) : Type 0 where
  pub read : (j s : ℕ) → Sent c top j s → decode (encode (message (c.msg j s))) ≡ some (message (c.msg j s))

pub record Fair (c : Course) (top : ℕ → ℕ) (R : ℕ → ℕ → ℕ) : Type 0 where
  pub limits : Limits c top
  pub numbers : Numbers c top R
  pub spoken : Spoken c top
  pub closed : Closed c top R
  pub window : Window c top
  pub readable : Readable c top

-- a frame that says a message says one that was sent
abbrev pub Fine : Course → (ℕ → ℕ) → List ℕ → Type 0
Fine c top f = (p : Message) → decode f ≡ some (message p) → Of c top p

pub frame-fine : {c : Course} {top : ℕ → ℕ} → Readable c top → {m : Message} → Of c top m → Fine c top (encode (message m))
frame-fine {c} {top} read {m} o p e = subst (Of c top) same o
  where
    back : decode (encode (message m)) ≡ some (message m)
    back =
        subst (λ (x : Message). decode (encode (message x)) ≡ some (message x)) (sym o.is) (read.read m.src m.seq o.sent)

    same : m ≡ p
    same = let q : some (message m) ≡ some (message p) = sym back ∙ e in cc

-- what a group holds at i
abbrev pub Seat : Course → (ℕ → ℕ) → (ℕ → ℕ → ℕ) → ℕ → State → List Did → List Place → Type 0
Seat c top R i u log took = Member c top R i (core u) (part u) (took ++ u.confirmed) log

pub record Holding (c : Course) (top : ℕ → ℕ) (R : ℕ → ℕ → ℕ) (g : Group) : Type 0 where
  pub fair : Fair c top R
  pub own : (i : ℕ) → Index c.n i → R i i ≡ top i
  pub members : (i : ℕ) → Index c.n i → Seat c top R i (g.unit i) (g.log i) (g.took i)
  pub air : All (Fine c top) g.air

abbrev pub Good : Course → Group → Type 0
Good c g = Holding c (top_of c g) (reqs g) g

-- ---- a group updated at i

module _ (g : Group) (i : ℕ) (s : State) (frames : List (List ℕ)) (deeds : List Did) (places : List Place) where
  abbrev next : Group
  next = updated g i s frames deeds places

  pub updated-all : (P : ℕ → State → List Did → List Place → Type 0) → P i s (deeds ++ g.log i) (g.took i ++ places)
      → ((l : ℕ) → l ≢ i → P l (g.unit l) (g.log l) (g.took l)) → (l : ℕ) → P l (next.unit l) (next.log l) (next.took l)
  unfolding updated upd
  updated-all P h o l = go (eq? l i)
    where
      go : {t : Bool} → Eq? l i t → P l (cond t s (g.unit l)) (cond t (deeds ++ g.log i) (g.log l)) (cond t (g.took i ++ places) (g.took l))
      go (same e) = subst (λ x. P x s (deeds ++ g.log i) (g.took i ++ places)) (sym e) h
      go (other d) = o l d

  -- where its numbers are now top and R, this is all that is to be shown
  good-updated : (c : Course) (top : ℕ → ℕ) (R : ℕ → ℕ → ℕ)
      → c.first i + length (sent_in (deeds ++ g.log i)) ≡ top i → ((l : ℕ) → l ≢ i → top_of c g l ≡ top l)
      → s.req ≡ R i → ((l : ℕ) → l ≢ i → reqs g l ≡ R l)
      → Fair c top R → ((l : ℕ) → Index c.n l → R l l ≡ top l)
      → Seat c top R i s (deeds ++ g.log i) (g.took i ++ places)
      → ((l : ℕ) → l ≢ i → Index c.n l → Seat c top R l (g.unit l) (g.log l) (g.took l))
      → All (Fine c top) g.air → All (Fine c top) frames → Good c next
  unfolding updated
  good-updated c top R t ts r rs F own mine others air new =
      subst₂ (λ (t : ℕ → ℕ) (r : ℕ → ℕ → ℕ). Holding c t r next)
      (sym (fun_ext (updated-all (λ l u log took. c.first l + length (sent_in log) ≡ top l) t ts)))
      (sym (fun_ext (updated-all (λ l u log took. u.req ≡ R l) r rs)))
      (record {
        fair = F;
        own = own;
        members = updated-all (λ l u log took. Index c.n l → Seat c top R l u log took) (λ x. mine) others;
        air = all_append (Fine c top) g.air frames air new;
      })

module _ {c : Course} {g : Group} (G : Good c g) (i : ℕ) where
  abbrev top : ℕ → ℕ
  top = top_of c g

  abbrev R : ℕ → ℕ → ℕ
  R = reqs g

  -- ---- nothing is sent or accepted

  pub good-kept : (u : State) (frames : List (List ℕ)) (places : List Place) → u.req ≡ (g.unit i).req
      → Seat c top R i u (g.log i) (g.took i ++ places) → All (Fine c top) frames → Good c (updated g i u frames [] places)
  good-kept u frames places e M new =
      good-updated g i u frames [] places c top R refl (λ l d. refl) e (λ l d. refl) G.fair G.own M (λ l d. G.members l) G.air new

  -- ---- the next message of j is accepted

  module _ {j : ℕ} (A : Next c top R i j) (far : i ≢ j) where
    abbrev p : Message
    p = c.msg j (R i j)

    heard-fair : Fair c top (grown R i j)
    heard-fair =
        record {
          limits = G.fair.limits;
          numbers = numbers-accepted A G.fair.numbers;
          spoken = G.fair.spoken;
          closed = closed-accepted A G.fair.spoken G.fair.closed;
          window = G.fair.window;
          readable = G.fair.readable;
        }

    heard-own : (l : ℕ) → Index c.n l → grown R i j l l ≡ top l
    unfolding grown
    heard-own =
        upd-all R i (bumped (R i) j) (λ l f. Index c.n l → f l ≡ top l) (λ x. bumped-other (R i) j i far ∙ G.own i x) (λ l d. G.own l)

    mine : Seat c top R i (g.unit i) (g.log i) (g.took i)
    mine = G.members i A.index

    pub good-heard : Good c (updated g i (Steps.accepted (g.unit i) p) [] (accepted p ∷ []) [])
    good-heard =
        good-updated g i (Steps.accepted (g.unit i) p) [] (accepted p ∷ []) [] c top (grown R i j) refl (λ l d. refl)
        (member-req G.fair.numbers G.fair.spoken G.fair.closed A (g.took i) (g.unit i) refl mine)
        (λ l d. sym (grown-other R i j l d))
        heard-fair heard-own
        (subst (Seat c top (grown R i j) i (Steps.accepted (g.unit i) p) (accepted p ∷ g.log i)) (sym (append-nil (g.took i)))
        (member-accepted G.fair.numbers G.fair.spoken G.fair.closed A (g.took i) (g.unit i) refl mine (accepted p) refl tt))
        (λ l d ln. member-grown (G.members l ln) i j)
        G.air tt

  -- ---- the next message of i is sent, and accepted by i

  module _ (N : Fresh c top R i) (room : top i < last) (near : (k : ℕ) → Index c.n k → top i < said c k (ack_of (c.msg i (top i)) k) i + c.w)
      (reads : decode (encode (message (c.msg i (top i)))) ≡ some (message (c.msg i (top i)))) where
    -- REQ of the own index is the number
    abbrev m : Message
    m = c.msg i (R i i)

    is : m ≡ c.msg i (top i)
    is = ap (c.msg i) N.own

    written-limits : Limits c (bumped top i)
    unfolding bumped
    written-limits =
        record {
          some = G.fair.limits.some;
          few = G.fair.limits.few;
          narrow = G.fair.limits.narrow;
          cid = G.fair.limits.cid;
          start = G.fair.limits.start;
          end = upd-all top i (suc (top i)) (λ k v. Index c.n k → v ≤ last) (λ x. room) (λ k d x. G.fair.limits.end k x);
        }

    written-fair : Fair c (bumped top i) R
    written-fair =
        record {
          limits = written-limits;
          numbers = numbers-written N G.fair.numbers;
          spoken = spoken-written N G.fair.numbers G.fair.spoken;
          closed = closed-written N G.fair.closed;
          window = record {
            near = λ j s k h kn.
                written_all N (λ j s. s < said c k (ack_of (c.msg j s) k) j + c.w) (near k kn) (λ j s b. G.fair.window.near j s k b kn) j s h;
          };
          readable = record {
            read = written_all N (λ j s. decode (encode (message (c.msg j s))) ≡ some (message (c.msg j s))) reads G.fair.readable.read;
          };
        }

    A : Next c (bumped top i) R i i
    A =
        record {
          index = N.index;
          sent = record { index = N.index; low = G.fair.numbers.low i i N.index N.index; high = omega (arith, N.own, bumped-same top i) };
          known = λ k kn d. omega (arith, ap (λ (x : Message). ack_of x k) is, N.ack k kn);
        }

    sent-fair : Fair c (bumped top i) (grown R i i)
    sent-fair =
        record {
          limits = written-fair.limits;
          numbers = numbers-accepted A written-fair.numbers;
          spoken = written-fair.spoken;
          closed = closed-accepted A written-fair.spoken written-fair.closed;
          window = written-fair.window;
          readable = written-fair.readable;
        }

    sent-own : (l : ℕ) → Index c.n l → grown R i i l l ≡ bumped top i l
    unfolding grown
    sent-own =
        upd-all R i (bumped (R i) i) (λ l f. Index c.n l → f l ≡ bumped top i l) (λ x. bumped-same (R i) i ∙ ap suc N.own ∙ sym (bumped-same top i))
        (λ l d x. G.own l x ∙ sym (bumped-other top i l d))

    start : Seat c (bumped top i) R i (Steps.keeping (g.unit i) m) (g.log i) (g.took i)
    start = member-keeping (g.unit i) (G.members i N.index) m is

    tells : Tells c i m (encode (message m)) (g.log i)
    tells =
        tells-now (G.members i N.index).logs m (ap (λ (x : Message). x.src) is ∙ N.src)
        (λ k kn. ap (λ (x : Message). ack_of x k) is ∙ N.ack k kn)

    pub good-sent : Good c (updated g i (Steps.sent (g.unit i) m) (encode (message m) ∷ []) (sent m (encode (message m)) ∷ []) [])
    unfolding Steps.sent
    good-sent =
        good-updated g i (Steps.sent (g.unit i) m) (encode (message m) ∷ []) (sent m (encode (message m)) ∷ []) [] c (bumped top i) (grown R i i)
        (omega (arith, length-append (sent_in (g.log i)) (m ∷ []), bumped-same top i)) (λ l d. sym (bumped-other top i l d))
        (member-req written-fair.numbers written-fair.spoken written-fair.closed A (g.took i) (Steps.keeping (g.unit i) m) refl start)
        (λ l d. sym (grown-other R i i l d))
        sent-fair sent-own
        (subst (Seat c (bumped top i) (grown R i i) i (Steps.sent (g.unit i) m) (sent m (encode (message m)) ∷ g.log i)) (sym (append-nil (g.took i)))
        (member-accepted written-fair.numbers written-fair.spoken written-fair.closed A (g.took i) (Steps.keeping (g.unit i) m) refl start
        (sent m (encode (message m))) refl tells))
        (λ l d ln. member-grown (member-written (G.members l ln) i d) i i)
        (all_map (λ f h p e. of-bumped i (h p e)) g.air G.air)
        (frame-fine written-fair.readable (of-message written-fair.spoken A.sent refl), tt)
