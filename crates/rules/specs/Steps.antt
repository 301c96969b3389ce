-- The steps of a unit (01, "Steps").
use Rattle.std.specs.Prelude.{Bool, true, cond, ◌&&◌, ℕ, zero, suc, ◌+◌, ◌*◌, ◌/◌, min, max, eqb, leb, ltb}
use mathlib.Core.List.{List, [], ◌∷◌, ◌++◌, tail, map}
use Rattle.rules.specs.Maps.{among, upd, column, at, listed, least, every}
use Rattle.rules.specs.Message.{Message, Request, message, encode}
use Rattle.rules.specs.State.{Place, State, min_al, min_pal, taken, from, free}

-- ---- send

-- the smaller of W and (least BUF_j divided by n, rounded down)
unfoldable pub window : State → ℕ
window s = min s.w (least s.n s.buf / s.n)

unfoldable pub may_send : State → Bool
may_send s = ltb s.seq (min_al s s.me + window s)

-- the message that a send of these data carries
unfoldable pub outgoing : State → List ℕ → Message
outgoing s d =
    record { cid = s.cid; src = s.me; seq = s.seq; ack = listed 1 s.n s.req; buf = free s; text = d }

-- ---- arrival of data

-- p's ACK_k is at most REQ_k for every k other than p's sender
unfoldable pub known : State → Message → Bool
known s p = every 1 s.n (λ k. cond (eqb k p.src) true (leb (at p.ack k) (s.req k)))

-- the least slot from i on that is not among these, at most m further
abbrev pub first_free : List ℕ → ℕ → ℕ → ℕ
first_free l i zero = i
first_free l i (suc m) = cond (among i l) (first_free l (suc i) m) i

-- the place that a message of sender j takes: the first of j's that is free
unfoldable pub free_slot : State → ℕ → ℕ
free_slot s j = first_free (map (λ (p : Place). p.slot) (from j (taken s))) 0 (4 * s.w)

unfoldable pub placed : State → Message → Place
placed s p = record { slot = free_slot s p.src; src = p.src; seq = p.seq; ack = p.ack; text = p.text }

-- p is accepted, and waits. Kept numbers start at minAL of the own index.
unfoldable pub stored : State → Message → State
stored s p =
    let al : ℕ → ℕ → ℕ = column s.al p.src (at p.ack) in
    record {
      me = s.me;
      n = s.n;
      w = s.w;
      cid = s.cid;
      seq = s.seq;
      req = upd s.req p.src (suc p.seq);
      al = al;
      pal = s.pal;
      buf = upd s.buf p.src p.buf;
      heard = upd s.heard p.src (max (s.heard p.src) (suc p.seq));
      kept = λ x. cond (leb (least s.n (al s.me)) x) (s.kept x) [];
      waiting = s.waiting ++ (placed s p ∷ []);
      ordered = s.ordered;
      confirmed = s.confirmed;
    }

-- ---- missing numbers

-- s, with this HEARD
abbrev pub with_heard : State → (ℕ → ℕ) → State
with_heard s heard =
    record {
      me = s.me;
      n = s.n;
      w = s.w;
      cid = s.cid;
      seq = s.seq;
      req = s.req;
      al = s.al;
      pal = s.pal;
      buf = s.buf;
      heard = heard;
      kept = s.kept;
      waiting = s.waiting;
      ordered = s.ordered;
      confirmed = s.confirmed;
    }

unfoldable pub noted : State → Message → State
noted s p = with_heard s (λ k. max (s.heard k) (cond (eqb k p.src) (suc p.seq) (at p.ack k)))

-- the missing numbers of k: from the first up to but not including the second
abbrev pub missing_from : State → ℕ → ℕ
missing_from s k = s.req k

abbrev pub missing_to : State → ℕ → ℕ
missing_to s k = s.heard k

-- ---- request

-- the request for what is missing of k
unfoldable pub asking : State → ℕ → Request
asking s k =
    record { cid = s.cid; src = s.me; ack = listed 1 s.n s.req; lsrc = k; lseq = missing_to s k }

-- number x is kept
unfoldable pub is_kept : State → ℕ → Bool
is_kept s x = leb (min_al s s.me) x && ltb x s.seq

-- the kept numbers that a request asks for: from the first up to but not including the second
unfoldable pub resent_from : State → Request → ℕ
resent_from s r = max (at r.ack s.me) (min_al s s.me)

abbrev pub resent_to : State → Request → ℕ
resent_to s r = r.lseq

-- ---- pre-acknowledge

unfoldable pub precedes : Place → Place → Bool
precedes p q = cond (eqb p.src q.src) (ltb p.seq q.seq) (ltb p.seq (at q.ack p.src))

-- immediately before the first message that p precedes, else at the end
abbrev pub insert : Place → List Place → List Place
insert p [] = p ∷ []
insert p (q ∷ l) = cond (precedes p q) (p ∷ q ∷ l) (q ∷ insert p l)

-- without the oldest of sender j
abbrev pub without_oldest : ℕ → List Place → List Place
without_oldest j [] = []
without_oldest j (q ∷ l) = cond (eqb q.src j) l (q ∷ without_oldest j l)

-- s, with these lists and PAL
abbrev pub with_lists : State → (ℕ → ℕ → ℕ) → List Place → List Place → List Place → State
with_lists s pal waiting ordered confirmed =
    record {
      me = s.me;
      n = s.n;
      w = s.w;
      cid = s.cid;
      seq = s.seq;
      req = s.req;
      al = s.al;
      pal = pal;
      buf = s.buf;
      heard = s.heard;
      kept = s.kept;
      waiting = waiting;
      ordered = ordered;
      confirmed = confirmed;
    }

-- p, the oldest waiting message of its sender, is pre-acknowledged
unfoldable pub preacked : State → Place → State
preacked s p =
    with_lists s (column s.pal p.src (at p.ack)) (without_oldest p.src s.waiting) (insert p s.ordered)
    s.confirmed

-- the messages ps of one sender in turn, while they have SEQ < minAL
abbrev pub preack_while : List Place → State → State
preack_while [] s = s
preack_while (p ∷ ps) s = cond (ltb p.seq (min_al s p.src)) (preack_while ps (preacked s p)) s

unfoldable pub preack_of : ℕ → State → State
preack_of j s = preack_while (from j s.waiting) s

-- for j = 1 to m
abbrev pub preack_to : ℕ → State → State
preack_to zero s = s
preack_to (suc m) s = preack_of (suc m) (preack_to m s)

-- ---- confirm

-- p, the head of the ordered list, is confirmed
unfoldable pub moved : State → Place → State
moved s p = with_lists s s.pal s.waiting (tail s.ordered) (s.confirmed ++ (p ∷ []))

abbrev pub confirm_while : List Place → State → State
confirm_while [] s = s
confirm_while (p ∷ ps) s = cond (ltb p.seq (min_pal s p.src)) (confirm_while ps (moved s p)) s

unfoldable pub confirm : State → State
confirm s = confirm_while s.ordered s

-- ---- accept, send, take

unfoldable pub accepted : State → Message → State
accepted s p = confirm (preack_to s.n (stored s p))

-- s, with m's frame kept and SEQ raised
abbrev pub keeping : State → Message → State
keeping s m =
    record {
      me = s.me;
      n = s.n;
      w = s.w;
      cid = s.cid;
      seq = suc s.seq;
      req = s.req;
      al = s.al;
      pal = s.pal;
      buf = s.buf;
      heard = s.heard;
      kept = upd s.kept s.seq (encode (message m));
      waiting = s.waiting;
      ordered = s.ordered;
      confirmed = s.confirmed;
    }

-- m is kept, and accepted by its own sender at once
unfoldable pub sent : State → Message → State
sent s m = accepted (keeping s m) m

-- the oldest confirmed message is gone
unfoldable pub without_taken : State → State
without_taken s = with_lists s s.pal s.waiting s.ordered (tail s.confirmed)
