-- Every call leads from a good state to a good state.
use mathlib.Core.Bool.{true}
use mathlib.Core.Logic.{◌≢◌}
use mathlib.Core.List.{List, [], ◌∷◌, ◌++◌, map, append-nil}
use mathlib.Core.Option.{Option, some}
use mathlib.Core.Path.{◌≡◌, refl, sym, ap, subst, ◌∙◌}
use Prim.Native.Nat.{ℕ, ◌+◌, ◌≤◌, ◌<◌}
use native.Mathlib.Omega.{arith}
use native.Mathlib.Nat.{le_trans}
use lib.ListN.{length, take, drop}
use lib.Seq.{take-append_seam, append_snoc}
use borrow.Author.Tests.{not-false, ne_eqb}
use Rattle.rules.specs.Message.{Message, Said, message, request, last, encode, decode}
use Rattle.rules.specs.Lawful.{Bytes, LawfulMessage}
use Rattle.rules.specs.State.{Place, State, min_al}
use Rattle.rules.specs.Steps.{outgoing, noted, asking, is_kept, without_taken}
use Rattle.rules.specs.Steps as Steps
use Rattle.rules.specs.Calls.{Result, written, send_checks, data_checks, copy_checks, take_checks, oldest, Call, call}
use Rattle.rules.proofs.MapsLaws.{at_listed}
use Rattle.rules.proofs.MessageLaws.{decode-encode}
use Rattle.rules.proofs.CallsLaws.{Passed, Refused}
use Rattle.rules.proofs.CallCases.{checks_of, refused_by, refused_next-all, Done, done-sends, done-data, done-request, done-asks, done-copies, done-takes, call-cases, Refuses, is-unsound, is-sound, refused-cases}
use Rattle.rules.proofs.AcceptedLaws.{Accepts, passed-accepts}
use Rattle.rules.proofs.SendLaws.{Sends, passed-sends}
use Rattle.rules.proofs.RequestLaws.{is_kept-facts}
use Rattle.rules.proofs.TakenLaws.{passed-takes}
use Rattle.group.specs.Runs.{Index, sent, accepted, Group, wrote, message_of, did, hands_out, if_done, updated, Proper, after}
use Rattle.group.proofs.All.{all-mem}
use Rattle.group.proofs.Course.{Course, Sent, ack_of, said}
use Rattle.group.proofs.Growth.{Fresh, Next}
use Rattle.group.proofs.Lists.{part}
use Rattle.group.proofs.Settle.{core, Settled, first-le}
use Rattle.group.proofs.Logs.{Of, of-message}
use Rattle.group.proofs.Members.{Member}
use Rattle.group.proofs.Good.{top_of, reqs, Fine, frame-fine, Seat, Good, good-kept, good-heard, good-sent}
use Rattle.group.proofs.Agrees.{Agrees, agrees-sent}
use Rattle.group.proofs.Frames.{request-fine, outgoing-lawful}

module _ {c : Course} {g : Group} (G : Good c g) (i : ℕ) (inn : Index c.n i) where
  abbrev s : State
  s = g.unit i

  -- what the event leaves, of a call with this result
  abbrev then : Call → Result → Group
  then cl r = updated g i r.next (if_done r (wrote cl r)) (if_done r (did cl r)) (if_done r (hands_out cl s))

  -- what is known of the unit
  M : Seat c (top_of c g) (reqs g) i s (g.log i) (g.took i)
  M = G.members i inn

  -- where nothing is taken
  still : (u : State) → Seat c (top_of c g) (reqs g) i u (g.log i) (g.took i) → Seat c (top_of c g) (reqs g) i u (g.log i) (g.took i ++ [])
  still u = subst (Seat c (top_of c g) (reqs g) i u (g.log i)) (sym (append-nil (g.took i)))

  -- ---- a refusal: HEARD may change, and nothing is said of it

  refused-good : (cl : Call) (a : ℕ) → Refused a (checks_of s cl) → Good c (then cl (refused_by s cl a))
  unfolding noted
  refused-good cl a r =
      rw (ne_eqb a 0 (real (refused-cases s cl a r))) (refused_next-all s (λ u. Good c (updated g i u [] [] [])) (same s refl M) (λ p. same (noted s p) refl M) cl a)
    where
      real : Refuses s a → a ≢ 0
      real (is-unsound e h) = omega arith
      real (is-sound e h) = omega arith

      same : (u : State) → u.req ≡ s.req → Seat c (top_of c g) (reqs g) i u (g.log i) (g.took i) → Good c (updated g i u [] [] [])
      same u e N = good-kept G i u [] [] e (still u N) tt

  -- ---- a frame is written, and nothing else changes

  frame-written : (f out : List ℕ) → take (length f) (written out f) ≡ f
  frame-written f out = take-append_seam f (drop (length f) out)

  wrote-good : (f out : List ℕ) → Fine c (top_of c g) f → Good c (updated g i s (take (length f) (written out f) ∷ []) [] [])
  wrote-good f out h =
      good-kept G i s (take (length f) (written out f) ∷ []) [] refl (still s M) (subst (Fine c (top_of c g)) (sym (frame-written f out)) h, tt)

  kept_fine : (x : ℕ) → is_kept s x ≡ true → Fine c (top_of c g) (s.kept x)
  unfolding min_al
  kept_fine x k =
      subst (Fine c (top_of c g)) (sym (M.kept x low high)) (frame-fine G.fair.readable (of-message G.fair.spoken here refl))
    where
      low : min_al s i ≤ x
      low = subst (λ j. min_al s j ≤ x) M.me (is_kept-facts s x k).0

      high : x < top_of c g i
      high = subst (λ t. x < t) M.seq (is_kept-facts s x k).1

      S : Settled c (top_of c g) (g.took i ++ s.confirmed) (part s)
      S = M.tidy.settled

      here : Sent c (top_of c g) i x
      here = record { index = inn; low = le_trans (first-le S.lists i inn) (le_trans (S.lists.early i inn) low); high = high }

  -- ---- a message is taken

  taken-good : (out : List ℕ) → Passed (take_checks s out) → Good c (updated g i (without_taken s) [] [] (oldest s ∷ []))
  unfolding without_taken
  taken-good out P =
      good-kept G i (without_taken s) [] (oldest s ∷ []) refl
      (subst (λ (l : List Place). Member c (top_of c g) (reqs g) i (core s) (part s) l (g.log i)) (sym whole) M) tt
    where
      whole : g.took i ++ (oldest s ∷ []) ++ (without_taken s).confirmed ≡ g.took i ++ s.confirmed
      whole =
          append_snoc (g.took i) (oldest s) (without_taken s).confirmed
          ∙ ap (λ (l : List Place). g.took i ++ l) (sym (passed-takes s out P).first)

  -- ---- a message is accepted

  module _ (l : List ℕ) (p : Message) (e : decode l ≡ some (message p)) (o : Of c (top_of c g) p) (P : Passed (data_checks s p)) where
    accepts : Accepts s p
    accepts = passed-accepts s p P

    is : p ≡ c.msg p.src (reqs g i p.src)
    is = o.is ∙ ap (c.msg p.src) accepts.next

    next : Next c (top_of c g) (reqs g) i p.src
    next =
        record {
          index = inn;
          sent = subst (Sent c (top_of c g) p.src) accepts.next o.sent;
          known = λ k kn d. subst (λ (m : Message). ack_of m k ≤ s.req k) is (accepts.known k kn.0 (omega (arith, M.tidy.size, kn.1)) d);
        }

    accepted-good : Good c (updated g i (Steps.accepted s p) [] (map accepted (message_of (decode l))) [])
    accepted-good =
        subst (λ (x : Option Said). Good c (updated g i (Steps.accepted s p) [] (map accepted (message_of x)) [])) (sym e)
        (subst (λ (m : Message). Good c (updated g i (Steps.accepted s m) [] (accepted m ∷ []) [])) (sym is)
        (good-heard G i next (λ x. accepts.comes.other (sym x ∙ sym M.me))))

  -- ---- a message is sent

  module _ (d out : List ℕ) (bytes : Bytes d) (P : Passed (send_checks s d out)) where
    abbrev m : Message
    m = outgoing s d

    allowed : Sends s d out
    allowed = passed-sends s d out P

    lawful : LawfulMessage m
    lawful =
        outgoing-lawful s d (omega (arith, size, G.fair.limits.some)) (omega (arith, size, G.fair.limits.few))
        (omega (arith, M.w, G.fair.limits.narrow)) (omega (arith, M.cid, G.fair.limits.cid))
        (omega (arith, M.me, inn.1, G.fair.limits.few)) (omega (arith, M.seq, G.fair.limits.start i inn)) allowed.seq
        (λ k kn. between k (kn.0, omega (arith, size, kn.1))) allowed.short bytes
      where
        size : s.n ≡ c.n
        size = M.tidy.size

        between : (k : ℕ) → Index c.n k → (1 ≤ s.req k) × (s.req k ≤ last)
        between k kn =
            omega (arith, G.fair.limits.start k kn, G.fair.numbers.low i k inn kn, G.fair.numbers.high i k inn kn, G.fair.limits.end k kn)

    -- ACK is REQ
    ack-is : (k : ℕ) → Index c.n k → ack_of m k ≡ reqs g i k
    unfolding outgoing
    ack-is k kn = at_listed s.n s.req k kn.0 (omega (arith, M.tidy.size, kn.1))

    fresh : m ≡ c.msg i (top_of c g i) → Fresh c (top_of c g) (reqs g) i
    unfolding outgoing
    fresh e =
        record {
          index = inn;
          src = ap (λ (x : Message). x.src) (sym e) ∙ M.me;
          seq = ap (λ (x : Message). x.seq) (sym e) ∙ M.seq;
          ack = λ k kn. ap (λ (x : Message). ack_of x k) (sym e) ∙ ack-is k kn;
          own = G.own i inn;
        }

    near : (k : ℕ) → Index c.n k → top_of c g i < said c k (ack_of m k) i + c.w
    near k kn =
        omega (
          arith,
          allowed.ahead k kn.0 (omega (arith, M.tidy.size, kn.1)),
          M.seq,
          M.w,
          ap (λ j. s.al j k) M.me,
          (M.told.told k kn).says i inn,
          ap (λ r. said c k r i) (ack-is k kn),
        )

    -- the event, seen plainly: the frame is written, and it says m
    abbrev plainly : Group
    plainly = updated g i (Steps.sent s m) (encode (message m) ∷ []) (sent m (encode (message m)) ∷ []) []

    plain-good : m ≡ c.msg i (top_of c g i) → Good c plainly
    plain-good e =
        subst (λ (x : Message). Good c (updated g i (Steps.sent s x) (encode (message x) ∷ []) (sent x (encode (message x)) ∷ []) []))
        (sym (e ∙ ap (c.msg i) (sym (G.own i inn))))
        (good-sent G i (fresh e) (omega (arith, M.seq, allowed.seq))
        (subst (λ (x : Message). (k : ℕ) → Index c.n k → top_of c g i < said c k (ack_of x k) i + c.w) e near)
        (subst (λ (x : Message). decode (encode (message x)) ≡ some (message x)) e (decode-encode (message m) lawful)))

    abbrev writing : List ℕ → Option Said → Group
    writing f x = updated g i (Steps.sent s m) (f ∷ []) (map (λ p. sent p f) (message_of x)) []

    abbrev frame : List ℕ
    frame = take (length (encode (message m))) (written out (encode (message m)))

    is_plain : writing frame (decode frame) ≡ plainly
    is_plain =
        ap (λ (f : List ℕ). writing f (decode f)) (frame-written (encode (message m)) out)
        ∙ ap (writing (encode (message m))) (decode-encode (message m) lawful)

    sent-good : Agrees c (writing frame (decode frame)) → Good c (writing frame (decode frame))
    sent-good agrees =
        subst (Good c) (sym is_plain)
        (plain-good (agrees-sent c g i (Steps.sent s m) (encode (message m) ∷ []) m (encode (message m)) [] (subst (Agrees c) is_plain agrees)))

  -- ---- any of them

  done-good : (cl : Call) → Proper g cl → {r : Result} → Done s cl r → Agrees c (then cl r) → Good c (then cl r)
  unfolding copy_checks
  done-good cl h (done-sends d out P) agrees = sent-good d out h P agrees
  done-good cl h (done-data l p e P) agrees = accepted-good l p e (all-mem (Fine c (top_of c g)) l g.air h G.air p e) P
  done-good cl h (done-request l r e P) agrees =
      subst (λ (x : Option Said). Good c (updated g i s [] (map accepted (message_of x)) [])) (sym e) (good-kept G i s [] [] refl (still s M) tt)
  done-good cl h (done-asks k out P) agrees = wrote-good (encode (request (asking s k))) out (request-fine c (top_of c g) (asking s k))
  done-good cl h (done-copies x out P) agrees = wrote-good (s.kept x) out (kept_fine x (not-false (is_kept s x) P.1.0))
  done-good cl h (done-takes out P) agrees = taken-good out P

  pub call-good : (cl : Call) → Proper g cl → Agrees c (after call g i cl) → Good c (after call g i cl)
  unfolding after
  call-good cl h = call-cases s (λ r. Agrees c (then cl r) → Good c (then cl r)) cl (λ a r agrees. refused-good cl a r) (λ r d. done-good cl h d)
