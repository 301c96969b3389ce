-- Requests: what one asks for, and that its answer is exactly the kept numbers asked for.
use mathlib.Core.Bool.{true}
use mathlib.Core.Logic.{◌≢◌, ◌↔◌}
use mathlib.Core.List.{List, [], ◌∷◌}
use mathlib.Core.Path.{◌≡◌, refl, ap}
use Prim.Native.Nat.{ℕ, ◌+◌, ◌-◌, ◌*◌, ◌≤◌, ◌<◌, max}
use native.Mathlib.Omega.{arith}
use lib.Dec.{eqb, leb, ltb}
use lib.ListN.{length}
use borrow.Author.Tests.{ltb-true, ltb-false, leb-true, leb-false, eqb-true, eqb-false, not-false, lt-ltb, le-leb, lt-leb, le-ltb, ne_eqb}
use Rattle.rules.specs.Maps.{between, at}
use Rattle.rules.specs.Message.{Request, request, encode}
use Rattle.rules.specs.State.{State, min_al}
use Rattle.rules.specs.Steps.{missing_from, missing_to, asking, is_kept, resent_from, resent_to}
use Rattle.rules.specs.Sound.{sound}
use Rattle.rules.specs.Calls.{written, request_checks, arrive_request, make_checks, make_request}
use Rattle.rules.proofs.MapsLaws.{and_both, and_intro, between-low, between-high, is-between, at_listed, or_left, or_right}
use Rattle.rules.proofs.CallsLaws.{Passed, request-cases, make-cases}
use Rattle.rules.proofs.ChecksLaws.{refused-above}
use Rattle.rules.proofs.AcceptedLaws.{Comes, passed-comes}
use Rattle.rules.proofs.SoundLaws.{Sound, sound-facts}

-- ---- which numbers are kept

pub is_kept-facts : (s : State) (x : ℕ) → is_kept s x ≡ true → (min_al s s.me ≤ x) × (x < s.seq)
unfolding is_kept
is_kept-facts s x h =
    let both = and_both (leb (min_al s s.me) x) (ltb x s.seq) h in
    (leb-true (min_al s s.me) x both.0, ltb-true x s.seq both.1)

pub facts-is_kept : (s : State) (x : ℕ) → min_al s s.me ≤ x → x < s.seq → is_kept s x ≡ true
unfolding is_kept
facts-is_kept s x a b = and_intro (leb (min_al s s.me) x) (ltb x s.seq) (le-leb (min_al s s.me) x a) (lt-ltb x s.seq b)

-- ---- making a request

-- the request r asks k for what is missing of k's, and a frame of it was written
pub record Asks (s : State) (k : ℕ) (out : List ℕ) (r : Request) (output : List ℕ) : Type 0 where
  pub sound : Sound s
  pub k-low : 1 ≤ k
  pub k-high : k ≤ s.n
  pub other : k ≢ s.me
  pub missing : s.req k < s.heard k
  pub long : 33 + 4 * s.n ≤ length out
  pub group : r.cid ≡ s.cid
  pub from : r.src ≡ s.me
  pub «to» : r.lsrc ≡ k
  -- from the first number missing, up to but not including the last heard of
  pub first : at r.ack k ≡ s.req k
  pub past : r.lseq ≡ s.heard k
  pub acks : (j : ℕ) → 1 ≤ j → j ≤ s.n → at r.ack j ≡ s.req j
  pub frame : output ≡ written out (encode (request r))

passed-asks : (s : State) (k : ℕ) (out : List ℕ) → Passed (make_checks s k out) → Asks s k out (asking s k) (written out (encode (request (asking s k))))
unfolding make_checks asking
passed-asks s k out h =
    let unit : between 1 s.n k ≡ true = not-false (between 1 s.n k) (search (or_left, or_right)) in
    let low = between-low 1 s.n k unit in
    let high = between-high 1 s.n k unit in
    record {
      sound = sound-facts s (not-false (sound s) (search));
      k-low = low;
      k-high = high;
      other = eqb-false k s.me (search (or_left, or_right));
      missing = omega (arith, leb-false (missing_to s k) (missing_from s k) (search));
      long = ltb-false (length out) (33 + 4 * s.n) (search);
      group = refl;
      from = refl;
      «to» = refl;
      first = at_listed s.n s.req k low high;
      past = refl;
      acks = λ j a b. at_listed s.n s.req j a b;
      frame = refl;
    }

pub asked-facts : (s : State) (k : ℕ) (out : List ℕ) → (make_request s k out).answer ≡ 0 → Asks s k out (asking s k) (make_request s k out).output
unfolding make_checks
asked-facts s k out =
    make-cases s (λ r. r.answer ≡ 0 → Asks s k out (asking s k) r.output) k out (λ a r e. absurd (omega (arith, refused-above 0 r refl)))
    (λ h e. passed-asks s k out h)

-- where a number of k is missing, REQ_k itself included, it is asked for
pub asks-missing : (s : State) (k : ℕ) (out : List ℕ) → sound s ≡ true → 1 ≤ k → k ≤ s.n → k ≢ s.me → s.req k < s.heard k
    → 33 + 4 * s.n ≤ length out → (make_request s k out).answer ≡ 0
unfolding make_request make_checks
asks-missing s k out h low high other missing long =
    rw (
      h,
      is-between 1 s.n k low high,
      ne_eqb k s.me other,
      lt-leb (s.heard k) (s.req k) missing,
      le-ltb (length out) (33 + 4 * s.n) long,
    )

-- ---- answering one

pub record Answers (s : State) (r : Request) (numbers : List ℕ) : Type 0 where
  pub comes : Comes s r.cid r.src r.ack
  pub mine : r.lsrc ≡ s.me
  pub past : r.lseq ≤ s.seq
  -- the range: from the larger of ACK_i and minAL_i, ending before LSEQ
  pub range : numbers ≡ max (at r.ack s.me) (min_al s s.me) ∷ (r.lseq - 1) ∷ []
  pub some : max (at r.ack s.me) (min_al s s.me) < r.lseq

passed-answers : (s : State) (r : Request) → Passed (request_checks s r) → Answers s r (resent_from s r ∷ (resent_to s r - 1) ∷ [])
unfolding request_checks resent_from
passed-answers s r h =
    record {
      comes = passed-comes s r.cid r.src r.ack (search) (search) (search (or_left, or_right)) (search) (search (or_left, or_right));
      mine = eqb-true r.lsrc s.me (not-false (eqb r.lsrc s.me) (search));
      past = ltb-false s.seq r.lseq (search (or_left, or_right));
      range = refl;
      some = leb-false r.lseq (resent_from s r) (search);
    }

pub answered-facts : (s : State) (r : Request) → (arrive_request s r).answer ≡ 0 → Answers s r (arrive_request s r).numbers
unfolding request_checks
answered-facts s r =
    request-cases s (λ o. o.answer ≡ 0 → Answers s r o.numbers) r (λ a x e. absurd (omega (arith, refused-above 0 x refl))) (λ h e. passed-answers s r h)

-- the numbers of the range are those kept that were asked for, and no others
pub range-kept : (s : State) (r : Request) → (arrive_request s r).answer ≡ 0 → (x : ℕ)
    → ((at (arrive_request s r).numbers 1 ≤ x) × (x ≤ at (arrive_request s r).numbers 2))
    ↔ ((is_kept s x ≡ true) × (at r.ack s.me ≤ x) × (x < r.lseq))
range-kept s r e x =
    let f = answered-facts s r e in
    let first : at (arrive_request s r).numbers 1 ≡ max (at r.ack s.me) (min_al s s.me) = ap (λ (l : List ℕ). at l 1) f.range in
    let final : at (arrive_request s r).numbers 2 ≡ r.lseq - 1 = ap (λ (l : List ℕ). at l 2) f.range in (
      (λ h. (facts-is_kept s x (omega arith) (omega arith), omega arith, omega arith)),
      (λ h.
          let kept = is_kept-facts s x h.0 in
          (omega arith, omega arith)),
    )
