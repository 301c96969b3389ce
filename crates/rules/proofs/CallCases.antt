-- Any call by cases: its checks, its refusals and what it does, so that one proof serves all calls.
use mathlib.Core.Bool.{Bool, true, false, cond, not}
use mathlib.Core.List.{List, [], ◌∷◌}
use mathlib.Core.Option.{Option, none, some}
use mathlib.Core.Path.{◌≡◌, refl, sym, subst}
use Prim.Native.Nat.{ℕ, ◌-◌, ◌<◌}
use lib.Dec.{ltb}
use lib.ListN.{length}
use borrow.Author.Tests.{not-true, not-false}
use Rattle.rules.specs.Maps.{all, among}
use Rattle.rules.specs.Message.{Message, Request, Said, message, request, encode, decode}
use Rattle.rules.specs.State.{State, opened, closed}
use Rattle.rules.specs.Steps.{outgoing, noted, asking, resent_from, resent_to, accepted, sent, without_taken}
use Rattle.rules.specs.Sound.{sound}
use Rattle.rules.specs.Calls.{Check, ◌⇒◌, Result, refusal, written, Opened, open_checks, opening, send_checks, data_checks, request_checks, arrive_said, arrive, make_checks, copy_checks, oldest, take_checks, Call, sends, hears, asks, copies, takes, call}
use Rattle.rules.specs.Demand1.{order_of_said, order_of, lent, handed}
use Rattle.rules.proofs.CallsLaws.{Passed, Refused, now, later, decide-cases, send-cases, data-cases, request-cases, make-cases, copy-cases, take_cases}
use Rattle.rules.proofs.ChecksLaws.{answers_of, refused-above}

module _ (s : State) where
  abbrev pub checks_of_said : Option Said → List Check
  checks_of_said none = (not (sound s) ⇒ 1) ∷ (true ⇒ 3) ∷ []
  checks_of_said (some (message p)) = data_checks s p
  checks_of_said (some (request r)) = request_checks s r

  abbrev pub checks_of : Call → List Check
  checks_of (sends d out) = send_checks s d out
  checks_of (hears l) = checks_of_said (decode l)
  checks_of (asks k out) = make_checks s k out
  checks_of (copies x out) = copy_checks s x out
  checks_of (takes out) = take_checks s out

  -- the unit after a refusal with answer a
  abbrev pub next_of_said : Option Said → ℕ → State
  next_of_said none a = s
  next_of_said (some (message p)) a = cond (among a (9 ∷ 10 ∷ 12 ∷ [])) (noted s p) s
  next_of_said (some (request r)) a = s

  abbrev pub refused_next : Call → ℕ → State
  refused_next (sends d out) a = s
  refused_next (hears l) a = next_of_said (decode l) a
  refused_next (asks k out) a = s
  refused_next (copies x out) a = s
  refused_next (takes out) a = s

  abbrev pub refused_by : Call → ℕ → Result
  refused_by c a = refusal (handed c) (refused_next c a) (lent c) a

  pub refused_next-all : (Q : State → Type 0) → Q s → ((p : Message) → Q (noted s p)) → (c : Call) (a : ℕ) → Q (refused_next c a)
  refused_next-all Q x y (sends d out) a = x
  refused_next-all Q x y (hears l) a = said (decode l)
    where
      noting : (p : Message) (t : Bool) → Q (cond t (noted s p) s)
      noting p true = y p
      noting p false = x

      said : (o : Option Said) → Q (next_of_said o a)
      said none = x
      said (some (message p)) = noting p (among a (9 ∷ 10 ∷ 12 ∷ []))
      said (some (request r)) = x
  refused_next-all Q x y (asks k out) a = x
  refused_next-all Q x y (copies z out) a = x
  refused_next-all Q x y (takes out) a = x

  -- the calls by what they do
  pub data Done : Call → Result → Type 0 where
    done-sends : (d out : List ℕ) → Passed (send_checks s d out)
        → Done (sends d out) (record {
          answer = 0;
          numbers = s.seq ∷ length (encode (message (outgoing s d))) ∷ [];
          next = sent s (outgoing s d);
          output = written out (encode (message (outgoing s d)));
        })
    done-data : (l : List ℕ) (p : Message) → decode l ≡ some (message p) → Passed (data_checks s p)
        → Done (hears l) (record { answer = 0; numbers = 0 ∷ 0 ∷ []; next = accepted s p; output = [] })
    done-request : (l : List ℕ) (r : Request) → decode l ≡ some (request r) → Passed (request_checks s r)
        → Done (hears l) (record { answer = 0; numbers = resent_from s r ∷ (resent_to s r - 1) ∷ []; next = s; output = [] })
    done-asks : (k : ℕ) (out : List ℕ) → Passed (make_checks s k out)
        → Done (asks k out) (record {
          answer = 0;
          numbers = length (encode (request (asking s k))) ∷ [];
          next = s;
          output = written out (encode (request (asking s k)));
        })
    done-copies : (x : ℕ) (out : List ℕ) → Passed (copy_checks s x out)
        → Done (copies x out) (record { answer = 0; numbers = length (s.kept x) ∷ []; next = s; output = written out (s.kept x) })
    done-takes : (out : List ℕ) → Passed (take_checks s out)
        → Done (takes out) (record {
          answer = 0;
          numbers = (oldest s).src ∷ (oldest s).seq ∷ length (oldest s).text ∷ [];
          next = without_taken s;
          output = written out (oldest s).text;
        })

  said-cases : (P : Result → Type 0) (l : List ℕ) (o : Option Said) → decode l ≡ o
      → ((a : ℕ) → Refused a (checks_of_said o) → P (refusal 2 (next_of_said o a) [] a)) → ((r : Result) → Done (hears l) r → P r) → P (arrive_said s o)
  said-cases P l none e f g = decide-cases P _ _ ((not (sound s) ⇒ 1) ∷ []) (λ a r. f a (first a r)) (λ p. f 3 (later p.0 (now refl refl)))
    where
      first : (a : ℕ) → Refused a ((not (sound s) ⇒ 1) ∷ []) → Refused a (checks_of_said none)
      first a (now x y) = now x y
      first a (later _ x) = elim x [ ]
  said-cases P l (some (message p)) e f g = data-cases s P p f (λ x. g _ (done-data l p e x))
  said-cases P l (some (request r)) e f g = request-cases s P r f (λ x. g _ (done-request l r e x))

  pub call-cases : (P : Result → Type 0) (c : Call) → ((a : ℕ) → Refused a (checks_of c) → P (refused_by c a))
      → ((r : Result) → Done c r → P r) → P (call s c)
  unfolding arrive
  call-cases P (sends d out) f g = send-cases s P d out f (λ x. g _ (done-sends d out x))
  call-cases P (hears l) f g = said-cases P l (decode l) refl f g
  call-cases P (asks k out) f g = make-cases s P k out f (λ x. g _ (done-asks k out x))
  call-cases P (copies x out) f g = copy-cases s P x out f (λ y. g _ (done-copies x out y))
  call-cases P (takes out) f g = take_cases s P out f (λ x. g _ (done-takes out x))

  pub done-answer : {c : Call} {r : Result} → Done c r → r.answer ≡ 0
  done-answer (done-sends d out x) = refl
  done-answer (done-data l p e x) = refl
  done-answer (done-request l r e x) = refl
  done-answer (done-asks k out x) = refl
  done-answer (done-copies x out y) = refl
  done-answer (done-takes out x) = refl

  pub done-passed : {c : Call} {r : Result} → Done c r → Passed (checks_of c)
  done-passed (done-sends d out x) = x
  done-passed (done-data l p e x) = subst (λ (o : Option Said). Passed (checks_of_said o)) (sym e) x
  done-passed (done-request l r e x) = subst (λ (o : Option Said). Passed (checks_of_said o)) (sym e) x
  done-passed (done-asks k out x) = x
  done-passed (done-copies x out y) = y
  done-passed (done-takes out x) = x

  -- the checks stand in 01's order
  pub checks_of-order : (c : Call) → answers_of (checks_of c) ≡ order_of c
  unfolding send_checks data_checks request_checks make_checks copy_checks take_checks
  checks_of-order (sends d out) = refl
  checks_of-order (hears l) = go (decode l)
    where
      go : (o : Option Said) → answers_of (checks_of_said o) ≡ order_of_said o
      go none = refl
      go (some (message p)) = refl
      go (some (request r)) = refl
  checks_of-order (asks k out) = refl
  checks_of-order (copies x out) = refl
  checks_of-order (takes out) = refl

  -- the first is for soundness, and no later one answers 1
  pub record First (l : List Check) : Type 0 where
    pub rest : List Check
    pub whole : l ≡ (not (sound s) ⇒ 1) ∷ rest
    pub others : all (λ x. ltb 1 x) (answers_of rest) ≡ true

  pub checks_of-first : (c : Call) → First (checks_of c)
  unfolding send_checks data_checks request_checks make_checks copy_checks take_checks
  checks_of-first (sends d out) = record { rest = _; whole = refl; others = refl }
  checks_of-first (hears l) = go (decode l)
    where
      go : (o : Option Said) → First (checks_of_said o)
      go none = record { rest = _; whole = refl; others = refl }
      go (some (message p)) = record { rest = _; whole = refl; others = refl }
      go (some (request r)) = record { rest = _; whole = refl; others = refl }
  checks_of-first (asks k out) = record { rest = _; whole = refl; others = refl }
  checks_of-first (copies x out) = record { rest = _; whole = refl; others = refl }
  checks_of-first (takes out) = record { rest = _; whole = refl; others = refl }

  -- so a refusal answers 1 where the unit is not sound, and more where it is
  pub data Refuses (a : ℕ) : Type 0 where
    is-unsound : a ≡ 1 → sound s ≡ false → Refuses a
    is-sound : 1 < a → sound s ≡ true → Refuses a

  pub refused-cases : (c : Call) (a : ℕ) → Refused a (checks_of c) → Refuses a
  refused-cases c a r = go (subst (λ (l : List Check). Refused a l) f.whole r)
    where
      f : First (checks_of c)
      f = checks_of-first c

      go : Refused a ((not (sound s) ⇒ 1) ∷ f.rest) → Refuses a
      go (now h e) = is-unsound (sym e) (not-true (sound s) h)
      go (later h x) = is-sound (refused-above 1 x f.others) (not-false (sound s) h)

  pub done-sound : {c : Call} {r : Result} → Done c r → sound s ≡ true
  done-sound {c} d = not-false (sound s) (subst (λ (l : List Check). Passed l) (checks_of-first c).whole (done-passed d)).0

  -- the five ways in which a call can change the unit
  pub record Ways (Q : State → Type 0) : Type 0 where
    pub stays : Q s
    pub notes : (p : Message) → Q (noted s p)
    pub sends : (d out : List ℕ) → Passed (send_checks s d out) → Q (sent s (outgoing s d))
    pub accepts : (l : List ℕ) (p : Message) → decode l ≡ some (message p) → Passed (data_checks s p) → Q (accepted s p)
    pub takes : (out : List ℕ) → Passed (take_checks s out) → Q (without_taken s)

  -- what holds after each of them holds after every call
  pub next-all : (Q : State → Type 0) → Ways Q → (c : Call) → Q (call s c).next
  next-all Q w c = call-cases (λ r. Q r.next) c (λ a r. refused_next-all Q w.stays w.notes c a) (λ r d. done d)
    where
      done : {c : Call} {r : Result} → Done c r → Q r.next
      done (done-sends d out x) = w.sends d out x
      done (done-data l p e x) = w.accepts l p e x
      done (done-request l r e x) = w.stays
      done (done-asks k out x) = w.stays
      done (done-copies x out y) = w.stays
      done (done-takes out x) = w.takes out x

pub open-cases : (P : Opened → Type 0) (i n w cid : ℕ) (first : ℕ → ℕ) → P (record { answer = 2; unit = closed })
    → (Passed (open_checks i n w cid first) → P (record { answer = 0; unit = opened i n w cid first })) → P (opening i n w cid first)
unfolding opening open_checks
open-cases P i n w cid first x y = decide-cases P _ _ (open_checks i n w cid first) (λ a r. two a r) y
  where
    two : (a : ℕ) → Refused a (open_checks i n w cid first) → P (record { answer = a; unit = closed })
    two a (now h e) = subst (λ b. P (record { answer = b; unit = closed })) e x
    two a (later _ x) = elim x [ ]
