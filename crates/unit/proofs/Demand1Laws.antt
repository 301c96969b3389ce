-- Demand 1 holds of every call on a unit, whatever the unit and the input.
use mathlib.Core.Bool.{Bool, true, false, cond, true≢false}
use mathlib.Core.List.{List, [], ◌∷◌}
use mathlib.Core.Logic.{◌≢◌, ◌↔◌}
use mathlib.Core.Option as maybe
use mathlib.Core.Path.{◌≡◌, refl, sym, ap, subst, ◌∙◌}
use Prim.Native.Nat.{ℕ}
use native.Mathlib.Omega.{arith}
use lib.ListN.{length}
use Rattle.rules.specs.Maps.{among, at}
use Rattle.rules.specs.Message.{Said, decode}
use Rattle.rules.specs.Sound.{sound}
use Rattle.rules.specs.Calls as rules
use Rattle.rules.specs.Calls.{Result, Call, call, sends, hears, asks, copies, takes}
use Rattle.rules.specs.Demand1.{order_of}
use Rattle.rules.proofs.CallsLaws.{decide-cases}
use Rattle.rules.proofs.CallSound.{one-unsound, one-quiet}
use Rattle.rules.proofs.Demand1Laws.{demand1, opening_demand1}
use Rattle.std.specs.Prelude.{⊤, Option, Some, None, Ok, Err}
use Rattle.answers.specs.Answers.{Answered, number_of, refusal_of, answer_of}
use Rattle.answers.proofs.AnswersLaws.{refused-numbered}
use Rattle.state.specs.declared.Core.{Core}
use Rattle.state.specs.declared.Opening.{Opening}
use Rattle.state.specs.Soundness.{sound_of}
use Rattle.frame.specs.declared.Data.{Data}
use Rattle.frame.specs.declared.Frame.{Frame}
use Rattle.frame.specs.declared.Frame.TheVariants as frame
use Rattle.frame.specs.Frame.{frame_of, payload_of}
use Rattle.handing.specs.Handing.{Given, not_taken, taken_with, taking_checks, taking_of}
use Rattle.steps.specs.declared.Resend.{Resend}
use Rattle.steps.specs.declared.Arrival.{Arrival}
use Rattle.steps.specs.declared.Arrival.TheVariants.{Asked, Accepted}
use Rattle.steps.specs.declared.Sending.{Sending}
use Rattle.steps.specs.Checks.{group_checks, unit_checks}
use Rattle.state.specs.Changed.{with_heard}
use Rattle.steps.specs.Arrival.{refusing, noted_of, notes, noting, storing, unit_arrival, data_arrival, request_arrival, frame_arrival, arrival_of}
use Rattle.steps.specs.Sending.{sending_of}
use Rattle.unit.specs.declared.Unit.{Unit}
use Rattle.unit.specs.declared.Sent.{Sent}
use Rattle.handing.specs.declared.Taken.{Taken}
use Rattle.unit.specs.View.{Outcome, view, meant, of_sent, of_arrived, of_handed, of_taken}
use Rattle.unit.specs.Exact.{with_core, sent_by, sent_of, arrived_by, arrived_of, taken_of}
use Rattle.unit.specs.CallContracts.{Opens, Sends, Arrives, Asks, Copies, Takes}
use Rattle.unit.specs.Demand1.{Stays, Demand1}

-- answer, numbers and output are those of the rules; the unit is the call's own part
demand1-with : (u : Unit) (c : Call) (x : Outcome) → meant x ≡ call (view u) c → (x.answer ≢ 0 → Stays u c x.answer x.next) → Demand1 u c x
demand1-with u c x m stays =
    let d = demand1 (view u) c in
    let a = ap (λ (r : Result). r.answer) m in
    record {
      answers = ap (λ (n : ℕ). among n (0 ∷ order_of c)) a ∙ d.answers;
      refuses = λ h.
          let r = d.refuses (λ z. h (a ∙ z)) in
          record {
            output = ap (λ (q : Result). q.output) m ∙ r.output;
            numbers = ap (λ (q : Result). q.numbers) m ∙ r.numbers;
            stays = stays h;
          };
    }

unchanged : (u : Unit) (c : Call) (a : ℕ) (next : Unit) → next ≡ u → Stays u c a next
unchanged u c a next e = record { unit = e ∙ ap (λ (v : Unit). with_core u (with_heard u.core v.core.heard)) (sym e); heard = λ h. e }

-- ---- arrival

-- a refusal with answer a changes the numbers in HEARD at most
record Passes (c : Core) (a : ℕ) (d : Core) : Type 0 where
  core : d ≡ with_heard c d.heard
  same : notes a ≡ false → d ≡ c

abbrev Refuses : (c d : Core) → Answered Arrival → Type 0
Refuses c d (Err r) = Passes c (number_of r) d
Refuses c d (Ok a) = ⊤

module _ (c : Core) where
  abbrev Either : Core × Answered Arrival → Type 0
  Either x = Refuses c x.0 x.1

  refusing-refuses : (a : ℕ) → Either (refusing c a)
  refusing-refuses a = record { core = refl; same = λ e. refl }

  noting-refuses : (f : Data) (a : ℕ) → number_of (refusal_of a) ≡ a → Either (noting c f a)
  unfolding noted_of
  noting-refuses f a n = go (notes a) (ap notes n)
    where
      go : (t : Bool) → notes (number_of (refusal_of a)) ≡ t → Passes c (number_of (refusal_of a)) (cond t (noted_of c f) c)
      go true e = record { core = refl; same = λ z. absurd (true≢false (sym e ∙ z)) }
      go false e = record { core = refl; same = λ z. refl }

  data-refuses : (f : Data) → Either (data_arrival c f)
  unfolding data_arrival unit_arrival storing
  data-refuses f =
      decide-cases Either (refusing c) _ (group_checks c f) (λ a r. refusing-refuses a)
      (λ p.
      decide-cases Either (noting c f) (storing c f) (unit_checks c f)
      (λ a r. noting-refuses f a (refused-numbered a (unit_checks c f) (refl, (refl, (refl, (refl, (refl, (refl, (refl, tt))))))) r)) (λ q. tt {0}))

  -- a request changes nothing
  request-refuses : (r : Answered Arrival) → Refuses c c r
  request-refuses (Err r) = record { core = refl; same = λ e. refl }
  request-refuses (Ok a) = tt

  frame-refuses : (f : Option Frame) → Either (frame_arrival c f)
  unfolding frame_arrival
  frame-refuses None = refusing-refuses 3
  frame-refuses (Some (frame.Data f)) = data-refuses f
  frame-refuses (Some (frame.Request f)) = request-refuses (request_arrival c f)

  arrival-refuses : (acks : List ℕ) (said : maybe.Option Said) → Either (arrival_of c acks said)
  unfolding arrival_of
  arrival-refuses acks said = go (sound_of c acks)
    where
      go : (t : Bool) → Either (cond t (frame_arrival c (frame_of said)) (refusing c 1))
      go true = frame-refuses (frame_of said)
      go false = refusing-refuses 1

arrived-stays : (u : Unit) (l : List ℕ) → answer_of (arrived_of u l).1 ≢ 0 → Stays u (hears l) (answer_of (arrived_of u l).1) (arrived_of u l).0
unfolding arrived_of arrived_by
arrived-stays u l = go a.0 a.1 (arrival-refuses u.core u.acks (decode l))
  where
    a : Core × Answered Arrival
    a = arrival_of u.core u.acks (decode l)

    go : (d : Core) (r : Answered Arrival) → Refuses u.core d r → answer_of (arrived_by u (payload_of (decode l)) d r).1 ≢ 0
        → Stays u (hears l) (answer_of (arrived_by u (payload_of (decode l)) d r).1) (arrived_by u (payload_of (decode l)) d r).0
    go d (Err r) p h = record { unit = ap (with_core u) p.core; heard = λ e. ap (with_core u) (p.same e) }
    go d (Ok (Asked r)) p h = absurd (h refl)
    go d (Ok (Accepted s)) p h = absurd (h refl)

pub arrives-demand1 : (u : Unit) (l : List ℕ) (r : Unit × Answered (Option Resend)) → Arrives u l r → Demand1 u (hears l) (of_arrived r)
arrives-demand1 u l r c =
    demand1-with u (hears l) (of_arrived r) c.means (rw c.exact (arrived-stays u l))

-- ---- the other calls

sent-same : (u : Unit) (d out : List ℕ) → answer_of (sent_of u d out).result.1 ≢ 0 → (sent_of u d out).result.0 ≡ u
unfolding sent_of sent_by
sent-same u d out = go (sending_of u.core u.acks (length d) (length out))
  where
    go : (s : Answered Sending) → answer_of (sent_by u d out s).result.1 ≢ 0 → (sent_by u d out s).result.0 ≡ u
    go (Err r) h = refl
    go (Ok s) h = absurd (h refl)

pub sends-demand1 : (u : Unit) (d out : List ℕ) (r : Unit × Answered Sent) (out' : List ℕ) → Sends u d out r out' → Demand1 u (sends d out) (of_sent r out')
sends-demand1 u d out r out' c =
    demand1-with u (sends d out) (of_sent r out') c.means (λ h. unchanged u (sends d out) (answer_of r.1) r.0 (rw c.exact (sent-same u d out (rw c.exact at h))))

taken-same : (u : Unit) (out : List ℕ) → answer_of (taken_of u out).result.1 ≢ 0 → (taken_of u out).result.0 ≡ u
unfolding taken_of taking_of
taken-same u out h =
    ap (with_core u)
    (decide-cases (λ (g : Given (Core × Answered Taken)). answer_of g.result.1 ≢ 0 → g.result.0 ≡ u.core) (not_taken u.core out)
    (taken_with u.core u.bytes out) (taking_checks u.core u.acks out) (λ a r e. refl) (λ p e. absurd (e refl)) h)

pub takes-demand1 : (u : Unit) (out : List ℕ) (r : Unit × Answered Taken) (out' : List ℕ) → Takes u out r out' → Demand1 u (takes out) (of_taken r out')
takes-demand1 u out r out' c =
    demand1-with u (takes out) (of_taken r out') c.means (λ h. unchanged u (takes out) (answer_of r.1) r.0 (rw c.exact (taken-same u out (rw c.exact at h))))

module _ (u : Unit) (out : List ℕ) (r : Answered ℕ) (out' : List ℕ) where
  pub asks-demand1 : (k : ℕ) → Asks u k out r out' → Demand1 u (asks k out) (of_handed u r out')
  asks-demand1 k c = demand1-with u (asks k out) (of_handed u r out') c.means (λ h. unchanged u (asks k out) (answer_of r) u refl)

  pub copies-demand1 : (x : ℕ) → Copies u x out r out' → Demand1 u (copies x out) (of_handed u r out')
  copies-demand1 x c = demand1-with u (copies x out) (of_handed u r out') c.means (λ h. unchanged u (copies x out) (answer_of r) u refl)

-- ---- opening

-- 0 or 2; that another answer than 0 gives the closed unit is a clause of the contract
pub opens-answers : (o : Opening) (r : Unit × Answered ⊤) → Opens o r → among (answer_of r.1) (0 ∷ 2 ∷ []) ≡ true
opens-answers o r c =
    ap (λ (x : rules.Opened). among x.answer (0 ∷ 2 ∷ [])) c.means
    ∙ (opening_demand1 o.me o.n o.w o.cid (at o.first)).answers

-- ---- answer 1

-- answer 1 leaves the unit unchanged
pub one_same : (u : Unit) (c : Call) (x : Outcome) → Demand1 u c x → x.answer ≡ 1 → x.next ≡ u
one_same u c x d e = (d.refuses (λ z. omega arith)).stays.heard (one-quiet c e)

-- and is for a unit that is not sound
pub one-not-sound : (u : Unit) (c : Call) (x : Outcome) → meant x ≡ call (view u) c → (x.answer ≡ 1) ↔ (sound (view u) ≡ false)
one-not-sound u c x m =
    let a = ap (λ (r : Result). r.answer) m in
    subst (λ (n : ℕ). (n ≡ 1) ↔ (sound (view u) ≡ false)) (sym a) (one-unsound (view u) c)
