-- The six calls (01, "Answer numbers"): the checks of each in 01's order, its answer, next state, numbers and output.
use Rattle.std.specs.Prelude.{Bool, cond, not, ◌&&◌, ◌||◌, List, [], ◌∷◌, ◌++◌, ℕ, ◌+◌, ◌-◌, ◌*◌, eqb, leb, ltb, length, get_or, drop, replicate}
use Rattle.std.proofs.Math.Option.{Option, none, some}
use Rattle.rules.specs.Maps.{among, between, at, every}
use Rattle.rules.specs.Message.{Message, Request, Said, message, request, encode, decode, last}
use Rattle.rules.specs.State.{Place, State, taken, from, places, opened, closed}
use Rattle.rules.specs.Steps.{may_send, outgoing, known, noted, missing_from, missing_to, asking, is_kept, resent_from, resent_to, accepted, sent, without_taken}
use Rattle.rules.specs.Sound.{ranges_fit, sound}

-- a test, and the answer that refuses where it holds
pub record Check : Type 0 where
  pub holds : Bool
  pub answer : ℕ

infix 20 ◌⇒◌
abbrev pub ◌⇒◌ : Bool → ℕ → Check
t ⇒ a = record { holds = t; answer = a }

-- the first test that holds refuses with its answer; where none holds, it is done
abbrev pub decide : {A : Type 0} → List Check → (ℕ → A) → A → A
decide [] refused done = done
decide (c ∷ l) refused done = cond c.holds (refused c.answer) (decide l refused done)

-- the answer of the first check that holds, 0 where none does
abbrev pub answer_of : List Check → ℕ
answer_of l = decide l (λ a. a) 0

-- what a call gives: its answer, the numbers handed back, the next state, and the whole lent output
pub record Result : Type 0 where
  pub answer : ℕ
  pub numbers : List ℕ
  pub next : State
  pub output : List ℕ

-- a refusal: the m numbers handed back are 0, the output is unchanged
abbrev pub refusal : ℕ → State → List ℕ → ℕ → Result
refusal m s out a = record { answer = a; numbers = replicate m 0; next = s; output = out }

-- output beyond the bytes written is unchanged
abbrev pub written : List ℕ → List ℕ → List ℕ
written out l = l ++ drop (length l) out

abbrev pub is_unit : State → ℕ → Bool
is_unit s k = between 1 s.n k

-- sender j already has 4W places taken
unfoldable pub full : State → ℕ → Bool
full s j = leb (4 * s.w) (length (from j (taken s)))

-- ---- opening

pub record Opened : Type 0 where
  pub answer : ℕ
  pub unit : State

unfoldable pub open_checks : ℕ → ℕ → ℕ → ℕ → (ℕ → ℕ) → List Check
open_checks i n w cid first =
    (not (ranges_fit i n w && leb cid last && every 1 n (λ k. between 1 last (first k))) ⇒ 2) ∷ []

unfoldable pub opening : ℕ → ℕ → ℕ → ℕ → (ℕ → ℕ) → Opened
opening i n w cid first =
    decide (open_checks i n w cid first) (λ a. record { answer = a; unit = closed })
    (record { answer = 0; unit = opened i n w cid first })

-- ---- send: number and length of the frame

unfoldable pub send_checks : State → List ℕ → List ℕ → List Check
send_checks s d out =
    (not (sound s) ⇒ 1)
    ∷ (ltb 48 (length d) ⇒ 13)
    ∷ (leb last s.seq ⇒ 14)
    ∷ (not (may_send s) ⇒ 15)
    ∷ (full s s.me ⇒ 12)
    ∷ (ltb (length out) (37 + 4 * s.n + length d) ⇒ 16)
    ∷ []

unfoldable pub send : State → List ℕ → List ℕ → Result
send s d out =
    let m : Message = outgoing s d in
    let f : List ℕ = encode (message m) in
    decide (send_checks s d out) (refusal 2 s out)
    (record { answer = 0; numbers = s.seq ∷ length f ∷ []; next = sent s m; output = written out f })

-- ---- arrival: first and last number of the range that answers a request

-- what both kinds are checked for first
unfoldable pub foreign : State → ℕ → List ℕ → Bool
foreign s src ack = not (eqb (length ack) s.n) || not (is_unit s src)

unfoldable pub data_checks : State → Message → List Check
data_checks s p =
    (not (sound s) ⇒ 1)
    ∷ (not (eqb p.cid s.cid) ⇒ 4)
    ∷ (foreign s p.src p.ack ⇒ 5)
    ∷ (eqb p.src s.me ⇒ 6)
    ∷ (ltb s.seq (at p.ack s.me)
    || not (eqb (at p.ack p.src) p.seq)
    || ltb (places s) p.buf
    ⇒ 7)
    ∷ (ltb p.seq (s.req p.src) ⇒ 8)
    ∷ (ltb (s.req p.src) p.seq ⇒ 9)
    ∷ (not (known s p) ⇒ 10)
    ∷ (not (every 1 s.n (λ k. leb (s.al k p.src) (at p.ack k))) ⇒ 11)
    ∷ (full s p.src ⇒ 12)
    ∷ []

-- 9, 10 and 12 note the missing numbers, and nothing else changes
unfoldable pub arrive_data : State → Message → Result
arrive_data s p =
    decide (data_checks s p) (λ a. refusal 2 (cond (among a (9 ∷ 10 ∷ 12 ∷ [])) (noted s p) s) [] a)
    (record { answer = 0; numbers = 0 ∷ 0 ∷ []; next = accepted s p; output = [] })

unfoldable pub request_checks : State → Request → List Check
request_checks s r =
    (not (sound s) ⇒ 1)
    ∷ (not (eqb r.cid s.cid) ⇒ 4)
    ∷ (foreign s r.src r.ack || not (is_unit s r.lsrc) || eqb r.lsrc r.src ⇒ 5)
    ∷ (eqb r.src s.me ⇒ 6)
    ∷ (not (eqb r.lsrc s.me) ⇒ 17)
    ∷ (ltb s.seq (at r.ack s.me) || ltb s.seq r.lseq || leb r.lseq (at r.ack s.me) ⇒ 7)
    ∷ (leb (resent_to s r) (resent_from s r) ⇒ 18)
    ∷ []

unfoldable pub arrive_request : State → Request → Result
arrive_request s r =
    decide (request_checks s r) (refusal 2 s [])
    (record { answer = 0; numbers = resent_from s r ∷ (resent_to s r - 1) ∷ []; next = s; output = [] })

abbrev pub arrive_said : State → Option Said → Result
arrive_said s none = decide ((not (sound s) ⇒ 1) ∷ []) (refusal 2 s []) (refusal 2 s [] 3)
arrive_said s (some (message p)) = arrive_data s p
arrive_said s (some (request r)) = arrive_request s r

unfoldable pub arrive : State → List ℕ → Result
arrive s l = arrive_said s (decode l)

-- ---- making a request: length of the frame

unfoldable pub make_checks : State → ℕ → List ℕ → List Check
make_checks s k out =
    (not (sound s) ⇒ 1)
    ∷ (not (is_unit s k) || eqb k s.me ⇒ 5)
    ∷ (leb (missing_to s k) (missing_from s k) ⇒ 18)
    ∷ (ltb (length out) (33 + 4 * s.n) ⇒ 16)
    ∷ []

unfoldable pub make_request : State → ℕ → List ℕ → Result
make_request s k out =
    let f : List ℕ = encode (request (asking s k)) in
    decide (make_checks s k out) (refusal 1 s out)
    (record { answer = 0; numbers = length f ∷ []; next = s; output = written out f })

-- ---- copying out the kept frame of number x: its length

unfoldable pub copy_checks : State → ℕ → List ℕ → List Check
copy_checks s x out =
    (not (sound s) ⇒ 1) ∷ (not (is_kept s x) ⇒ 18) ∷ (ltb (length out) (length (s.kept x)) ⇒ 16) ∷ []

unfoldable pub copy : State → ℕ → List ℕ → Result
copy s x out =
    decide (copy_checks s x out) (refusal 1 s out)
    (record { answer = 0; numbers = length (s.kept x) ∷ []; next = s; output = written out (s.kept x) })

-- ---- take: sender, number and length of the data

abbrev nothing : Place
nothing = record { slot = 0; src = 0; seq = 0; ack = []; text = [] }

-- the oldest confirmed message, where there is one
unfoldable pub oldest : State → Place
oldest s = get_or s.confirmed 0 nothing

unfoldable pub take_checks : State → List ℕ → List Check
take_checks s out =
    (not (sound s) ⇒ 1)
    ∷ (eqb (length s.confirmed) 0 ⇒ 18)
    ∷ (ltb (length out) (length (oldest s).text) ⇒ 16)
    ∷ []

unfoldable pub take : State → List ℕ → Result
take s out =
    let p : Place = oldest s in
    decide (take_checks s out) (refusal 3 s out)
    (record {
      answer = 0;
      numbers = p.src ∷ p.seq ∷ length p.text ∷ [];
      next = without_taken s;
      output = written out p.text;
    })

-- ---- any of the calls on a unit, with its arguments

pub data Call : Type 0 where
  sends : (d out : List ℕ) → Call
  hears : (l : List ℕ) → Call
  asks : (k : ℕ) (out : List ℕ) → Call
  copies : (x : ℕ) (out : List ℕ) → Call
  takes : (out : List ℕ) → Call

abbrev pub call : State → Call → Result
call s (sends d out) = send s d out
call s (hears l) = arrive s l
call s (asks k out) = make_request s k out
call s (copies x out) = copy s x out
call s (takes out) = take s out
