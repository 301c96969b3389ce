-- Each call by cases: a property of its result is shown for each refusal and for the step, once.
use mathlib.Core.Bool.{Bool, true, false, cond}
use mathlib.Core.List.{List, [], ◌∷◌}
use mathlib.Core.Path.{◌≡◌, refl}
use Prim.Native.Nat.{ℕ, ◌-◌}
use lib.ListN.{length}
use Rattle.rules.specs.Maps.{among}
use Rattle.rules.specs.Message.{Message, Request, message, request, encode}
use Rattle.rules.specs.State.{State}
use Rattle.rules.specs.Steps.{outgoing, noted, asking, resent_from, resent_to, accepted, sent, without_taken}
use Rattle.rules.specs.Calls.{Check, decide, Result, refusal, written, send_checks, send, data_checks, arrive_data, request_checks, arrive_request, make_checks, make_request, copy_checks, copy, oldest, take_checks, take}

-- no test holds
abbrev pub Passed : List Check → Type 0
Passed [] = Unit {0}
Passed (c ∷ l) = (c.holds ≡ false) × Passed l

-- the first test that holds answers a
pub data Refused (a : ℕ) : List Check → Type 0 where
  now : {c : Check} {l : List Check} → c.holds ≡ true → c.answer ≡ a → Refused a (c ∷ l)
  later : {c : Check} {l : List Check} → c.holds ≡ false → Refused a l → Refused a (c ∷ l)

module _ {A : Type 0} (P : A → Type 0) (refused : ℕ → A) (done : A) where
  pub decide-cases : (l : List Check) → ((a : ℕ) → Refused a l → P (refused a)) → (Passed l → P done) → P (decide l refused done)
  decide-cases [] f g = g tt
  decide-cases (c ∷ l) f g =
      go c.holds (λ e. f c.answer (now e refl)) (λ e. decide-cases l (λ a r. f a (later e r)) (λ p. g (e, p)))
    where
      go : (t : Bool) → (t ≡ true → P (refused c.answer)) → (t ≡ false → P (decide l refused done)) → P (cond t (refused c.answer) (decide l refused done))
      go true x y = x refl
      go false x y = y refl

module _ (s : State) (P : Result → Type 0) where
  pub send-cases : (d out : List ℕ) → ((a : ℕ) → Refused a (send_checks s d out) → P (refusal 2 s out a))
      → (Passed (send_checks s d out)
      → let f = encode (message (outgoing s d)) in
      P (record { answer = 0; numbers = s.seq ∷ length f ∷ []; next = sent s (outgoing s d); output = written out f }))
      → P (send s d out)
  unfolding send
  send-cases d out f g = decide-cases P _ _ (send_checks s d out) f g

  pub data-cases : (p : Message) → ((a : ℕ) → Refused a (data_checks s p) → P (refusal 2 (cond (among a (9 ∷ 10 ∷ 12 ∷ [])) (noted s p) s) [] a))
      → (Passed (data_checks s p) → P (record { answer = 0; numbers = 0 ∷ 0 ∷ []; next = accepted s p; output = [] })) → P (arrive_data s p)
  unfolding arrive_data
  data-cases p f g = decide-cases P _ _ (data_checks s p) f g

  pub request-cases : (r : Request) → ((a : ℕ) → Refused a (request_checks s r) → P (refusal 2 s [] a))
      → (Passed (request_checks s r) → P (record { answer = 0; numbers = resent_from s r ∷ (resent_to s r - 1) ∷ []; next = s; output = [] }))
      → P (arrive_request s r)
  unfolding arrive_request
  request-cases r f g = decide-cases P _ _ (request_checks s r) f g

  pub make-cases : (k : ℕ) (out : List ℕ) → ((a : ℕ) → Refused a (make_checks s k out) → P (refusal 1 s out a))
      → (Passed (make_checks s k out)
      → let f = encode (request (asking s k)) in
      P (record { answer = 0; numbers = length f ∷ []; next = s; output = written out f }))
      → P (make_request s k out)
  unfolding make_request
  make-cases k out f g = decide-cases P _ _ (make_checks s k out) f g

  pub copy-cases : (x : ℕ) (out : List ℕ) → ((a : ℕ) → Refused a (copy_checks s x out) → P (refusal 1 s out a))
      → (Passed (copy_checks s x out) → P (record { answer = 0; numbers = length (s.kept x) ∷ []; next = s; output = written out (s.kept x) }))
      → P (copy s x out)
  unfolding copy
  copy-cases x out f g = decide-cases P _ _ (copy_checks s x out) f g

  pub take_cases : (out : List ℕ) → ((a : ℕ) → Refused a (take_checks s out) → P (refusal 3 s out a))
      → (Passed (take_checks s out)
      → let p = oldest s in
      P (record { answer = 0; numbers = p.src ∷ p.seq ∷ length p.text ∷ []; next = without_taken s; output = written out p.text }))
      → P (take s out)
  unfolding take
  take_cases out f g = decide-cases P _ _ (take_checks s out) f g
