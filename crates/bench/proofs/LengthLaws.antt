-- What a call writes fits into the output that it was lent.
use mathlib.Core.List.{List}
use mathlib.Core.Path.{◌≡◌, ap}
use Prim.Native.Nat.{ℕ, ◌≤◌}
use native.Mathlib.Omega.{arith}
use lib.ListN.{length, drop, length-append, length-take}
use borrow.Author.Tests.{ltb-false}
use Rattle.std.specs.Prelude.{Ok, Err}
use Rattle.rules.specs.Message.{request, encode}
use Rattle.rules.specs.Calls.{Check}
use Rattle.rules.proofs.CallsLaws.{Passed, decide-cases}
use Rattle.rules.proofs.MessageLaws.{length-request}
use Rattle.answers.specs.Answers.{Answered}
use Rattle.answers.proofs.AnswersLaws.{err_not_ok, same_ok}
use Rattle.state.specs.declared.Core.{Core}
use Rattle.steps.specs.declared.Sending.{Sending}
use Rattle.steps.specs.Sending.{sending_of}
use Rattle.steps.specs.Means.{own_frame}
use Rattle.handing.specs.declared.Taken.{Taken}
use Rattle.handing.specs.Handing.{Given, refusing, done_with, giving, asking_of, asking_checks, request_for, taking_of, taking_checks, not_taken, taken_with}
use Rattle.unit.specs.declared.Unit.{Unit}
use Rattle.unit.specs.Exact.{sent_by, sent_of, taken_of}
use Rattle.bench.specs.Commands.{sent_len}
use Rattle.bench.proofs.DeskLaws.{length_of}

-- the output stays as long as it was
module _ (out : List ℕ) where
  pub sent-len : (u : Unit) (d : List ℕ) → length (sent_of u d out).output ≡ length out
      → length_of (sent_len (sent_of u d out).result.1) ≤ length out
  unfolding sent_of sent_by
  sent-len u d = go (sending_of u.core u.acks (length d) (length out))
    where
      go : (s : Answered Sending) → length (sent_by u d out s).output ≡ length out → length_of (sent_len (sent_by u d out s).result.1) ≤ length out
      go (Ok s) e =
          let f = own_frame u.core s.buf d in
          omega (arith, e, length-append f (drop (length f) out))
      go (Err r) e = omega arith

  -- a refusal hands back no length, and else the lent output was long enough
  given-len : (checks : List Check) (m : ℕ) (l : List ℕ) → (Passed checks → m ≤ length out) → length_of (giving checks m l out).result ≤ length out
  given-len checks m l =
      decide-cases (λ (g : Given (Answered ℕ)). length_of g.result ≤ length out) (refusing out) (done_with m l out) checks (λ a r. omega arith)

  pub asked-len : (c : Core) (acks : List ℕ) (k : ℕ) → length_of (asking_of c acks k out).result ≤ length out
  unfolding asking_of
  asked-len c acks k =
      given-len (asking_checks c acks k out) (length (encode (request (request_for c k)))) (encode (request (request_for c k)))
      (λ passed. omega (arith, ltb-false _ _ passed.1.1.1.0, length-request (request_for c k), length-take c.n c.req))

-- a message that is taken fits into the output
pub taken-len : (u : Unit) (out : List ℕ) (t : Taken) → (taken_of u out).result.1 ≡ Ok t → t.len ≤ length out
unfolding taken_of taking_of
taken-len u out t =
    let c : Core = u.core in
    decide-cases (λ (g : Given (Core × Answered Taken)). g.result.1 ≡ Ok t → t.len ≤ length out)
    (not_taken c out) (taken_with c u.bytes out) (taking_checks c u.acks out)
    (λ a r e. absurd (err_not_ok e))
    (λ passed e. omega (arith, ap (λ (x : Taken). x.len) (same_ok e), ltb-false _ _ passed.1.1.0))
