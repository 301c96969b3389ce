-- A request that is written answers as the writer does.
use mathlib.Core.Bool.{Bool, true, false, cond}
use mathlib.Core.List.{List}
use mathlib.Core.Logic.{◌≢◌}
use mathlib.Core.Path.{◌≡◌}
use Prim.Native.Nat.{ℕ, ◌+◌, ◌*◌, ◌<◌}
use native.Mathlib.Omega.{arith}
use lib.ListN.{length, length-take, take}
use lib.Dec.{ltb}
use borrow.Author.Tests.{ne_eqb, lt-leb, not-false}
use Rattle.rules.specs.Maps.{between, at}
use Rattle.rules.specs.Calls.{written}
use Rattle.rules.proofs.CallsLaws.{decide-cases}
use Rattle.rules.proofs.MapsLaws.{is-between}
use Rattle.rules.proofs.MessageLaws.{length-request}
use Rattle.framewrite.specs.Writing.{Writing, request_of, request_written, Wrote}
use Rattle.std.specs.Prelude.{Ok, Err}
use Rattle.answers.specs.declared.Refusal.TheVariants.{OutputTooShort}
use Rattle.answers.specs.Answers.{Answered}
use Rattle.answers.proofs.AnswersLaws.{err_not_ok, same_ok}
use Rattle.rules.specs.Message.{request, encode}
use Rattle.state.specs.declared.Core.{Core}
use Rattle.state.specs.Soundness.{sound_of}
use Rattle.state.proofs.RoomLaws.{sound-ranges}
use Rattle.handing.specs.Handing.{Given, Gives, refusing, done_with, request_for, asking_checks, asking_of}

-- n is in range, so the writer refuses only where the output is too short
pub asking-written : (c : Core) (acks : List ℕ) (k : ℕ) (out : List ℕ) → sound_of c acks ≡ true → between 1 c.n k ≡ true → k ≢ c.me
    → at c.req k < at c.heard k → (x : ℕ) → x ≡ at c.heard k → (r : Answered ℕ) (after : List ℕ)
    → Wrote (request_written c.n (request_of c.cid c.me (take c.n c.req) k x) out) r after
    → Gives (asking_of c acks k out) r after
unfolding asking_of request_written
asking-written c acks k out s u d h x z r after w =
    let e = sound-ranges c acks s in
    let n = is-between 2 8 c.n e.n-low e.n-high in
    rw (s, u, ne_eqb k c.me d, lt-leb (at c.heard k) (at c.req k) h, ← z)
    (go (ltb (length out) (33 + 4 * c.n)) (rw n at w.gives) (rw n at w.leaves))
  where
    l : List ℕ
    l = encode (request (request_of c.cid c.me (take c.n c.req) k x))

    go : (t : Bool)
        → r ≡ (cond {A = Writing} t (record { given = Err OutputTooShort; output = out }) (record { given = Ok (length l); output = written out l })).given
        → after ≡ (cond {A = Writing} t (record { given = Err OutputTooShort; output = out }) (record { given = Ok (length l); output = written out l })).output
        → Gives (cond t (refusing out 16) (done_with (length l) l out)) r after
    go true a b = record { result = a; output = b }
    go false a b = record { result = a; output = b }

-- the length that asking gives: that of a request with n numbers of ACK
pub asking-length : (c : Core) → length c.req ≡ 8 → (acks : List ℕ) (k : ℕ) (out : List ℕ) (m : ℕ)
    → (asking_of c acks k out).result ≡ Ok m → m ≡ 33 + 4 * c.n
unfolding asking_of
asking-length c long acks k out m =
    decide-cases (λ (g : Given (Answered ℕ)). g.result ≡ Ok m → m ≡ 33 + 4 * c.n) (refusing out) (done_with (length l) l out) (asking_checks c acks k out)
    (λ a r e. absurd (err_not_ok e))
    (λ passed e.
    let few = (sound-ranges c acks (not-false _ passed.0)).n-high in
    omega (arith, same_ok e, few, length-request (request_for c k), length-take c.n c.req))
  where
    l : List ℕ
    l = encode (request (request_for c k))
