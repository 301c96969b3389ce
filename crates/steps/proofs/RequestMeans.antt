-- The arrival of a request, as the rules say it.
use mathlib.Core.Bool.{Bool, true, false, not, ◌&&◌, ◌||◌}
use mathlib.Core.List.{List, [], ◌∷◌}
use mathlib.Core.Path.{◌≡◌, refl, ap, ◌∙◌}
use Prim.Native.Nat.{ℕ, ◌-◌}
use lib.Dec.{eqb, leb, ltb}
use lib.ListN.{drop}
use Rattle.rules.specs.Maps.{between, at}
use Rattle.rules.specs.Message.{Request}
use Rattle.rules.specs.State.{State}
use Rattle.rules.specs.Steps.{resent_from}
use Rattle.rules.specs.Sound.{sound}
use Rattle.rules.specs.Calls as rules
use Rattle.rules.specs.Calls.{Check, ◌⇒◌, decide, Result, refusal, is_unit, foreign, arrive_request}
use Rattle.rules.proofs.SoundLaws.{Ranges, sound-facts}
use Rattle.state.specs.declared.Core.{Core}
use Rattle.state.specs.View.{look}
use Rattle.state.proofs.LookLaws.{low-look}
use Rattle.frame.specs.declared.Request as declared
use Rattle.frame.specs.Frame.{request_of}
use Rattle.steps.specs.declared.Arrival.{Arrival}
use Rattle.steps.specs.Arrival.{asked_of, request_arrival}
use Rattle.steps.specs.Checks.{of_group, names_other, asks_wrongly, resend_from, request_checks}
use Rattle.steps.specs.Means.{arrived_at}
use Rattle.steps.proofs.AckLaws.{at-eight}
use Rattle.steps.proofs.ChecksLook.{group-look}
use Rattle.std.specs.Prelude.{Ok, Err}
use Rattle.answers.specs.Answers.{Answered, refusal_of}
use Rattle.answers.proofs.AnswersLaws.{numbered-map}

module _ (c : Core) (acks bytes frames : List ℕ) (r : Request) where
  abbrev s : State
  s = look c acks bytes frames

  abbrev f : declared.Request
  f = request_of r

  -- ---- the checks

  group-checks : not (of_group c f.head && names_other c f) ≡ foreign s r.src r.ack || not (is_unit s r.lsrc) || eqb r.lsrc r.src
  unfolding names_other look
  group-checks =
      regroup (of_group c f.head) (between 1 c.n r.lsrc) (eqb r.lsrc r.src)
      ∙ ap (λ (t : Bool). t || not (between 1 c.n r.lsrc) || eqb r.lsrc r.src) (group-look c acks bytes frames f.head r.ack refl)
    where
      regroup : (g u e : Bool) → not (g && (u && not e)) ≡ not g || not u || e
      regroup true true true = refl
      regroup true true false = refl
      regroup true false e = refl
      regroup false u e = refl

  asks-look : asks_wrongly c f ≡ ltb c.seq (at r.ack c.me) || ltb c.seq r.lseq || leb r.lseq (at r.ack c.me)
  unfolding asks_wrongly
  asks-look = rw (at-eight r.ack c.me)

  module _ (R : Ranges c.me c.n c.w) where
    resend-look : resend_from c f ≡ resent_from s r
    unfolding resend_from resent_from look
    resend-look = rw (at-eight r.ack c.me, low-look c acks bytes frames R.i-low R.i-high)

    request-checks : request_checks c f ≡ drop 1 (rules.request_checks s r)
    unfolding rules.request_checks look
    request-checks i =
        (not (eqb r.cid c.cid) ⇒ 4)
        ∷ (group-checks i ⇒ 5)
        ∷ (eqb r.src c.me ⇒ 6)
        ∷ (not (eqb r.lsrc c.me) ⇒ 17)
        ∷ (asks-look i ⇒ 7)
        ∷ (leb r.lseq (resend-look i) ⇒ 18)
        ∷ []

  -- ---- the whole

  abbrev means : Answered Arrival → Result
  means a = arrived_at c a acks bytes frames []

  pub request-means : sound s ≡ true → means (request_arrival c f) ≡ arrive_request s r
  unfolding request_arrival arrive_request rules.request_checks arrived_at look
  request-means h =
      let R = (sound-facts s h).ranges in
      let refuses : ℕ → Answered Arrival = (λ a. Err (refusal_of a)) in
      ap (λ (l : List Check). means (decide l refuses (Ok (asked_of c f)))) (request-checks R)
      ∙ numbered-map means refuses (Ok (asked_of c f)) (refusal 2 s []) (λ a e. ap (refusal 2 s []) e) _ (drop 1 (rules.request_checks s r))
      (refl, (refl, (refl, (refl, (refl, (refl, tt))))))
      (λ p. ap (λ (x : ℕ). record { answer = 0; numbers = x ∷ (r.lseq - 1) ∷ []; next = s; output = [] }) (resend-look R))
      ∙ rw h
