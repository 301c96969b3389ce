-- The arrival of data, as the rules say it.
use mathlib.Core.Bool.{Bool, true, false, cond, not}
use mathlib.Core.List.{List, [], ◌∷◌}
use mathlib.Core.Path.{◌≡◌, refl, sym, ap, ◌∙◌}
use Prim.Native.Nat.{ℕ, ◌≤◌}
use native.Mathlib.Omega.{arith}
use lib.Dec.{eqb}
use lib.ListN.{drop}
use Rattle.rules.specs.Message.{Message}
use Rattle.rules.specs.State.{State}
use Rattle.rules.specs.Steps.{noted, accepted}
use Rattle.rules.specs.Sound.{sound}
use Rattle.rules.specs.Calls.{Check, decide, Result, refusal, foreign, data_checks, arrive_data}
use Rattle.rules.proofs.CallsLaws.{Passed}
use Rattle.rules.proofs.SoundLaws.{sound-facts}
use Rattle.rules.proofs.LimitsLaws.{Limits}
use Rattle.rules.proofs.KeepsSound.{Storable}
use Rattle.rules.proofs.AcceptedLaws.{passed-accepts}
use Rattle.rules.proofs.CallSound.{arrival-storable}
use Rattle.tables.specs.Rows.{part}
use Rattle.lists.specs.View.{Whole}
use Rattle.state.specs.declared.Core.{Core}
use Rattle.state.specs.View.{look}
use Rattle.state.proofs.SoundLaws.{sound-look}
use Rattle.state.proofs.RoomLaws.{sound-whole}
use Rattle.frame.specs.declared.Data.{Data}
use Rattle.frame.specs.Acks.{eight}
use Rattle.frame.specs.Frame.{data_of}
use Rattle.frame.proofs.Numbers.{length-eight}
use Rattle.store.specs.Fits.{Sized, Fits, Says}
use Rattle.store.proofs.AcceptedLook.{accepted_look, accepted-look}
use Rattle.store.proofs.Supplied.{storable-fits, storable-goes}
use Rattle.steps.specs.declared.Arrival.{Arrival}
use Rattle.steps.specs.Arrival.{refusing, noted_of, notes, noting, accepting_of, storing, unit_arrival, data_arrival}
use Rattle.steps.specs.Means.{arrived_at, arrived_as}
use Rattle.steps.proofs.AckLaws.{part-eight}
use Rattle.steps.proofs.ChecksLook.{OfGroup, group-look, not-foreign}
use Rattle.steps.proofs.DataLook.{unit-checks, noted-look}
use Rattle.answers.specs.Answers.{Answered, number_of, refusal_of}
use Rattle.answers.proofs.AnswersLaws.{numbered-map}
use Rattle.steps.proofs.PlaceLook.{Taking, taking}

module _ (c : Core) (acks bytes frames : List ℕ) (Z : Sized c acks bytes) (p : Message) (limits : Limits p) where
  abbrev s : State
  s = look c acks bytes frames

  abbrev f : Data
  f = data_of p

  -- what an arrival of p means
  abbrev means : Core × Answered Arrival → Result
  means r = arrived_as r acks bytes frames p.text

  -- ---- accepted

  accepted-means : Passed (data_checks s p) → accepted_look c acks bytes frames (accepting_of c f) p.text ≡ accepted s p
  unfolding look
  accepted-means h = accepted-look c acks bytes frames (accepting_of c f) p.text p Z fits (storable-goes c acks bytes frames p Z A (accepting_of c f) p.text says) says
    where
      A : Storable s p
      A = arrival-storable s p (passed-accepts s p h) limits

      fits : Fits c
      fits = storable-fits c acks bytes frames p Z A

      T : Taking c p.src
      T = taking c acks bytes frames A.ranges.w-high fits.whole p.src A.says.src-low A.room

      says : Says c (accepting_of c f) p.text p
      says =
          record {
            src = sym T.sender;
            seq = refl;
            ack = sym (part-eight p.ack) ∙ ap (part (eight p.ack) 0) A.says.count;
            buf = refl;
            bytes = refl;
            count = length-eight p.ack (omega (arith, A.says.count, A.ranges.n-high));
            long = refl;
            slot = T.slot;
          }

  -- ---- from a unit of the group

  -- what the rules give: with answer a, and with t as the next state
  abbrev refused : ℕ → Result
  refused a = refusal 2 (cond (notes a) (noted s p) s) [] a

  abbrev done : State → Result
  done t = record { answer = 0; numbers = 0 ∷ 0 ∷ []; next = t; output = [] }

  unit-means : sound s ≡ true → OfGroup c.n p.src p.ack → (Passed (drop 3 (data_checks s p)) → Passed (data_checks s p))
      → means (unit_arrival c f) ≡ decide (drop 3 (data_checks s p)) refused (done (accepted s p))
  unfolding unit_arrival arrived_at storing look data_checks
  unit-means h G passed =
      ap (λ (l : List Check). means (decide l (noting c f) (storing c f))) (unit-checks c acks bytes frames p most G whole)
      ∙ numbered-map means (noting c f) (storing c f) refused (λ a e. refuses (notes a) a e) (done (accepted s p)) (drop 3 (data_checks s p))
      (refl, (refl, (refl, (refl, (refl, (refl, (refl, tt)))))))
      (λ x. ap done (accepted-means (passed x)))
    where
      most : c.n ≤ 8
      most = (sound-facts s h).ranges.n-high

      whole : Whole c.n c.order
      whole = sound-whole c acks Z.list (sound-look c acks bytes frames ∙ h)

      refuses : (t : Bool) (a : ℕ) → number_of (refusal_of a) ≡ a → means (refusing (cond t (noted_of c f) c) a) ≡ refusal 2 (cond t (noted s p) s) [] a
      refuses false a e = ap (refusal 2 s []) e
      refuses true a e = ap (refusal 2 (look (noted_of c f) acks bytes frames) []) e ∙ ap (λ (t : State). refusal 2 t [] a) (noted-look c acks bytes frames p most G limits.seq-high)

  -- ---- the whole

  pub data-means : sound s ≡ true → means (data_arrival c f) ≡ arrive_data s p
  unfolding data_arrival arrive_data data_checks look arrived_at
  data-means h =
      ap (λ (t : Bool). means (cond other (refusing c 4) (cond t (refusing c 5) (unit_arrival c f)))) (group-look c acks bytes frames f.head p.ack refl)
      ∙ go other (foreign s p.src p.ack) refl refl
    where
      other : Bool
      other = not (eqb p.cid c.cid)

      go : (t u : Bool) → other ≡ t → foreign s p.src p.ack ≡ u
          → means (cond t (refusing c 4) (cond u (refusing c 5) (unit_arrival c f)))
          ≡ cond (not (sound s)) (refused 1) (cond t (refused 4) (cond u (refused 5) (decide (drop 3 (data_checks s p)) refused (done (accepted s p)))))
      go true u a b = rw h
      go false true a b = rw h
      go false false a b = rw h (unit-means h (not-foreign c acks bytes frames p.src p.ack b) (λ x. (rw h, (a, (b, x)))))
