-- What a command does with the group as the code holds it is what it does on the script's desk.
use mathlib.Core.Bool.{Bool, true, false}
use mathlib.Core.List.{List, append-nil}
use mathlib.Core.Path.{◌≡◌, refl, sym, ap, ◌∙◌}
use Prim.Native.Nat.{ℕ, ◌+◌, ◌-◌, ◌<◌, ◌≤◌, min}
use native.Mathlib.Omega.{arith}
use lib.Dec.{eqb}
use lib.ListN.{length}
use borrow.Author.Tests.{ne_eqb}
use Rattle.rules.specs.Maps.{between, at}
use Rattle.rules.specs.State.{State}
use Rattle.rules.specs.Calls.{send, arrive, make_request}
use Rattle.rules.specs.Calls as rules
use Rattle.rules.proofs.MapsLaws.{Lt?, lt, ge, lt?, is-between}
use Rattle.std.specs.Prelude.{Option, Ok, Err}
use Rattle.answers.specs.declared.Refusal.{Refusal}
use Rattle.answers.specs.Answers.{Answered, number_of, refusal_of}
use Rattle.answers.proofs.AnswersLaws.{refusal-number}
use Rattle.steps.specs.declared.Resend.{Resend}
use Rattle.handing.specs.Handing.{Given}
use Rattle.unit.specs.declared.Unit.{Unit}
use Rattle.unit.specs.declared.Sent.{Sent}
use Rattle.handing.specs.declared.Taken.{Taken}
use Rattle.unit.specs.View.{view, meant, of_sent, of_arrived, of_handed, of_taken}
use Rattle.unit.specs.CallContracts.{Sends, Arrives, Asks, Takes}
use Rattle.script.specs.Items.{Command, sends, arrives, requests, takes}
use Rattle.script.specs.Desk.{wrote, taking, lent, act}
use Rattle.script.proofs.HeldLaws.{asks-past}
use Rattle.bench.specs.declared.desk.Desk.{Desk}
use Rattle.bench.specs.Desk.{unit_at, units_of, frame_in, desk_of, Fits, with_unit}
use Rattle.bench.specs.declared.reply.Reply.{Reply}
use Rattle.bench.specs.declared.reply.Reply.TheVariants.{Answers, Took}
use Rattle.bench.specs.Commands.{Acted, reply_of, as_script, sent_len, taken_as, after_send, after_arrival, after_request, after_take, acted_of, Named, Acts}
use Rattle.bench.proofs.LengthLaws.{sent-len, asked-len}
use Rattle.bench.proofs.DeskLaws.{length_of, frames_of, with-fits, unit-is, unit-set, unit_kept, length-frames, frame_at, kept-shows, kept-fits, kept_more}

-- a number past 255 names no unit, as 255 does
pub asks-held : (s : State) (k : ℕ) (out : List ℕ) → make_request s (min k 255) out ≡ make_request s k out
asks-held s k out = go (lt? 255 k)
  where
    go : {t : Bool} → Lt? 255 k t → make_request s (min k 255) out ≡ make_request s k out
    go (lt h) = let e : min k 255 ≡ 255 = omega arith in ap (λ (j : ℕ). make_request s j out) e ∙ asks-past s out 255 k (omega arith) (omega arith)
    go (ge h) = let e : min k 255 ≡ k = omega arith in ap (λ (j : ℕ). make_request s j out) e

-- the command c did a
pub record Did (d : Desk) (c : Command) (a : Acted) : Type 0 where
  pub is : acted_of d c ≡ a
  pub means : as_script a ≡ act (desk_of d) c
  pub fits : Fits a.desk
  pub more : a.desk.count ≤ d.count + 1

pub did-acts : {d : Desk} {c : Command} {a : Acted} {e : Desk} {r : Reply} → Did d c a → e ≡ a.desk → r ≡ a.reply → Acts d c e r
did-acts x e q =
    record {
      next = e ∙ ap (λ (b : Acted). b.desk) (sym x.is);
      reply = q ∙ ap (λ (b : Acted). b.reply) (sym x.is);
      means = rw x.is x.means;
      fits = rw e x.fits;
      more = rw e x.more;
    }

-- no refusal has the number 0: that of 0 is that of 1
not-done : (r : Refusal) → eqb (number_of r) 0 ≡ false
not-done r =
    ne_eqb (number_of r) 0
    (λ h.
    let one : number_of r ≡ 1 = ap number_of (sym (refusal-number r)) ∙ ap (λ (k : ℕ). number_of (refusal_of k)) h in
    omega (arith, one, h))

-- the reply to a take is the script's
reply-taken : (next : Unit) (t : Answered Taken) (out : List ℕ) → reply_of (taken_as t out) ≡ taking (meant (of_taken (next, t) out))
unfolding reply_of
reply-taken next (Ok t) out = refl
reply-taken next (Err r) out = rw (not-done r)

-- the frames that a call wrote are the script's
wrote-sent : (next : Unit) (r : Answered Sent) (out : List ℕ)
    → frames_of (sent_len r) out ≡ wrote (meant (of_sent (next, r) out)) (at (meant (of_sent (next, r) out)).numbers 2)
wrote-sent next (Ok s) out = refl
wrote-sent next (Err r) out = rw (not-done r)

wrote-asked : (u : Unit) (r : Answered ℕ) (out : List ℕ) → frames_of r out ≡ wrote (meant (of_handed u r out)) (at (meant (of_handed u r out)).numbers 1)
wrote-asked u (Ok m) out = refl
wrote-asked u (Err r) out = rw (not-done r)

module _ (d : Desk) (u : ℕ) (N : Named d u) (long : length d.units ≡ 3) where
  abbrev x : Unit
  x = unit_at d u

  few : u ≤ 3
  few = omega (arith, N.high, N.fits.units)

  exists : between 1 d.n u ≡ true
  exists = is-between 1 d.n u N.low N.high

  there : units_of d.units u ≡ view x
  there = unit-is d.units u N.low few

  arrived-acts : (f : ℕ) → 1 ≤ f → f ≤ d.count → (r : Unit × Answered (Option Resend)) → meant (of_arrived r) ≡ arrive (view x) (frame_in d.frames (f - 1))
      → as_script (after_arrival d u r) ≡ act (desk_of d) (arrives u f)
  unfolding reply_of
  arrived-acts f low high r m =
      rw (
        exists,
        length-frames d.frames d.count,
        is-between 1 d.count f low high,
        frame_at d.frames d.count (f - 1) (omega arith),
        there,
        ← m,
        unit-set d.units u N.low few long r.0,
        append-nil,
      )

  taken-acts : (g : Given (Unit × Answered Taken)) → meant (of_taken g.result g.output) ≡ rules.take (view x) (lent 48)
      → as_script (after_take d u g) ≡ act (desk_of d) (takes u)
  taken-acts g m =
      let r : Unit × Answered Taken = g.result in
      rw (reply-taken r.0 r.1 g.output, exists, there, ← m, unit-set d.units u N.low few long r.0, append-nil)

  module _ (room : d.count < 64) (frames-long : length d.frames ≡ 64) where
    sent-acts : (word : List ℕ) (g : Given (Unit × Answered Sent)) → length_of (sent_len g.result.1) ≤ 117
        → meant (of_sent g.result g.output) ≡ send (view x) word (lent 117)
        → as_script (after_send d u g) ≡ act (desk_of d) (sends u word)
    unfolding reply_of
    sent-acts word g short m =
        let r : Unit × Answered Sent = g.result in
        let y : Desk = with_unit d u r.0 in
        rw (
          exists,
          there,
          ← m,
          kept-shows y (with-fits d u r.0 N.fits) room frames-long g.output (sent_len r.1) short,
          unit-set d.units u N.low few long r.0,
          wrote-sent r.0 r.1 g.output,
        )

    asked-acts : (k : ℕ) (g : Given (Answered ℕ)) → length_of g.result ≤ 117
        → meant (of_handed x g.result g.output) ≡ make_request (view x) (min k 255) (lent 117)
        → as_script (after_request d g) ≡ act (desk_of d) (requests u k)
    unfolding reply_of
    asked-acts k g short m =
        rw (
          exists,
          there,
          ← asks-held (view x) k (lent 117),
          ← m,
          kept-shows d N.fits room frames-long g.output g.result short,
          unit_kept d.units u N.low few long,
          wrote-asked x g.result g.output,
        )

    pub sent-did : (word : List ℕ) (r : Unit × Answered Sent) (frame : List ℕ) → length frame ≡ 117 → Sends x word (lent 117) r frame
        → Did d (sends u word) (after_send d u (record { result = r; output = frame }))
    unfolding acted_of
    sent-did word r frame l-long S =
        record {
          is = rw (exists, S.exact, S.bytes);
          means = sent-acts word (record { result = r; output = frame }) short S.means;
          fits = kept-fits y (with-fits d u r.0 N.fits) room frames-long frame (sent_len r.1) short;
          more = kept_more y (with-fits d u r.0 N.fits) room frames-long frame (sent_len r.1);
        }
      where
        y : Desk
        y = with_unit d u r.0

        short : length_of (sent_len r.1) ≤ 117
        short = rw S.exact (sent-len (lent 117) x word (sym (ap length S.bytes) ∙ l-long))

    pub asked-did : (k : ℕ) (r : Answered ℕ) (frame : List ℕ) → Asks x (min k 255) (lent 117) r frame
        → Did d (requests u k) (after_request d (record { result = r; output = frame }))
    unfolding acted_of
    asked-did k r frame A =
        record {
          is = rw (exists, A.exact, A.bytes);
          means = asked-acts k (record { result = r; output = frame }) short A.means;
          fits = kept-fits d N.fits room frames-long frame r short;
          more = kept_more d N.fits room frames-long frame r;
        }
      where
        short : length_of r ≤ 117
        short = rw A.exact (asked-len (lent 117) x.core x.acks (min k 255))

  pub arrived-did : (f : ℕ) → 1 ≤ f → f ≤ d.count → (r : Unit × Answered (Option Resend)) → Arrives x (frame_in d.frames (f - 1)) r
      → Did d (arrives u f) (after_arrival d u r)
  unfolding acted_of
  arrived-did f low high r A =
      record {
        is = rw (exists, is-between 1 d.count f low high, A.exact);
        means = arrived-acts f low high r A.means;
        fits = with-fits d u r.0 N.fits;
        more = omega arith;
      }

  taken-did : (r : Unit × Answered Taken) (word : List ℕ) → Takes x (lent 48) r word
      → Did d (takes u) (after_take d u (record { result = r; output = word }))
  unfolding acted_of
  taken-did r word T =
      record {
        is = rw (exists, T.exact, T.bytes);
        means = taken-acts (record { result = r; output = word }) T.means;
        fits = with-fits d u r.0 N.fits;
        more = omega arith;
      }

  pub refused_did : (r : Unit × Answered Taken) (word : List ℕ) → Takes x (lent 48) r word → (e : Refusal) → r.1 ≡ Err e
      → Did d (takes u) (record { desk = with_unit d u r.0; reply = Answers (number_of e) })
  refused_did r word T e h = rw h at (taken-did r word T)

  pub took-did : (r : Unit × Answered Taken) (word : List ℕ) → Takes x (lent 48) r word → (t : Taken) → r.1 ≡ Ok t
      → Did d (takes u) (record { desk = with_unit d u r.0; reply = Took t.src t.seq word t.len })
  took-did r word T t h = rw h at (taken-did r word T)
