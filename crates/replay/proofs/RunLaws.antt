-- A reply in the output, and one record more.
use mathlib.Core.List.{List, ◌++◌}
use mathlib.Core.Path.{◌≡◌, refl, ap, ◌∙◌}
use Prim.Native.Nat.{ℕ, suc, ◌+◌, ◌*◌, ◌<◌}
use native.Mathlib.Omega.{arith}
use lib.ListN.{length, get_or, set, take, drop, length-append, length-take, length-drop}
use lib.Seq.{sets, drop-cons}
use Rattle.std.specs.Result.{result_unwrap_or}
use Rattle.rules.proofs.StoresLaws.{sets-++}
use Rattle.answers.specs.Answers.{Answered, answer_of}
use Rattle.handing.specs.Handing.{Given, Gives}
use Rattle.unit.specs.declared.Unit.{Unit}
use Rattle.replay.specs.Record.{room_of, head_of}
use Rattle.replay.specs.Calls.{Made, made_of}
use Rattle.replay.specs.Run.{closed_unit, blank, front_of, answered_of, record_at, unit_at, one_more, run_of}

-- ---- a reply

-- the first r bytes are lent, and come back as o: the output is as long as before
pub lent-long : (b o : List ℕ) (r : ℕ) → b ≡ blank → length o ≡ length (take r b) → length (o ++ drop r b) ≡ 256
unfolding blank
lent-long b o r e h = omega (arith, ap length e, length-append o (drop r b), length-take r b, length-drop r b)

-- the number of an answer and the numbers of what is done make its front
pub front-given : (given : Answered (ℕ × ℕ × ℕ)) (answer : ℕ) (n : ℕ × ℕ × ℕ) (head : List ℕ) → answer ≡ answer_of given
    → n ≡ result_unwrap_or given (0, 0, 0) → head ≡ head_of answer n.0 n.1 n.2 → head ≡ front_of given
front-given given answer n head a e h = rw (← a, ← e) h

pub answered-gives : (u : Unit) (l out : List ℕ) (at r : ℕ) (b : List ℕ) (m : Made) (o head mid after : List ℕ)
    → r ≡ room_of l → b ≡ blank → Gives (made_of u l (take r b)) m o → head ≡ front_of m.given
    → mid ≡ sets out at head → after ≡ sets mid (at + 16) (o ++ drop r b) → Gives (answered_of u l out at) m.unit after
unfolding answered_of
answered-gives u l out at r b m o head mid after room lent g front stored more =
    let made : Gives (made_of u l (take (room_of l) blank)) m o = rw (room, lent) at g in
    record {
      result = ap (λ (x : Made). x.unit) made.result;
      output = rw (more, stored, front, room, lent, ← made.result, ← made.output) (sets-++ out at (front_of m.given) (o ++ drop (room_of l) blank));
    }

-- ---- a run

-- within a list it does not matter what is read past its end
read-within : (l : List Unit) (k : ℕ) (d e : Unit) → k < length l → get_or l k d ≡ get_or l k e
read-within l k d e h = cc (drop-cons l k d h, drop-cons l k e h)

module _ (before : List Unit) (l out : List ℕ) where
  abbrev pub After : ℕ → List Unit → List ℕ → Type 0
  After i units o = ◌≡◌ {A = Given (List Unit)} (record { result = units; output = o }) (run_of before l out i)

  pub none-run : After 0 before out
  unfolding run_of
  none-run = refl

  pub one-run : (i : ℕ) (units : List Unit) (o : List ℕ) → After i units o → (k : ℕ) → k ≡ unit_at l i → k < length units
      → (d v : Unit) (after : List ℕ) → Gives (answered_of (get_or units k d) (record_at l i) o (272 * i)) v after
      → After (i + 1) (set units k v) after
  unfolding run_of
  one-run i units o e k at h d v after g =
      let next : suc i ≡ i + 1 = omega arith in
      rw (g.result, g.output, read-within units k d closed_unit h, at) (ap (one_more l i) e ∙ ap (run_of before l out) next)

  pub all-run : (i n : ℕ) (units : List Unit) (o : List ℕ) → After i units o → i ≡ n → Gives (run_of before l out n) units o
  all-run i n units o e h =
      let whole = e ∙ ap (run_of before l out) h in
      record { result = ap (λ (g : Given (List Unit)). g.result) whole; output = ap (λ (g : Given (List Unit)). g.output) whole }
