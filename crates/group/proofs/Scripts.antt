-- Runs written down line by line: frames are counted from 1 as they are written, and 117 bytes are lent for output.
use mathlib.Core.Bool.{Bool, true, ◌&&◌}
use mathlib.Core.List.{List, [], ◌∷◌}
use mathlib.Core.Path.{◌≡◌}
use Prim.Native.Nat.{ℕ, ◌-◌}
use native.Mathlib.Omega.{arith}
use lib.Dec.{eqb, ltb}
use lib.ListN.{length, get_or, replicate}
use borrow.Author.Tests.{ltb-true, eqb-true}
use Rattle.rules.specs.Maps.{between, all, every, upd, column, units}
use Rattle.rules.specs.Fields.{table, row_of, tags_of, field_fits}
use Rattle.rules.specs.Message.{encode, decode, in_limits, read_as}
use Rattle.rules.specs.Lawful.{nil, cons, Bytes}
use Rattle.rules.specs.State.{State, min_al, min_pal, from, free, opened}
use Rattle.rules.specs.Steps.{window, may_send, outgoing, known, free_slot, placed, stored, noted, asking, is_kept, resent_from, precedes, preacked, preack_of, moved, confirm, accepted, sent, without_taken}
use Rattle.rules.specs.Sound.{ranges_fit, nexts_fit, window_fits, place_fits, kept_fit, sound}
use Rattle.rules.specs.Calls as Calls
use Rattle.rules.specs.Calls.{Result, Call, full, foreign, open_checks, opening, send_checks, send, data_checks, arrive_data, request_checks, arrive_request, arrive, make_checks, make_request, copy_checks, copy, oldest, take_checks, take}
use Rattle.rules.proofs.MapsLaws.{and_both, between-low, between-high, every-at}
use Rattle.group.specs.Runs.{Group, updated, Proper, fresh, after, Run, opens, then}
use Rattle.group.proofs.All.{mem-get_or}

infix 70 ◌says◌ ◌hears◌ ◌asks◌ ◌copies◌
-- unit i sends these data, hears frame f, asks for what it misses of k, copies out its kept frame of number x, takes
pub data Line : Type 0 where
  ◌says◌ : (i : ℕ) (d : List ℕ) → Line
  ◌hears◌ : (i f : ℕ) → Line
  ◌asks◌ : (i k : ℕ) → Line
  ◌copies◌ : (i x : ℕ) → Line
  takes : (i : ℕ) → Line

abbrev who : Line → ℕ
who (i says d) = i
who (i hears f) = i
who (i asks k) = i
who (i copies x) = i
who (takes i) = i

abbrev lent : List ℕ
lent = replicate 117 0

abbrev call_of : Group → Line → Call
call_of g (i says d) = Calls.sends d lent
call_of g (i hears f) = Calls.hears (get_or g.air (f - 1) [])
call_of g (i asks k) = Calls.asks k lent
call_of g (i copies x) = Calls.copies x lent
call_of g (takes i) = Calls.takes lent

-- data are bytes, and the frame exists
abbrev possible : Group → Line → Bool
possible g (i says d) = all (λ b. ltb b 256) d
possible g (i hears f) = ltb (f - 1) (length g.air)
possible g (i asks k) = true
possible g (i copies x) = true
possible g (takes i) = true

all-bytes : (d : List ℕ) → all (λ b. ltb b 256) d ≡ true → Bytes d
all-bytes [] h = nil
all-bytes (b ∷ d) h = let r = and_both _ _ h in cons (ltb-true b 256 r.0) (all-bytes d r.1)

proper : (g : Group) (l : Line) → possible g l ≡ true → Proper g (call_of g l)
proper g (i says d) h = all-bytes d h
proper g (i hears f) h = mem-get_or g.air (f - 1) [] (ltb-true _ _ h)
proper g (i asks k) h = tt
proper g (i copies x) h = tt
proper g (takes i) h = tt

module _ (act : State → Call → Result) where
  abbrev pub played : Group → Line → Group
  played g l = after act g (who l) (call_of g l)

  unfoldable pub play : Group → List Line → Group
  play g [] = g
  play g (l ∷ ls) = play (played g l) ls

  -- the answers, one for each line
  unfoldable pub answers : Group → List Line → List ℕ
  answers g [] = []
  answers g (l ∷ ls) = (act (g.unit (who l)) (call_of g l)).answer ∷ answers (played g l) ls

  -- each line is an event of a group of n
  unfoldable pub fits : ℕ → Group → List Line → Bool
  fits n g [] = true
  fits n g (l ∷ ls) = between 1 n (who l) && possible g l && fits n (played g l) ls

  play-run : (n w cid : ℕ) (first : ℕ → ℕ) (g : Group) (ls : List Line) → Run act n w cid first g → fits n g ls ≡ true → Run act n w cid first (play g ls)
  unfolding play fits
  play-run n w cid first g [] r h = r
  play-run n w cid first g (l ∷ ls) r h =
      let rest = and_both (between 1 n (who l) && possible g l) _ h in
      let both = and_both (between 1 n (who l)) (possible g l) rest.0 in
      play-run n w cid first (played g l) ls
      (then r (who l) (between-low 1 n (who l) both.0, between-high 1 n (who l) both.0) (call_of g l) (proper g l both.1)) rest.1

  -- a script that fits is a run
  pub script-run : (n w cid : ℕ) (first : ℕ → ℕ) (ls : List Line) → every 1 n (λ i. eqb (opening i n w cid first).answer 0) ≡ true
      → fits n (fresh n w cid first) ls ≡ true → Run act n w cid first (play (fresh n w cid first) ls)
  script-run n w cid first ls a b =
      play-run n w cid first (fresh n w cid first) ls (opens (λ i inn. eqb-true _ 0 (every-at 1 n _ a i inn.0 (omega arith)))) b

-- where a proof unfolds this, whole runs compute
unfoldable pub computing : Unit {0}
unfolding play answers fits updated fresh after
    between upd column units table row_of tags_of field_fits encode decode in_limits read_as min_al min_pal from free opened
    window may_send outgoing known free_slot placed stored noted asking is_kept resent_from precedes preacked preack_of moved confirm accepted sent without_taken
    ranges_fit nexts_fit window_fits place_fits kept_fit sound
    full foreign open_checks opening send_checks send data_checks arrive_data request_checks arrive_request arrive make_checks make_request copy_checks copy oldest take_checks take
computing = tt
