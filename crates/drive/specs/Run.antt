-- A run of a lossless group, by the exact results of each call on a unit, and the sum over what was taken.
use Rattle.std.specs.Prelude.{Bool, true, false, List, [], ◌∷◌, ℕ, zero, suc, ◌+◌, ◌*◌, ◌/◌, ◌%◌, eqb, get_or, set, take, replicate, Ok, Err}
use Rattle.answers.specs.Answers.{Answered}
use Rattle.handing.specs.Handing.{Given}
use Rattle.unit.specs.declared.Unit.{Unit}
use Rattle.handing.specs.declared.Taken.{Taken}
use Rattle.unit.specs.Exact.{opened_of, sent_of, arrived_of, taken_of}

-- ---- sums, modulo 2^32

abbrev pub mixed : ℕ → ℕ → ℕ
mixed s x = (3 * s + x % 4294967296) % 4294967296

abbrev pub with_bytes : ℕ → List ℕ → ℕ
with_bytes s [] = s
with_bytes s (x ∷ l) = with_bytes (mixed s x) l

abbrev pub with_message : ℕ → ℕ → ℕ → ℕ → List ℕ → ℕ
with_message s src seq len out = with_bytes (mixed (mixed (mixed s src) seq) len) out

-- ---- taking

-- the sum so far, and the unit then
pub record Summed : Type 0 where
  pub sum : ℕ
  pub unit : Unit

abbrev pub summed : ℕ → Unit → Summed
summed s u = record { sum = s; unit = u }

-- u has taken t, its data in out: the message goes into the sum, and so do those after it, at most so many
unfoldable pub all_taken : ℕ → Unit → Answered Taken → List ℕ → ℕ → Summed
all_taken zero u t out s = record { sum = s; unit = u }
all_taken (suc m) u (Err r) out s = record { sum = s; unit = u }
all_taken (suc m) u (Ok t) out s =
    let g : Given (Unit × Answered Taken) = taken_of u out in
    all_taken m g.result.0 g.result.1 g.output (with_message s t.src t.seq t.len out)

-- the take g, and all those after it
abbrev pub all_after : ℕ → ℕ → Given (Unit × Answered Taken) → Summed
all_after m s g = all_taken m g.result.0 g.result.1 g.output s

-- everything that u may show
abbrev pub shown : Unit → ℕ → Summed
shown u s = all_after 128 s (taken_of u (replicate 16 0))

-- ---- a visit

-- u sends the data, or the first len bytes of the frame arrive at u; the frame is the output
unfoldable pub visit_of : Unit → Bool → List ℕ → List ℕ → ℕ → ℕ → Given Summed
visit_of u true text frame len s =
    record { result = shown (sent_of u text frame).result.0 s; output = (sent_of u text frame).output }
visit_of u false text frame len s =
    record { result = shown (arrived_of u (take len frame)).0 s; output = frame }

-- ---- a run

-- unit k of the group
abbrev pub unit_of : ℕ → ℕ → ℕ → Unit
unit_of n w k = (opened_of (record { me = k; n = n; w = w; cid = 1; first = replicate 8 1 })).0

-- eight units, the first k of them opened in turn
abbrev pub opened_units : ℕ → ℕ → ℕ → List Unit
opened_units n w zero = replicate 8 (unit_of n w 0)
opened_units n w (suc k) = set (opened_units n w k) k (unit_of n w (k + 1))

pub record Group : Type 0 where
  pub units : List Unit
  pub text : List ℕ
  pub frame : List ℕ
  pub sum : ℕ

-- where in the group visit i is: message i / n starts at its sender
abbrev pub unit_at : ℕ → ℕ → ℕ
unit_at n i = (i / n + i % n) % n

-- visit i of a group of n
abbrev pub visited_at : ℕ → ℕ → ℕ → Group → Group
visited_at n w i g =
    let m : ℕ = i / n in
    let k : ℕ = unit_at n i in
    let text : List ℕ = set g.text (m % 16) (m % 256) in
    let v : Given Summed = visit_of (get_or g.units k (unit_of n w 0)) (eqb (i % n) 0) text g.frame (53 + 4 * n) g.sum in
    record { units = set g.units k v.result.unit; text = text; frame = v.output; sum = v.result.sum }

-- the group after so many visits
unfoldable pub run_of : ℕ → ℕ → ℕ → Group
run_of n w zero = record { units = opened_units n w 8; text = replicate 16 0; frame = replicate 117 0; sum = 0 }
run_of n w (suc i) = visited_at n w i (run_of n w i)
