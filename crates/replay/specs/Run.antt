-- The records of the input, one after the other: the units after them, and the replies.
use Rattle.std.specs.Prelude.{List, ◌++◌, ℕ, zero, suc, ◌+◌, ◌*◌, ◌%◌, get_or, set, take, drop, replicate}
use Rattle.std.specs.Result.{result_unwrap_or}
use Rattle.std.proofs.lemmas.List.Edits.{sets}
use Rattle.answers.specs.Answers.{Answered, answer_of}
use Rattle.state.specs.Opening.{closed_core}
use Rattle.handing.specs.Handing.{Given}
use Rattle.unit.specs.declared.Unit.{Unit}
use Rattle.unit.specs.Exact.{empty_with}
use Rattle.replay.specs.Record.{byte_at, room_of, head_of}
use Rattle.replay.specs.Calls.{Made, made_of}

abbrev pub closed_unit : Unit
closed_unit = empty_with closed_core

-- the output before each call
unfoldable pub blank : List ℕ
blank = replicate 256 165

-- with a refusal, each number is 0
abbrev pub front_of : Answered (ℕ × ℕ × ℕ) → List ℕ
front_of given =
    let n : ℕ × ℕ × ℕ = result_unwrap_or given (0, 0, 0) in
    head_of (answer_of given) n.0 n.1 n.2

abbrev pub reply_of : Made → List ℕ → List ℕ
reply_of m output = front_of m.given ++ output

-- the call that l names, on u: the next unit, and the reply from a place on
unfoldable pub answered_of : Unit → List ℕ → List ℕ → ℕ → Given Unit
answered_of u l out at =
    let g : Given Made = made_of u l (take (room_of l) blank) in
    record { result = g.result.unit; output = sets out at (reply_of g.result (g.output ++ drop (room_of l) blank)) }

-- record i, and the unit that it names
abbrev pub record_at : List ℕ → ℕ → List ℕ
record_at l i = take 208 (drop (208 * i) l)

abbrev pub unit_at : List ℕ → ℕ → ℕ
unit_at l i = byte_at l (208 * i + 1) % 8

-- record i, where these are the units and the output after those before it
abbrev pub one_more : List ℕ → ℕ → Given (List Unit) → Given (List Unit)
one_more l i g =
    let k : ℕ = unit_at l i in
    let a : Given Unit = answered_of (get_or g.result k closed_unit) (record_at l i) g.output (272 * i) in
    record { result = set g.result k a.result; output = a.output }

-- the first records, so many of them
unfoldable pub run_of : List Unit → List ℕ → List ℕ → ℕ → Given (List Unit)
run_of units l out zero = record { result = units; output = out }
run_of units l out (suc i) = one_more l i (run_of units l out i)
