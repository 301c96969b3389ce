-- What opening gives: the numbers of a fresh unit, or those of the closed one.
use Rattle.std.specs.Prelude.{List, ℕ, zero, suc, ◌*◌, replicate, ⊤, Ok, Err}
use Rattle.rules.specs.Maps.{at}
use Rattle.rules.specs.Calls.{decide, open_checks}
use Rattle.answers.specs.Answers.{Answered, refusal_of}
use Rattle.tables.specs.Rows.{with_column, raised}
use Rattle.state.specs.declared.Core.{Core}
use Rattle.state.specs.declared.Opening.{Opening}

-- the first n of eight numbers, and 0 past them
abbrev pub up_to : ℕ → List ℕ → List ℕ
up_to n l = raised n (replicate 8 0) l

-- a table with the same numbers in each of the columns 1 to n, and 0 past them
abbrev pub rows_of : ℕ → List ℕ → List ℕ
rows_of zero v = replicate 64 0
rows_of (suc j) v = with_column (rows_of j v) (suc j) v

-- the first numbers of the units, of unit k in each row k, 4Wn free places, and nothing taken or kept
unfoldable pub core_of : Opening → Core
core_of o =
    record {
      me = o.me;
      n = o.n;
      w = o.w;
      cid = o.cid;
      seq = at o.first o.me;
      req = up_to o.n o.first;
      heard = up_to o.n o.first;
      buf = up_to o.n (replicate 8 (4 * o.w * o.n));
      al = rows_of o.n (up_to o.n o.first);
      kept = replicate 4 0;
      seqs = replicate 128 0;
      lens = replicate 128 0;
      order = record {
        pal = rows_of o.n (up_to o.n o.first);
        list = replicate 128 0;
        confirmed = 0;
        ordered = 0;
        waiting = 0;
      };
    }

-- the closed unit: all numbers 0
abbrev pub closed_core : Core
closed_core =
    record {
      me = 0;
      n = 0;
      w = 0;
      cid = 0;
      seq = 0;
      req = replicate 8 0;
      heard = replicate 8 0;
      buf = replicate 8 0;
      al = replicate 64 0;
      kept = replicate 4 0;
      seqs = replicate 128 0;
      lens = replicate 128 0;
      order = record { pal = replicate 64 0; list = replicate 128 0; confirmed = 0; ordered = 0; waiting = 0 };
    }

-- the unit's numbers, and whether it opens
unfoldable pub opened_of : Opening → Core × Answered ⊤
opened_of o =
    decide (open_checks o.me o.n o.w o.cid (at o.first)) (λ a. (closed_core, Err (refusal_of a))) (core_of o, Ok tt)
