-- A unit's numbers with some of them exchanged. i, n, W and CID stay as they were at opening.
use Rattle.std.specs.Prelude.{List, ℕ}
use Rattle.lists.specs.declared.Order.{Order}
use Rattle.state.specs.declared.Core.{Core}

-- all that can change
abbrev pub changed : Core → ℕ → List ℕ → List ℕ → List ℕ → List ℕ → List ℕ → List ℕ → List ℕ → Order → Core
changed c seq req heard buf al kept seqs lens order =
    record {
      me = c.me;
      n = c.n;
      w = c.w;
      cid = c.cid;
      seq = seq;
      req = req;
      heard = heard;
      buf = buf;
      al = al;
      kept = kept;
      seqs = seqs;
      lens = lens;
      order = order;
    }

-- HEARD
abbrev pub with_heard : Core → List ℕ → Core
with_heard c heard = changed c c.seq c.req heard c.buf c.al c.kept c.seqs c.lens c.order

-- the order of the places
abbrev pub with_order : Core → Order → Core
with_order c order = changed c c.seq c.req c.heard c.buf c.al c.kept c.seqs c.lens order

-- AL, and the kept lengths
abbrev pub with_table : Core → List ℕ → List ℕ → Core
with_table c al kept = changed c c.seq c.req c.heard c.buf al kept c.seqs c.lens c.order

-- REQ, HEARD and BUF
abbrev pub with_rows : Core → List ℕ → List ℕ → List ℕ → Core
with_rows c req heard buf = changed c c.seq req heard buf c.al c.kept c.seqs c.lens c.order

-- numbers and lengths of the places, and their order
abbrev pub with_place : Core → List ℕ → List ℕ → Order → Core
with_place c seqs lens order = changed c c.seq c.req c.heard c.buf c.al c.kept seqs lens order

-- SEQ, and the kept lengths
abbrev pub with_seq : Core → ℕ → List ℕ → Core
with_seq c seq kept = changed c seq c.req c.heard c.buf c.al kept c.seqs c.lens c.order
