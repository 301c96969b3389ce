-- The state of the rules that a unit's numbers and arrays show: acks has eight numbers for each place, bytes 48 bytes
-- of data for each place, frames 117 bytes for each kept frame.
use Rattle.std.specs.Prelude.{cond, List, [], map, ℕ, ◌-◌, ◌*◌, leb, ltb, get_or}
use Rattle.rules.specs.Maps.{at, least, units}
use Rattle.rules.specs.State.{Place, State}
use Rattle.tables.specs.Rows.{part, grid}
use Rattle.lists.specs.Order.{sender_of, slot_of, total, confirmeds, ordereds, waitings}
use Rattle.state.specs.declared.Core.{Core}

-- place number p, with the message in it
unfoldable pub place_at : Core → List ℕ → List ℕ → ℕ → Place
place_at c acks bytes p =
    record {
      slot = slot_of p;
      src = sender_of p;
      seq = get_or c.seqs p 0;
      ack = part acks (8 * p) c.n;
      text = part bytes (48 * p) (get_or c.lens p 0);
    }

-- minAL of the own index
abbrev pub lowest : Core → ℕ
lowest c = least c.n (grid c.n c.al c.me)

-- 4Wn less the taken places
unfoldable pub free_places : Core → ℕ
free_places c = 4 * c.w * c.n - total c.order

-- the frame in slot i
abbrev pub kept_at : Core → List ℕ → ℕ → List ℕ
kept_at c frames i = part frames (117 * i) (get_or c.kept i 0)

-- the frame of number x, where x is kept
unfoldable pub kept_of : Core → List ℕ → ℕ → List ℕ
kept_of c frames x = cond (leb (lowest c) x) (cond (ltb x c.seq) (kept_at c frames (x - lowest c)) []) []

unfoldable pub look : Core → List ℕ → List ℕ → List ℕ → State
look c acks bytes frames =
    record {
      me = c.me;
      n = c.n;
      w = c.w;
      cid = c.cid;
      seq = c.seq;
      req = units c.n (at c.req);
      al = grid c.n c.al;
      pal = grid c.n c.order.pal;
      buf = units c.n (at c.buf);
      heard = units c.n (at c.heard);
      kept = kept_of c frames;
      waiting = map (place_at c acks bytes) (waitings c.order);
      ordered = map (place_at c acks bytes) (ordereds c.order);
      confirmed = map (place_at c acks bytes) (confirmeds c.order);
    }
