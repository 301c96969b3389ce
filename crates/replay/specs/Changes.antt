-- A unit with one number set: which, by the number `what`. Where there is no such thing, none is set.
use Rattle.std.specs.Prelude.{cond, List, ℕ, ◌+◌, ◌-◌, ◌*◌, ◌%◌, eqb, get_or, set}
use Rattle.lists.specs.declared.Order.{Order}
use Rattle.state.specs.declared.Core.{Core}
use Rattle.state.specs.Changed as state
use Rattle.unit.specs.declared.Unit.{Unit}

-- the j-th number of row k, in a table of rows of eight
abbrev pub cell : ℕ → ℕ → ℕ
cell k j = 8 * (k - 1) + (j - 1)

-- the place at position k
abbrev pub place_at : Order → ℕ → ℕ
place_at o k = get_or o.list k 0

-- i, n, W, CID and SEQ
abbrev pub with_number : Core → ℕ → ℕ → Core
with_number c what x =
    record {
      me = cond (eqb what 6) (x % 256) c.me;
      n = cond (eqb what 7) (x % 256) c.n;
      w = cond (eqb what 8) (x % 256) c.w;
      cid = cond (eqb what 9) x c.cid;
      seq = cond (eqb what 0) x c.seq;
      req = c.req;
      heard = c.heard;
      buf = c.buf;
      al = c.al;
      kept = c.kept;
      seqs = c.seqs;
      lens = c.lens;
      order = c.order;
    }

-- REQ_k, HEARD_k, BUF_k and AL_kj
abbrev pub with_entry : Core → ℕ → ℕ → ℕ → ℕ → Core
with_entry c what k j x =
    record {
      me = c.me;
      n = c.n;
      w = c.w;
      cid = c.cid;
      seq = c.seq;
      req = cond (eqb what 1) (set c.req (k - 1) x) c.req;
      heard = cond (eqb what 2) (set c.heard (k - 1) x) c.heard;
      buf = cond (eqb what 3) (set c.buf (k - 1) x) c.buf;
      al = cond (eqb what 4) (set c.al (cell k j) x) c.al;
      kept = c.kept;
      seqs = c.seqs;
      lens = c.lens;
      order = c.order;
    }

-- SEQ and data length of the message at position k
abbrev pub with_message : Core → ℕ → ℕ → ℕ → Core
with_message c what k x =
    record {
      me = c.me;
      n = c.n;
      w = c.w;
      cid = c.cid;
      seq = c.seq;
      req = c.req;
      heard = c.heard;
      buf = c.buf;
      al = c.al;
      kept = c.kept;
      seqs = cond (eqb what 10) (set c.seqs (place_at c.order k) x) c.seqs;
      lens = cond (eqb what 11) (set c.lens (place_at c.order k) (x % 256)) c.lens;
      order = c.order;
    }

-- PAL_kj, and the place at position k
abbrev pub with_order : Order → ℕ → ℕ → ℕ → ℕ → Order
with_order o what k j x =
    record {
      pal = cond (eqb what 5) (set o.pal (cell k j) x) o.pal;
      list = cond (eqb what 13) (set o.list k (place_at o j)) o.list;
      confirmed = o.confirmed;
      ordered = o.ordered;
      waiting = o.waiting;
    }

-- ACK_j of the message at position k
abbrev pub with_ack : Unit → ℕ → ℕ → ℕ → ℕ → List ℕ
with_ack u what k j x = cond (eqb what 12) (set u.acks (8 * place_at u.core.order k + (j - 1)) x) u.acks

unfoldable pub changed_of : Unit → ℕ → ℕ → ℕ → ℕ → Unit
changed_of u what k j x =
    let c : Core = with_message (with_entry (with_number u.core what x) what k j x) what k x in
    record {
      core = state.with_order c (with_order u.core.order what k j x);
      acks = with_ack u what k j x;
      bytes = u.bytes;
      frames = u.frames;
    }
