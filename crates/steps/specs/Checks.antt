-- The checks of an arrival and of a send on a unit's numbers, after that of soundness, in 01's order.
use Rattle.std.specs.Prelude.{Bool, not, ◌&&◌, ◌||◌, List, [], ◌∷◌, ℕ, ◌+◌, ◌*◌, ◌/◌, ◌≤◌, min, max, eqb, leb, ltb, length}
use Rattle.rules.specs.Maps.{between, at, least}
use Rattle.rules.specs.Message.{last}
use Rattle.rules.specs.Calls.{Check, ◌⇒◌}
use Rattle.tables.specs.Rows.{below_but, column_of}
use Rattle.lists.specs.Order.{is_of, only, takens}
use Rattle.state.specs.declared.Core.{Core}
use Rattle.state.specs.Soundness.{own_low}
use Rattle.frame.specs.declared.Head.{Head}
use Rattle.frame.specs.declared.Data.{Data}
use Rattle.frame.specs.declared.Request.{Request}

-- i, n and W are in range: what the functions on a sound unit's numbers ask for
pub record InRange (c : Core) : Type 0 where
  pub own : 1 ≤ c.me
  pub unit : c.me ≤ c.n
  pub few : c.n ≤ 8
  pub narrow : c.w ≤ 4

-- the frame's sender is a unit
pub record FromUnit (c : Core) (h : Head) : Type 0 where
  pub first : 1 ≤ h.src
  pub unit : h.src ≤ c.n

-- the frame has n ACKs, and its sender is a unit
unfoldable pub of_group : Core → Head → Bool
of_group c h = eqb h.n c.n && between 1 c.n h.src

-- ---- data

-- it says more of this unit than there is, not its own number, or more free places than there are
unfoldable pub impossible : Core → Data → Bool
impossible c f =
    ltb c.seq (at f.head.ack c.me) || not (eqb (at f.head.ack f.head.src) f.seq) || ltb (4 * c.w * c.n) f.buf

-- sender j has no free place
unfoldable pub no_place : Core → ℕ → Bool
no_place c j = leb (4 * c.w) (length (only (is_of j) (takens c.order)))

-- a message of another unit that can be: whether it is its sender's turn, and whether it can be stored
abbrev pub turn_checks : Core → Data → List Check
turn_checks c f =
    (ltb f.seq (at c.req f.head.src) ⇒ 8)
    ∷ (ltb (at c.req f.head.src) f.seq ⇒ 9)
    ∷ (not (below_but c.n f.head.src (at f.head.ack) (at c.req)) ⇒ 10)
    ∷ (not (below_but c.n 0 (at (column_of c.al f.head.src)) (at f.head.ack)) ⇒ 11)
    ∷ (no_place c f.head.src ⇒ 12)
    ∷ []

-- a frame of this group, from a unit: whether it is its own, and whether what it says can be
abbrev pub unit_checks : Core → Data → List Check
unit_checks c f = (eqb f.head.src c.me ⇒ 6) ∷ (impossible c f ⇒ 7) ∷ turn_checks c f

-- what comes before
abbrev pub group_checks : Core → Data → List Check
group_checks c f = (not (eqb f.head.cid c.cid) ⇒ 4) ∷ (not (of_group c f.head) ⇒ 5) ∷ []

-- ---- requests

-- it names a unit other than its sender
unfoldable pub names_other : Core → Request → Bool
names_other c f = between 1 c.n f.lsrc && not (eqb f.lsrc f.head.src)

-- it asks for numbers not sent yet, or for none
unfoldable pub asks_wrongly : Core → Request → Bool
asks_wrongly c f =
    ltb c.seq (at f.head.ack c.me) || ltb c.seq f.lseq || leb f.lseq (at f.head.ack c.me)

-- the first number to resend
unfoldable pub resend_from : Core → Request → ℕ
resend_from c f = max (at f.head.ack c.me) (own_low c)

abbrev pub request_checks : Core → Request → List Check
request_checks c f =
    (not (eqb f.head.cid c.cid) ⇒ 4)
    ∷ (not (of_group c f.head && names_other c f) ⇒ 5)
    ∷ (eqb f.head.src c.me ⇒ 6)
    ∷ (not (eqb f.lsrc c.me) ⇒ 17)
    ∷ (asks_wrongly c f ⇒ 7)
    ∷ (leb f.lseq (resend_from c f) ⇒ 18)
    ∷ []

-- ---- send

-- SEQ is below minAL of the own index plus the smaller of W and (least BUF divided by n)
unfoldable pub window_open : Core → Bool
window_open c = ltb c.seq (own_low c + min c.w (least c.n (at c.buf) / c.n))

abbrev pub send_checks : Core → ℕ → ℕ → List Check
send_checks c len room =
    (ltb 48 len ⇒ 13)
    ∷ (leb last c.seq ⇒ 14)
    ∷ (not (window_open c) ⇒ 15)
    ∷ (no_place c c.me ⇒ 12)
    ∷ (ltb room (37 + 4 * c.n + len) ⇒ 16)
    ∷ []
