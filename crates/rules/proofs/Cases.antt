-- The cases that 01 marks (P): one table, each row what the definitions compute and what 01 says.
use mathlib.Core.Path.{◌≡◌, refl}
use mathlib.Core.List.{List, [], ◌∷◌, ◌++◌, map}
use mathlib.Core.Option.{Option, none, some}
use Prim.Native.Nat.{ℕ}
use lib.ListN.{length, take, replicate}
use Rattle.rules.specs.Maps.{between, upd, column, units, at, listed}
use Rattle.rules.specs.Fields.{table, row_of, tags_of, field_fits}
use Rattle.rules.specs.Message.{Said, message, request, encode, decode, in_limits, read_as}
use Rattle.rules.specs.State.{Place, State, min_al, min_pal, from, free, opened, closed}
use Rattle.rules.specs.Steps.{window, may_send, outgoing, known, free_slot, placed, stored, noted, is_kept, resent_from, precedes, preacked, preack_of, moved, confirm, accepted, sent}
use Rattle.rules.specs.Sound.{ranges_fit, nexts_fit, window_fits, place_fits, kept_fit, sound}
use Rattle.rules.specs.Calls.{Result, full, foreign, open_checks, opening, send_checks, send, data_checks, arrive_data, request_checks, arrive_request, arrive}

-- ---- a unit at work

-- a send without data, or the arrival of the frame that says this
pub data Act : Type 0 where
  sends : Act
  hears : Said → Act

does : State → Act → Result
does s sends = send s [] (replicate 117 0)
does s (hears x) = arrive s (encode x)

after : State → List Act → State
after s [] = s
after s (a ∷ l) = after (does s a).next l

answers : State → List Act → List ℕ
answers s [] = []
answers s (a ∷ l) = (does s a).answer ∷ answers (does s a).next l

-- SEQ and ACK of each message sent, read off the frame written
abbrev seq_and_ack : Option Said → List (List ℕ)
seq_and_ack none = []
seq_and_ack (some (message m)) = (m.seq ∷ m.ack) ∷ []
seq_and_ack (some (request r)) = []

abbrev wrote : Act → Result → List (List ℕ)
wrote sends r = seq_and_ack (decode (take (at r.numbers 2) r.output))
wrote (hears x) r = []

writes : State → List Act → List (List ℕ)
writes s [] = []
writes s (a ∷ l) = wrote a (does s a) ++ writes (does s a).next l

-- ---- units and messages of a group 7

fresh : ℕ → ℕ → ℕ → ℕ → State
fresh i n w first = opened i n w 7 (λ k. first)

-- from j, numbered x, without data; BUF is 24, within each limit
said : ℕ → ℕ → List ℕ → Said
said j x a = message (record { cid = 7; src = j; seq = x; ack = a; buf = 24; text = [] })

three : ℕ → ℕ → ℕ → List ℕ
three a b c = a ∷ b ∷ c ∷ []

-- sender and number of each message
names : List Place → List (List ℕ)
names l = map (λ p. p.src ∷ p.seq ∷ []) l

-- ---- the rows

pub record Case : Type 0 where
  pub computed : List (List ℕ)
  pub stated : List (List ℕ)

opens : ℕ → ℕ → ℕ
opens n w = (opening 1 n w 7 (λ k. 1)).answer

openings : Case
openings =
    record { computed = three (opens 1 2) (opens 2 2) (opens 2 5) ∷ []; stated = three 2 0 2 ∷ [] }

bytes_with : ℕ → ℕ → ℕ
bytes_with n d =
    length
    (encode
    (message (record { cid = 7; src = 1; seq = 1; ack = replicate n 1; buf = 8; text = replicate d 0 })))

sizes : Case
sizes =
    record {
      computed = three (bytes_with 2 0) (bytes_with 8 48) (arrive (fresh 1 2 2 1) []).answer ∷ [];
      stated = three 45 117 3 ∷ [];
    }

p-of-1 : Act
p-of-1 = hears (said 1 1 (three 1 1 1))

r-of-2 : Act
r-of-2 = hears (said 2 1 (three 2 1 1))

early : Case
early =
    record {
      computed =
          answers (fresh 3 3 2 1) (r-of-2 ∷ p-of-1 ∷ r-of-2 ∷ [])
          ∷ listed 1 3 (after (fresh 3 3 2 1) (r-of-2 ∷ [])).heard
          ∷ [];
      stated = three 10 0 0 ∷ three 2 2 1 ∷ [];
    }

gap-and-early : Case
gap-and-early =
    record
    { computed = answers (fresh 3 3 2 1) (hears (said 2 2 (three 2 2 1)) ∷ []) ∷ []; stated = (9 ∷ []) ∷ [] }

last-number : Case
last-number =
    record
    { computed = answers (fresh 1 2 4 4294967294) (sends ∷ sends ∷ []) ∷ []; stated = (0 ∷ 14 ∷ []) ∷ [] }

-- unit 1 of two keeps 3 to 5, and hears a request of unit 2
asked : ℕ → Result
asked x =
    does (after (fresh 1 2 4 3) (sends ∷ sends ∷ sends ∷ []))
    (hears (request (record { cid = 7; src = 2; ack = 2 ∷ 3 ∷ []; lsrc = 1; lseq = x })))

ranges : Case
ranges =
    record {
      computed = ((asked 5).answer ∷ (asked 5).numbers) ∷ ((asked 7).answer ∷ (asked 7).numbers) ∷ [];
      stated = three 0 3 4 ∷ three 7 0 0 ∷ [];
    }

-- table 1 of document 001 at unit 1: a c b d, and then e f g h
to-d : List Act
to-d = sends ∷ sends ∷ hears (said 3 1 (three 2 1 1)) ∷ hears (said 2 1 (three 3 1 2)) ∷ []

to-h : List Act
to-h = to-d ++ (sends ∷ sends ∷ hears (said 2 2 (three 4 2 2)) ∷ hears (said 3 2 (three 5 3 2)) ∷ [])

unit-1 : State
unit-1 = fresh 1 3 4 1

-- all are accepted; REQ; what is pre-acknowledged
after-d : Case
after-d =
    let s = after unit-1 to-d in
    record {
      computed = answers unit-1 to-d ∷ listed 1 3 s.req ∷ names (s.confirmed ++ s.ordered);
      stated = replicate 4 0 ∷ three 3 2 2 ∷ (1 ∷ 1 ∷ []) ∷ [];
    }

own-sends : Case
own-sends =
    record {
      computed = writes unit-1 to-h;
      stated = (1 ∷ three 1 1 1) ∷ (2 ∷ three 2 1 1) ∷ (3 ∷ three 3 2 2) ∷ (4 ∷ three 4 2 2) ∷ [];
    }

-- all are accepted; the AL rows; one is confirmed, of a c b d e
after-h : Case
after-h =
    let s = after unit-1 to-h in
    record {
      computed =
          answers unit-1 to-h
          ∷ listed 1 3 (s.al 1)
          ∷ listed 1 3 (s.al 2)
          ∷ listed 1 3 (s.al 3)
          ∷ (length s.confirmed ∷ [])
          ∷ names (s.confirmed ++ s.ordered);
      stated =
          replicate 8 0
          ∷ three 4 4 5
          ∷ three 2 2 3
          ∷ three 2 2 2
          ∷ (1 ∷ [])
          ∷ (1 ∷ 1 ∷ [])
          ∷ (1 ∷ 2 ∷ [])
          ∷ (3 ∷ 1 ∷ [])
          ∷ (2 ∷ 1 ∷ [])
          ∷ (1 ∷ 3 ∷ [])
          ∷ [];
    }

-- ---- the table

pub cases : List Case
cases = openings ∷ sizes ∷ early ∷ gap-and-early ∷ last-number ∷ ranges ∷ after-d ∷ own-sends ∷ after-h ∷ []

pub cases-hold : map (λ (c : Case). c.computed) cases ≡ map (λ (c : Case). c.stated) cases
unfolding does after answers writes fresh said three names
    opens openings bytes_with sizes p-of-1 r-of-2 early gap-and-early last-number asked ranges to-d to-h unit-1 after-d own-sends after-h cases
    between upd column units table row_of tags_of field_fits encode decode in_limits read_as min_al min_pal from free opened closed
    window may_send outgoing known free_slot placed stored noted is_kept resent_from precedes preacked preack_of moved confirm accepted sent
    ranges_fit nexts_fit window_fits place_fits kept_fit sound
    full foreign open_checks opening send_checks send data_checks arrive_data request_checks arrive_request arrive
cases-hold = refl
