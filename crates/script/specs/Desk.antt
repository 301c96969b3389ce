-- The group on the bench: its units, the frames written so far, and what a command does with them.
use Rattle.std.specs.Prelude.{Bool, cond, ◌&&◌, List, [], ◌∷◌, ◌++◌, ℕ, ◌-◌, eqb, length, get_or, take, replicate}
use Rattle.rules.specs.Maps.{between, upd, at}
use Rattle.rules.specs.State.{State}
use Rattle.rules.specs.Calls.{Result, opening, send, arrive, make_request}
use Rattle.rules.specs.Calls.{take as take_once}
use Rattle.script.specs.Items.{Command, groups, sends, arrives, requests, takes, unreadable}

-- the units 1 to n, and the frames, counted from 1 as they are written
pub record Desk : Type 0 where
  pub n : ℕ
  pub units : ℕ → State
  pub frames : List (List ℕ)

-- a group with window w, CID 1, first numbers 1
unfoldable pub opened_desk : ℕ → ℕ → Desk
opened_desk n w = record { n = n; units = λ u. (opening u n w 1 (λ k. 1)).unit; frames = [] }

-- what is printed for a command: `?`, an answer number, or what a successful take adds to its answer
pub data Reply : Type 0 where
  unknown : Reply
  answers : (a : ℕ) → Reply
  took : (sender number : ℕ) (word : List ℕ) → Reply

pub record Acted : Type 0 where
  pub desk : Desk
  pub reply : Reply

abbrev pub has_unit : Desk → ℕ → Bool
has_unit d u = between 1 d.n u

abbrev pub has_frame : Desk → ℕ → Bool
has_frame d f = between 1 (length d.frames) f

abbrev pub frame_of : Desk → ℕ → List ℕ
frame_of d f = get_or d.frames (f - 1) []

abbrev pub refused : Desk → Acted
refused d = record { desk = d; reply = unknown }

-- Where what the command names exists, the call on unit u gave r and wrote the frames fs, and p is printed.
abbrev pub called : Desk → Bool → ℕ → Result → List (List ℕ) → Reply → Acted
called d exists u r fs p =
    cond exists
    (record { desk = record { n = d.n; units = upd d.units u r.next; frames = d.frames ++ fs }; reply = p })
    (refused d)

-- where a call answered 0, the m bytes that it wrote are one frame
abbrev pub wrote : Result → ℕ → List (List ℕ)
wrote r m = cond (eqb r.answer 0) (take m r.output ∷ []) []

-- a successful take adds sender, number and word
abbrev pub taking : Result → Reply
taking r =
    cond (eqb r.answer 0)
    (took (at r.numbers 1) (at r.numbers 2) (take (at r.numbers 3) r.output))
    (answers r.answer)

-- lent output of m bytes
abbrev pub lent : ℕ → List ℕ
lent m = replicate m 0

abbrev pub act : Desk → Command → Acted
act d (groups n w) = refused d
act d (sends u word) =
    let r : Result = send (d.units u) word (lent 117) in
    called d (has_unit d u) u r (wrote r (at r.numbers 2)) (answers r.answer)
act d (arrives u f) =
    let r : Result = arrive (d.units u) (frame_of d f) in
    called d (has_unit d u && has_frame d f) u r [] (answers r.answer)
act d (requests u k) =
    let r : Result = make_request (d.units u) k (lent 117) in
    called d (has_unit d u) u r (wrote r (at r.numbers 1)) (answers r.answer)
act d (takes u) =
    let r : Result = take_once (d.units u) (lent 48) in
    called d (has_unit d u) u r [] (taking r)
act d unreadable = refused d
