-- What each command does with the group as the code holds it, and that this is what the script's desk does.
use Rattle.std.specs.Prelude.{Bool, true, cond, ◌&&◌, List, ◌≡◌, ℕ, ◌+◌, ◌-◌, ◌<◌, ◌≤◌, min, take, Option, Ok, Err}
use Rattle.rules.specs.Maps.{between}
use Rattle.answers.specs.Answers.{Answered, answer_of, number_of}
use Rattle.steps.specs.declared.Resend.{Resend}
use Rattle.handing.specs.Handing.{Given, asking_of}
use Rattle.unit.specs.declared.Unit.{Unit}
use Rattle.unit.specs.declared.Sent.{Sent}
use Rattle.handing.specs.declared.Taken.{Taken}
use Rattle.unit.specs.Exact.{sent_of, arrived_of, taken_of}
use Rattle.script.specs.Items.{Command, groups, sends, arrives, requests, takes, unreadable}
use Rattle.script.specs.Desk.{unknown, answers, took, lent, act}
use Rattle.script.specs.Desk as script
use Rattle.script.specs.declared.line.Line.{Line}
use Rattle.script.specs.declared.line.Line.TheVariants.{Group, Send, Arrive, Request, Take}
use Rattle.bench.specs.declared.desk.Desk.{Desk}
use Rattle.bench.specs.declared.reply.Reply.{Reply}
use Rattle.bench.specs.declared.reply.Reply.TheVariants.{Unknown, Answers, Took}
use Rattle.bench.specs.Desk.{unit_at, frame_in, desk_of, Fits, with_unit, kept_in}

-- a reply in the script's words
unfoldable pub reply_of : Reply → script.Reply
reply_of Unknown = unknown
reply_of (Answers a) = answers a
reply_of (Took sender number word len) = took sender number (take len word)

-- the next group, and the reply
pub record Acted : Type 0 where
  pub desk : Desk
  pub reply : Reply

-- in the script's words
abbrev pub as_script : Acted → script.Acted
as_script a = record { desk = desk_of a.desk; reply = reply_of a.reply }

abbrev pub ignored : Desk → Acted
ignored d = record { desk = d; reply = Unknown }

-- ---- what the call on unit u gave

-- the length of the frame that was sent
abbrev pub sent_len : Answered Sent → Answered ℕ
sent_len (Ok s) = Ok s.len
sent_len (Err r) = Err r

abbrev pub after_send : Desk → ℕ → Given (Unit × Answered Sent) → Acted
after_send d u g =
    let r : Unit × Answered Sent = g.result in
    record { desk = kept_in (with_unit d u r.0) (sent_len r.1) g.output; reply = Answers (answer_of r.1) }

abbrev pub after_arrival : Desk → ℕ → Unit × Answered (Option Resend) → Acted
after_arrival d u r = record { desk = with_unit d u r.0; reply = Answers (answer_of r.1) }

abbrev pub after_request : Desk → Given (Answered ℕ) → Acted
after_request d g = record { desk = kept_in d g.result g.output; reply = Answers (answer_of g.result) }

-- a message is shown, with the output that its word stands in
abbrev pub taken_as : Answered Taken → List ℕ → Reply
taken_as (Ok t) out = Took t.src t.seq out t.len
taken_as (Err r) out = Answers (number_of r)

abbrev pub after_take : Desk → ℕ → Given (Unit × Answered Taken) → Acted
after_take d u g =
    let r : Unit × Answered Taken = g.result in
    record { desk = with_unit d u r.0; reply = taken_as r.1 g.output }

-- ---- commands

-- a number past 255 names no unit, as 255 does
abbrev pub asked : Unit → ℕ → Given (Answered ℕ)
asked x k = asking_of x.core x.acks (min k 255) (lent 117)

unfoldable pub acted_of : Desk → Command → Acted
acted_of d (groups n w) = ignored d
acted_of d (sends u word) = cond (between 1 d.n u) (after_send d u (sent_of (unit_at d u) word (lent 117))) (ignored d)
acted_of d (arrives u f) =
    cond (between 1 d.n u && between 1 d.count f)
    (after_arrival d u (arrived_of (unit_at d u) (frame_in d.frames (f - 1))))
    (ignored d)
acted_of d (requests u k) = cond (between 1 d.n u) (after_request d (asked (unit_at d u) k)) (ignored d)
acted_of d (takes u) = cond (between 1 d.n u) (after_take d u (taken_of (unit_at d u) (lent 48))) (ignored d)
acted_of d unreadable = ignored d

-- the unit and the frame that a line names exist; there are n units and so many frames
unfoldable pub names_known : ℕ → ℕ → Line → Bool
names_known n count (Group g) = true
names_known n count (Send u len) = between 1 n u
names_known n count (Arrive u f) = between 1 n u && between 1 count f
names_known n count (Request u k) = between 1 n u
names_known n count (Take u) = between 1 n u

-- unit u of the group
pub record Named (d : Desk) (u : ℕ) : Type 0 where
  pub fits : Fits d
  pub low : 1 ≤ u
  pub high : u ≤ d.n

-- and a frame that it can write, or hear
pub record CanWrite (d : Desk) (u : ℕ) : Type 0 where
  pub unit : Named d u
  pub room : d.count < 64

pub record CanHear (d : Desk) (u f : ℕ) : Type 0 where
  pub unit : Named d u
  pub low : 1 ≤ f
  pub high : f ≤ d.count

-- any command
pub record CanAct (d : Desk) : Type 0 where
  pub fits : Fits d
  pub room : d.count < 64

-- `next` and `reply` determine the group and the reply; the others say what that means
pub record Acts (d : Desk) (c : Command) (e : Desk) (r : Reply) : Type 0 where
  pub next : e ≡ (acted_of d c).desk
  pub reply : r ≡ (acted_of d c).reply
  pub means : as_script (acted_of d c) ≡ act (desk_of d) c
  pub fits : Fits e
  pub more : e.count ≤ d.count + 1
