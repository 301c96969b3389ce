-- What an arrival gives: the unit's next numbers, and its answer with what is to be resent or written into the arrays.
use Rattle.std.specs.Prelude.{Bool, cond, List, [], ◌∷◌, ℕ, ◌+◌, ◌-◌, ◌*◌, set, Option, Some, None, Ok, Err}
use Rattle.std.proofs.Math.Option as maybe
use Rattle.rules.specs.Maps.{among}
use Rattle.rules.specs.Message.{Said}
use Rattle.rules.specs.Calls.{decide}
use Rattle.answers.specs.Answers.{Answered, refusal_of, judged}
use Rattle.tables.specs.Rows.{raised}
use Rattle.lists.specs.Order.{free_of}
use Rattle.state.specs.declared.Core.{Core}
use Rattle.state.specs.Changed.{with_heard}
use Rattle.state.specs.Soundness.{sound_of}
use Rattle.frame.specs.declared.Data.{Data}
use Rattle.frame.specs.declared.Request.{Request}
use Rattle.frame.specs.declared.Frame.{Frame}
use Rattle.frame.specs.declared.Frame.TheVariants as frame
use Rattle.frame.specs.Frame.{frame_of}
use Rattle.store.specs.declared.Accepting.{Accepting}
use Rattle.store.specs.declared.Next.{Next}
use Rattle.store.specs.Store.{after, stored_of}
use Rattle.steps.specs.declared.Arrival.{Arrival}
use Rattle.steps.specs.declared.Arrival.TheVariants.{Asked, Accepted}
use Rattle.steps.specs.Checks.{group_checks, unit_checks, request_checks, resend_from}

-- refused with answer a, the numbers being c
abbrev pub refusing : Core → ℕ → Core × Answered Arrival
refusing c a = (c, Err (refusal_of a))

-- the numbers that f shows to be missing are noted
unfoldable pub noted_of : Core → Data → Core
noted_of c f = with_heard c (raised c.n c.heard (set f.head.ack (f.head.src - 1) (after f.seq)))

-- the place number of the first free place of sender j
unfoldable pub free_place : Core → ℕ → ℕ
free_place c j = 16 * (j - 1) + free_of c.order j (4 * c.w)

abbrev pub accepting_of : Core → Data → Accepting
accepting_of c f =
    record { place = free_place c f.head.src; seq = f.seq; ack = f.head.ack; buf = f.buf; len = f.len }

-- the message of f is stored
unfoldable pub storing : Core → Data → Core × Answered Arrival
storing c f =
    let s : Next = stored_of c (accepting_of c f) in
    (s.core, Ok (Accepted (record { place = free_place c f.head.src; gone = s.gone; ack = f.head.ack })))

-- the answers that note the missing numbers
abbrev pub notes : ℕ → Bool
notes a = among a (9 ∷ 10 ∷ 12 ∷ [])

-- refused with answer a, what f shows to be missing being noted where a is one of these
abbrev pub noting : Core → Data → ℕ → Core × Answered Arrival
noting c f a = refusing (cond (notes a) (noted_of c f) c) a

-- from a unit of the group
unfoldable pub unit_arrival : Core → Data → Core × Answered Arrival
unit_arrival c f = decide (unit_checks c f) (noting c f) (storing c f)

unfoldable pub data_arrival : Core → Data → Core × Answered Arrival
data_arrival c f = decide (group_checks c f) (refusing c) (unit_arrival c f)

-- the range that a request asks for and that is still kept
abbrev pub asked_of : Core → Request → Arrival
asked_of c f = Asked (record { first = resend_from c f; last = f.lseq - 1 })

unfoldable pub request_arrival : Core → Request → Answered Arrival
request_arrival c f = judged (request_checks c f) (asked_of c f)

-- the frame f, 3 where it is none
unfoldable pub frame_arrival : Core → Option Frame → Core × Answered Arrival
frame_arrival c None = refusing c 3
frame_arrival c (Some (frame.Data f)) = data_arrival c f
frame_arrival c (Some (frame.Request f)) = (c, request_arrival c f)

unfoldable pub arrival_of : Core → List ℕ → maybe.Option Said → Core × Answered Arrival
arrival_of c acks said = cond (sound_of c acks) (frame_arrival c (frame_of said)) (refusing c 1)
