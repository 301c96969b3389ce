-- The numbers that fields can hold, and the messages that a frame can carry: 01's limits on each of their numbers.
use Rattle.std.specs.Prelude.{List, [], ◌∷◌, ℕ, ◌*◌, ◌^◌, ◌≤◌, ◌<◌, length}
use Rattle.rules.specs.Fields.{Row, row_of}
use Rattle.rules.specs.Message.{Message, Request, Said, message, request, last}

-- P holds of each of the list
pub data Each (P : ℕ → Type 0) : List ℕ → Type 0 where
  nil : Each P []
  cons : {x : ℕ} {l : List ℕ} → P x → Each P l → Each P (x ∷ l)

abbrev pub Bytes : List ℕ → Type 0
Bytes l = Each (λ x. x < 256) l

-- the numbers v can stand in a field of line r
pub record Content (r : Row) (v : List ℕ) : Type 0 where
  pub least : r.least ≤ r.width * length v
  pub greatest : r.width * length v ≤ r.greatest
  pub each : Each (λ x. x < 256 ^ r.width) v

-- the numbers vs can stand in fields of the tags ts
abbrev pub Contents : List Row → List ℕ → List (List ℕ) → Type 0
Contents rs [] [] = Unit {0}
Contents rs [] (v ∷ vs) = ⊥
Contents rs (t ∷ ts) [] = ⊥
Contents rs (t ∷ ts) (v ∷ vs) = Content (row_of rs t) v × Contents rs ts vs

-- n from 2 to 8 numbers of four bytes, never 0
pub record LawfulAck (ack : List ℕ) : Type 0 where
  pub least : 2 ≤ length ack
  pub greatest : length ack ≤ 8
  pub each : Each (λ x. (1 ≤ x) × (x ≤ last)) ack

pub record LawfulMessage (m : Message) : Type 0 where
  pub cid : m.cid ≤ last
  pub src : m.src < 256
  pub seq_least : 1 ≤ m.seq
  pub seq_greatest : m.seq < last
  pub ack : LawfulAck m.ack
  pub buf : m.buf < 65536
  pub short : length m.text ≤ 48
  pub text : Bytes m.text

pub record LawfulRequest (r : Request) : Type 0 where
  pub cid : r.cid ≤ last
  pub src : r.src < 256
  pub ack : LawfulAck r.ack
  pub lsrc : r.lsrc < 256
  pub lseq_least : 1 ≤ r.lseq
  pub lseq_greatest : r.lseq ≤ last

abbrev pub Lawful : Said → Type 0
Lawful (message m) = LawfulMessage m
Lawful (request r) = LawfulRequest r
