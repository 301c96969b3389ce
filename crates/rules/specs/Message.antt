-- Messages and requests, and the frame of each (01, "Frames").
use Rattle.std.specs.Prelude.{Bool, true, false, ◌&&◌, List, [], ◌∷◌, ℕ, eqb, ltb, get_or}
use Rattle.std.proofs.Math.Option.{Option, none, some}
use Rattle.rules.specs.Fields.{table, tags_of, print, fits, numbers}

-- ACK_k, the number that the sender next expects from unit k, stands k-th in `ack`
pub record Message : Type 0 where
  pub cid : ℕ
  pub src : ℕ
  pub seq : ℕ
  pub ack : List ℕ
  pub buf : ℕ
  pub text : List ℕ

pub record Request : Type 0 where
  pub cid : ℕ
  pub src : ℕ
  pub ack : List ℕ
  pub lsrc : ℕ
  pub lseq : ℕ

-- what a frame says
pub data Said : Type 0 where
  message : Message → Said
  request : Request → Said

-- a number that means "next" may be this; a message's own number may not
abbrev pub last : ℕ
last = 4294967295

-- tag 1, and tag 2 for each kind
abbrev pub edition : ℕ
edition = 1

abbrev pub kind_of : Said → ℕ
kind_of (message m) = 1
kind_of (request r) = 2

-- the numbers in each field, in rising tag order
abbrev pub numbers_of : Said → List (List ℕ)
numbers_of (message m) =
    (edition ∷ [])
    ∷ (1 ∷ [])
    ∷ (m.cid ∷ [])
    ∷ (m.src ∷ [])
    ∷ (m.seq ∷ [])
    ∷ m.ack
    ∷ (m.buf ∷ [])
    ∷ m.text
    ∷ []
numbers_of (request r) =
    (edition ∷ []) ∷ (2 ∷ []) ∷ (r.cid ∷ []) ∷ (r.src ∷ []) ∷ r.ack ∷ (r.lsrc ∷ []) ∷ (r.lseq ∷ []) ∷ []

-- the frame
unfoldable pub encode : Said → List ℕ
encode x = print table (tags_of table (kind_of x)) (numbers_of x)

-- ACK and LSEQ are never 0; SEQ is neither 0 nor the last number
abbrev pub no_zero : List ℕ → Bool
no_zero [] = true
no_zero (x ∷ l) = ltb 0 x && no_zero l

unfoldable pub in_limits : Said → Bool
in_limits (message m) = no_zero m.ack && ltb 0 m.seq && ltb m.seq last
in_limits (request r) = no_zero r.ack && ltb 0 r.lseq

-- what the numbers in the fields say, by kind: field i from 0, and its one number
abbrev nth : List (List ℕ) → ℕ → List ℕ
nth v i = get_or v i []

abbrev pub one : List (List ℕ) → ℕ → ℕ
one v i = get_or (nth v i) 0 0

abbrev pub as_message : List (List ℕ) → Said
as_message v =
    message
    (record { cid = one v 2; src = one v 3; seq = one v 4; ack = nth v 5; buf = one v 6; text = nth v 7 })

abbrev pub as_request : List (List ℕ) → Said
as_request v = request (record { cid = one v 2; src = one v 3; ack = nth v 4; lsrc = one v 5; lseq = one v 6 })

-- l read as a frame of kind k, which `as` makes of its numbers
abbrev pub when : Bool → Said → Option Said
when true x = some x
when false x = none

unfoldable pub read_as : ℕ → (List (List ℕ) → Said) → List ℕ → Option Said
read_as k «as» l =
    let v = numbers table (tags_of table k) l in
    when (fits table (tags_of table k) l && eqb (one v 0) edition && eqb (one v 1) k && in_limits («as» v)) («as» v)

abbrev pub or_else : Option Said → Option Said → Option Said
or_else (some x) y = some x
or_else none y = y

-- what a list of bytes says; none where it is not a frame
unfoldable pub decode : List ℕ → Option Said
decode l = or_else (read_as 1 as_message l) (read_as 2 as_request l)
