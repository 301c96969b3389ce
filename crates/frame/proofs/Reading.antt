-- From bytes that are well formed to what the rules read: byte 3 is the edition, byte 7 the kind.
use mathlib.Core.Bool.{true}
use mathlib.Core.List.{List, [], ◌∷◌}
use mathlib.Core.Logic.{◌≢◌}
use mathlib.Core.Option.{Option, none, some}
use mathlib.Core.Path.{◌≡◌, refl, sym, ap, ◌∙◌}
use Prim.Native.Nat.{ℕ, ◌+◌, ◌-◌, ◌*◌, ◌≤◌, ◌<◌}
use native.Mathlib.Omega.{arith}
use lib.ListN.{length, get_or, take, drop}
use lib.Seq.{drop-cons}
use borrow.Author.Tests.{eqb-true, ne_eqb}
use Rattle.rules.specs.Bytes.{number, all_numbers}
use Rattle.rules.specs.Fields.{table, tags_of, fits, numbers}
use Rattle.rules.specs.Message.{Message, Request, Said, message, request, edition, in_limits, one, as_message, as_request, read_as, or_else, decode}
use Rattle.rules.proofs.MessageLaws.{Read, read_some, read_none}
use Rattle.frame.specs.Acks.{count_at, acks_at}
use Rattle.frame.proofs.Places.{headed, head, DataPlaces, data-places, RequestPlaces, request-places}

number-one : (l : List ℕ) (p : ℕ) → p < length l → number (take 1 (drop p l)) ≡ get_or l p 0
number-one l p h = rw (drop-cons l p 0 h) (omega arith)

-- ---- the edition and the kind

module _ (ts l : List ℕ) (h : fits table (1 ∷ 2 ∷ 3 ∷ 4 ∷ ts) l ≡ true) where
  edition-byte : one (numbers table (1 ∷ 2 ∷ 3 ∷ 4 ∷ ts) l) 0 ≡ get_or l 3 0
  edition-byte =
      let k = head ts l h in
      ap (λ v. one v 0) k.split ∙ number-one l 3 (omega (arith, k.long))

  kind-byte : one (numbers table (1 ∷ 2 ∷ 3 ∷ 4 ∷ ts) l) 1 ≡ get_or l 7 0
  kind-byte =
      let k = head ts l h in
      ap (λ v. one v 1) k.split ∙ number-one l 7 (omega (arith, k.long))

-- what is read at all has these
pub record Seen (l : List ℕ) : Type 0 where
  pub long : 19 ≤ length l
  pub fit : fits table (tags_of table (get_or l 7 0)) l ≡ true
  pub edition-is : get_or l 3 0 ≡ edition

module _ (k : ℕ) («as» : List (List ℕ) → Said) (l ts : List ℕ) (e : tags_of table k ≡ 1 ∷ 2 ∷ 3 ∷ 4 ∷ ts) (x : Said) (r : Read k «as» l x) where
  fit : fits table (1 ∷ 2 ∷ 3 ∷ 4 ∷ ts) l ≡ true
  fit = ap (λ us. fits table us l) (sym e) ∙ r.fit

  read-kind : get_or l 7 0 ≡ k
  read-kind = sym (kind-byte ts l fit) ∙ ap (λ us. one (numbers table us l) 1) (sym e) ∙ r.kind-is

  seen : Seen l
  seen =
      record {
        long = (head ts l fit).long;
        fit = ap (λ i. fits table (tags_of table i) l) read-kind ∙ r.fit;
        edition-is = sym (edition-byte ts l fit) ∙ ap (λ us. one (numbers table us l) 0) (sym e) ∙ r.edition-is;
      }

tags-1 : tags_of table 1 ≡ 1 ∷ 2 ∷ 3 ∷ 4 ∷ 5 ∷ 6 ∷ 7 ∷ 10 ∷ []
unfolding table tags_of
tags-1 = refl

tags-2 : tags_of table 2 ≡ 1 ∷ 2 ∷ 3 ∷ 4 ∷ 6 ∷ 8 ∷ 9 ∷ []
unfolding table tags_of
tags-2 = refl

pub not_seen : (l : List ℕ) → (Seen l → ⊥) → decode l ≡ none
unfolding decode
not_seen l h =
    rw
    (read_none 1 as_message l (λ x r. h (seen 1 as_message l _ tags-1 x r)), read_none 2 as_request l (λ x r. h (seen 2 as_request l _ tags-2 x r)))

-- the kind that byte 7 says is the only one to read
decode-1 : (l : List ℕ) → get_or l 7 0 ≡ 1 → decode l ≡ read_as 1 as_message l
unfolding decode
decode-1 l e =
    ap (or_else (read_as 1 as_message l)) (read_none 2 as_request l (λ x r. let f = read-kind 2 as_request l _ tags-2 x r in omega arith)) ∙ go (read_as 1 as_message l)
  where
    go : (o : Option Said) → or_else o none ≡ o
    go none = refl
    go (some x) = refl

decode-2 : (l : List ℕ) → get_or l 7 0 ≡ 2 → decode l ≡ read_as 2 as_request l
unfolding decode
decode-2 l e =
    ap (λ o. or_else o (read_as 2 as_request l)) (read_none 1 as_message l (λ x r. let f = read-kind 1 as_message l _ tags-1 x r in omega arith))

-- another kind has no fields
no-tags : (k : ℕ) → k ≢ 1 → k ≢ 2 → tags_of table k ≡ []
unfolding table tags_of
no-tags k a b = rw (ne_eqb k 1 a, ne_eqb k 2 b)

pub no-kind : (l : List ℕ) → get_or l 7 0 ≢ 1 → get_or l 7 0 ≢ 2 → Seen l → ⊥
no-kind l a b s =
    let none_left : length l ≡ 0 = eqb-true _ _ (ap (λ ts. fits table ts l) (sym (no-tags (get_or l 7 0) a b)) ∙ s.fit) in
    omega (arith, s.long)

-- ---- the numbers at their places

abbrev pub message_at : List ℕ → Message
message_at l =
    let n = count_at l 27 in
    record {
      cid = number (take 4 (drop 11 l));
      src = number (take 1 (drop 18 l));
      seq = number (take 4 (drop 22 l));
      ack = acks_at l 27;
      buf = number (take 2 (drop (32 + 4 * n) l));
      text = all_numbers 1 (length l - (37 + 4 * n)) (drop (37 + 4 * n) l);
    }

abbrev pub request_at : List ℕ → Request
request_at l =
    let n = count_at l 20 in
    record {
      cid = number (take 4 (drop 11 l));
      src = number (take 1 (drop 18 l));
      ack = acks_at l 20;
      lsrc = number (take 1 (drop (25 + 4 * n) l));
      lseq = number (take 4 (drop (29 + 4 * n) l));
    }

module _ (l : List ℕ) (h : fits table (tags_of table 1) l ≡ true) where
  pub data-at : DataPlaces l (count_at l 27)
  unfolding table tags_of
  data-at = data-places l (head (5 ∷ 6 ∷ 7 ∷ 10 ∷ []) l h).rest

  pub message-is : as_message (numbers table (tags_of table 1) l) ≡ message (message_at l)
  unfolding table tags_of
  message-is = ap as_message ((head (5 ∷ 6 ∷ 7 ∷ 10 ∷ []) l h).split ∙ ap (headed l) data-at.split)

module _ (l : List ℕ) (h : fits table (tags_of table 2) l ≡ true) where
  pub request-at : RequestPlaces l (count_at l 20)
  unfolding table tags_of
  request-at = request-places l (head (6 ∷ 8 ∷ 9 ∷ []) l h).rest

  pub request-is : as_request (numbers table (tags_of table 2) l) ≡ request (request_at l)
  unfolding table tags_of
  request-is = ap as_request ((head (6 ∷ 8 ∷ 9 ∷ []) l h).split ∙ ap (headed l) request-at.split)

-- ---- what is read, by kind

module _ (k : ℕ) («as» : List (List ℕ) → Said) (l ts : List ℕ) (tags : tags_of table k ≡ 1 ∷ 2 ∷ 3 ∷ 4 ∷ ts) (y : Said)
    (f : fits table (tags_of table k) l ≡ true) (said : «as» (numbers table (tags_of table k) l) ≡ y) where
  kind-some : get_or l 3 0 ≡ edition → get_or l 7 0 ≡ k → in_limits y ≡ true → read_as k «as» l ≡ some y
  kind-some e b h =
      let g : fits table (1 ∷ 2 ∷ 3 ∷ 4 ∷ ts) l ≡ true = ap (λ us. fits table us l) (sym tags) ∙ f in
      read_some k «as» l y
      (record {
        fit = f;
        edition-is = ap (λ us. one (numbers table us l) 0) tags ∙ edition-byte ts l g ∙ e;
        kind-is = ap (λ us. one (numbers table us l) 1) tags ∙ kind-byte ts l g ∙ b;
        limits = ap in_limits said ∙ h;
        same = said;
      })

  kind-none : (in_limits y ≡ true → ⊥) → read_as k «as» l ≡ none
  kind-none h = read_none k «as» l (λ x r. h (ap in_limits (sym said) ∙ r.limits))

module _ (l : List ℕ) (f : fits table (tags_of table 1) l ≡ true) (e : get_or l 3 0 ≡ edition) (k : get_or l 7 0 ≡ 1) where
  pub is-message : in_limits (message (message_at l)) ≡ true → decode l ≡ some (message (message_at l))
  is-message h = decode-1 l k ∙ kind-some 1 as_message l _ tags-1 (message (message_at l)) f (message-is l f) e k h

  pub not-message : (in_limits (message (message_at l)) ≡ true → ⊥) → decode l ≡ none
  not-message h = decode-1 l k ∙ kind-none 1 as_message l _ tags-1 (message (message_at l)) f (message-is l f) h

module _ (l : List ℕ) (f : fits table (tags_of table 2) l ≡ true) (e : get_or l 3 0 ≡ edition) (k : get_or l 7 0 ≡ 2) where
  pub is-request : in_limits (request (request_at l)) ≡ true → decode l ≡ some (request (request_at l))
  is-request h = decode-2 l k ∙ kind-some 2 as_request l _ tags-2 (request (request_at l)) f (request-is l f) e k h

  pub not-request : (in_limits (request (request_at l)) ≡ true → ⊥) → decode l ≡ none
  not-request h = decode-2 l k ∙ kind-none 2 as_request l _ tags-2 (request (request_at l)) f (request-is l f) h
