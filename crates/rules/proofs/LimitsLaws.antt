-- What is read of a data frame keeps the limits, whatever list of numbers the frame is.
use mathlib.Core.Bool.{true}
use mathlib.Core.List.{List, [], ◌∷◌}
use mathlib.Core.Option.{Option, none, some}
use mathlib.Core.Path.{◌≡◌, refl, ap, subst, ◌∙◌}
use Prim.Native.Nat.{ℕ, zero, suc, ◌+◌, ◌*◌, ◌/◌, ◌≤◌, ◌<◌}
use native.Mathlib.Nat.{mul-div-le}
use native.Mathlib.Omega.{arith}
use lib.ListN.{length, get_or, drop}
use borrow.Author.Tests.{ltb-true}
use Rattle.rules.specs.Maps.{at}
use Rattle.rules.specs.Fields.{Row, table, row_of, tags_of, length_of, field_fits, fits, numbers}
use Rattle.rules.specs.Message.{Message, Said, message, request, last, in_limits, as_message, as_request, read_as, or_else, decode}
use Rattle.rules.proofs.MapsLaws.{and_left, and_right}
use Rattle.rules.proofs.BytesLaws.{length-all_numbers}
use Rattle.rules.proofs.FieldsLaws.{is_field}
use Rattle.rules.proofs.MessageLaws.{Read, read}
use Rattle.rules.proofs.SoundLaws.{no_zero-at}

pub record Limits (p : Message) : Type 0 where
  pub seq-low : 0 < p.seq
  pub seq-high : p.seq < last
  pub acks : (k : ℕ) → 1 ≤ k → k ≤ length p.ack → 0 < at p.ack k
  pub short : length p.text ≤ 48

-- no field holds more numbers than its line of the table allows
numbers-most : (rs : List Row) (ts l : List ℕ) → fits rs ts l ≡ true → (i : ℕ) → i < length ts
    → (row_of rs (get_or ts i 0)).width * length (get_or (numbers rs ts l) i []) ≤ (row_of rs (get_or ts i 0)).greatest
numbers-most rs [] l h i x = absurd (omega arith)
numbers-most rs (t ∷ ts) l h zero x =
    let f = is_field rs t l (and_left (field_fits rs t l) (fits rs ts (drop (3 + length_of l) l)) h) in
    let r = row_of rs t in
    rw (length-all_numbers r.width (length_of l / r.width) (drop 3 l)) (omega (arith, mul-div-le (length_of l) r.width, f.greatest))
numbers-most rs (t ∷ ts) l h (suc i) x =
    let rest = drop (3 + length_of l) l in
    numbers-most rs ts rest (and_right (field_fits rs t l) (fits rs ts rest) h) i (omega arith)

abbrev text_of : Said → List ℕ
text_of (message m) = m.text
text_of (request r) = []

module _ (l : List ℕ) (p : Message) where
  read-message : decode l ≡ some (message p) → Read 1 as_message l (message p)
  unfolding decode
  read-message e = go (read_as 1 as_message l) refl e
    where
      go : (o : Option Said) → read_as 1 as_message l ≡ o → or_else o (read_as 2 as_request l) ≡ some (message p) → Read 1 as_message l (message p)
      go (some y) x h = read 1 as_message l (message p) (x ∙ h)
      go none x h =
          let r = read 2 as_request l (message p) h in
          let z : ◌≡◌ {A = ℕ} 0 1 = cc r.same in
          absurd (omega arith)

  pub decode-limits : decode l ≡ some (message p) → Limits p
  unfolding in_limits table tags_of row_of
  decode-limits e =
      let r = read-message e in
      let limits : in_limits (message p) ≡ true = subst (λ (x : Said). in_limits x ≡ true) r.same r.limits in
      let text : get_or (numbers table (tags_of table 1) l) 7 [] ≡ p.text = ap text_of r.same in
      record {
        seq-low = ltb-true 0 p.seq (search (and_left, and_right));
        seq-high = ltb-true p.seq last (search (and_left, and_right));
        acks = no_zero-at p.ack (search (and_left, and_right));
        short = omega (arith, ap length text, numbers-most table (tags_of table 1) l r.fit 7 (omega arith));
      }
