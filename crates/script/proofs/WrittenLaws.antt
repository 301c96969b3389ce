-- Laws of writing to lent output: by single bytes, by texts one after the other, and whole.
use mathlib.Core.List.{List, [], ◌∷◌, ◌++◌, append_assoc}
use mathlib.Core.Path.{◌≡◌, ap, ◌∙◌}
use Prim.Native.Nat.{ℕ, ◌+◌, ◌<◌, ◌≤◌}
use native.Mathlib.Nat.{zero-add}
use native.Mathlib.Omega.{arith}
use lib.ListN.{length, length-append}
use lib.Seq.{append_snoc}
use borrow.Author.Tests.{le-leb, lt-leb}
use Rattle.std.specs.Prelude.{Some, None}
use Rattle.rules.proofs.StoresLaws.{sets-++, sets-written}
use Rattle.script.specs.Lines.{line_feed}
use Rattle.script.specs.Items.{space, glued}
use Rattle.script.specs.Desk.{took}
use Rattle.script.specs.Print.{decimal, joined, reply_items}
use Rattle.script.specs.Written.{Put, Wrote}

-- ---- texts

pub put_then : {out mid after a b : List ℕ} {at next end : ℕ} → Put out at a next mid → Put mid next b end after → Put out at (a ++ b) end after
put_then {out} {mid} {after} {a} {b} {at} {next} {end} p q = record {
  bytes = q.bytes ∙ rw (p.bytes, p.place) (sets-++ out at a b);
  place = omega (arith, q.place, p.place, length-append a b);
  long = q.long ∙ p.long;
}

-- an item, a space, and the rest of the line
joined-item : (x y : List ℕ) (l : List (List ℕ)) → joined (x ∷ y ∷ l) ≡ x ++ (space ∷ joined (y ∷ l))
joined-item x y l = append_assoc x (space ∷ glued (y ∷ l)) (line_feed ∷ [])

pub put_item : (x y : List ℕ) (l : List (List ℕ)) {out mid after : List ℕ} {at next end : ℕ}
    → Put out at (x ++ (space ∷ [])) next mid → Put mid next (joined (y ∷ l)) end after → Put out at (joined (x ∷ y ∷ l)) end after
put_item x y l p q = rw (joined-item x y l, ← append_snoc x space (joined (y ∷ l))) (put_then p q)

pub length-joined : (x y : List ℕ) (l : List (List ℕ)) → length (joined (x ∷ y ∷ l)) ≡ length x + 1 + length (joined (y ∷ l))
length-joined x y l = ap length (joined-item x y l) ∙ length-append x (space ∷ joined (y ∷ l)) ∙ omega arith

pub length-joined-last : (x : List ℕ) → length (joined (x ∷ [])) ≡ length x + 1
length-joined-last x = length-append x (line_feed ∷ [])

pub length_taken : (j x : ℕ) (word : List ℕ)
    → length (joined (reply_items (took j x word))) ≡ length (decimal j) + length (decimal x) + length word + 5
unfolding decimal
length_taken j x word =
    omega (
      arith,
      length-joined (decimal 0) (decimal j) (decimal x ∷ word ∷ []),
      length-joined (decimal j) (decimal x) (word ∷ []),
      length-joined (decimal x) word [],
      length-joined-last word,
    )

-- the whole text fitted
pub put-wrote : (out text : List ℕ) {r : ℕ} {after : List ℕ} → length text ≤ length out → Put out 0 text r after → Wrote out text (Some r) after
put-wrote out text h p =
    record { count = rw (le-leb (length text) (length out) h) (ap Some (p.place ∙ zero-add (length text))); bytes = rw (le-leb (length text) (length out) h) (p.bytes ∙ sets-written out text h) }

pub short-wrote : (out text : List ℕ) → length out < length text → Wrote out text None out
short-wrote out text h = record { count = rw (lt-leb (length text) (length out) h); bytes = rw (lt-leb (length text) (length out) h) }
