-- Any two results that the contract of a public function allows are equal.
use mathlib.Core.Bool.{Bool}
use mathlib.Core.List.{List}
use mathlib.Core.Path.{◌≡◌, sym, ◌∙◌}
use Prim.Native.Nat.{ℕ}
use Rattle.rules.specs.Fields.{table, row_of}
use Rattle.rules.specs.Message.{decode}
use Rattle.frame.specs.declared.Frame.{Frame}
use Rattle.std.specs.Prelude.{Option, Result}
use Rattle.frame.specs.declared.table.Row.{Row}
use Rattle.frame.specs.declared.table.Kind.{Kind}
use Rattle.frame.specs.declared.table.Tag.{Tag}
use Rattle.frame.specs.declared.table.UnknownKind.{UnknownKind}
use Rattle.frame.specs.Table.{line_of, tag_number, code_of, kind_of, is_of, has, length_fits}
use Rattle.frame.specs.Frame.{frame_of, payload_of}
use Rattle.frame.specs.Export.{Exported}

one_value : {A : Type 0} {r q x : A} → r ≡ x → q ≡ x → r ≡ q
one_value a b = a ∙ sym b

pub read-determined : (l : List ℕ) (r q : Option Frame) → r ≡ frame_of (decode l) → q ≡ frame_of (decode l) → r ≡ q
read-determined l r q a b = one_value a b

-- the bytes of the part that is shown
pub payload-determined : (l r q : List ℕ) → r ≡ payload_of (decode l) → q ≡ payload_of (decode l) → r ≡ q
payload-determined l r q a b = one_value a b

pub row-of-determined : (t : ℕ) (r q : Row) → r ≡ line_of (row_of table t) → q ≡ line_of (row_of table t) → r ≡ q
row-of-determined t r q a b = one_value a b

pub is-of-determined : (x : Row) (k : Kind) (r q : Bool) → r ≡ is_of x k → q ≡ is_of x k → r ≡ q
is-of-determined x k r q a b = one_value a b

pub tag-number-determined : (t : Tag) (r q : ℕ) → r ≡ tag_number t → q ≡ tag_number t → r ≡ q
tag-number-determined t r q a b = one_value a b

-- the number of a kind, and the kind of a number
pub code-determined : (k : Kind) (r q : ℕ) → r ≡ code_of k → q ≡ code_of k → r ≡ q
code-determined k r q a b = one_value a b

pub kind-determined : (n : ℕ) (r q : Result Kind UnknownKind) → r ≡ kind_of n → q ≡ kind_of n → r ≡ q
kind-determined n r q a b = one_value a b

pub has-tag-determined : (t k : ℕ) (r q : Bool) → r ≡ has t k → q ≡ has t k → r ≡ q
has-tag-determined t k r q a b = one_value a b

pub length-fits-determined : (t n : ℕ) (r q : Bool) → r ≡ length_fits t n → q ≡ length_fits t n → r ≡ q
length-fits-determined t n r q a b = one_value a b

-- the answer, and every number of the lent output
pub co-read-frame-determined : (l out : List ℕ) (r q : ℕ) (after other : List ℕ) → Exported l out r after → Exported l out q other → (r ≡ q) × (after ≡ other)
co-read-frame-determined l out r q after other a b = (one_value a.answers b.answers, one_value a.leaves b.leaves)
