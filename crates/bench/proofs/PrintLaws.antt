-- No line that is printed is longer than 84 bytes, so that an output of 84 bytes has room for each.
use mathlib.Core.List.{List, [], ◌∷◌}
use mathlib.Core.Path.{◌≡◌, sym, ◌∙◌}
use Rattle.std.specs.Prelude.{Option, Some, IsSome}
use Prim.Native.Nat.{ℕ, ◌<◌, ◌≤◌}
use native.Mathlib.Omega.{arith}
use native.Mathlib.Nat.{le_trans}
use lib.ListN.{length, take, length-take}
use borrow.Author.Tests.{le-leb}
use Rattle.script.specs.Desk.{unknown, answers, took}
use Rattle.script.specs.Print.{text, decimal, group_line, no_group_line, reply_line}
use Rattle.script.specs.Written.{Wrote}
use Rattle.script.proofs.PrintLaws.{length-decimal}
use Rattle.script.proofs.WrittenLaws.{length-joined, length-joined-last, length_taken}
use Rattle.bench.specs.Prints.{Prints, PrintsLine}

-- where there was room, the whole text was written
pub wrote-some : {out text after : List ℕ} {r : Option ℕ} → length text ≤ length out → Wrote out text r after → IsSome r
wrote-some {out} {text} h w = rw (w.count, le-leb (length text) (length out) h)

pub wrote-prints : {out text after : List ℕ} {r : Option ℕ} {len : ℕ} → length text ≤ length out → Wrote out text r after → r ≡ Some len
    → Prints text out len after
wrote-prints {out} {text} {len = len} h w is =
    let whole : Some len ≡ Some (length text) = sym is ∙ rw (le-leb (length text) (length out) h) at w.count in
    record { count = cc; bytes = rw (le-leb (length text) (length out) h) at w.bytes }

-- a number of 32 bits
ten : (x : ℕ) → x < 4294967296 → length (decimal x) ≤ 10
ten x h = length-decimal 9 x (omega arith)

pub unknown-short : (k : ℕ) → k < 4294967296 → length (reply_line k unknown) ≤ 84
unfolding reply_line
unknown-short k h = omega (arith, ten k h, length-joined (decimal k) (text "?") [], length-joined-last (text "?"))

pub answer-short : (k a : ℕ) → k < 4294967296 → a < 4294967296 → length (reply_line k (answers a)) ≤ 84
unfolding reply_line
answer-short k a h i = omega (arith, ten k h, ten a i, length-joined (decimal k) (decimal a) [], length-joined-last (decimal a))

pub taken-short : (k j x n : ℕ) (l : List ℕ) → k < 4294967296 → j < 4294967296 → x < 4294967296 → n ≤ 48
    → length (reply_line k (took j x (take n l))) ≤ 84
unfolding reply_line
taken-short k j x n l h i q most =
    omega (
      arith,
      ten k h,
      ten j i,
      ten x q,
      length-take n l,
      length_taken j x (take n l),
      length-joined (decimal k) (decimal 0) (decimal j ∷ decimal x ∷ take n l ∷ []),
    )

pub group-short : (n w : ℕ) → n < 4294967296 → w < 4294967296 → length (group_line n w) ≤ 84
unfolding group_line
group-short n w h i =
    omega (
      arith,
      ten n h,
      ten w i,
      length-joined (text "group") (decimal n) (decimal w ∷ []),
      length-joined (decimal n) (decimal w) [],
      length-joined-last (decimal w),
    )

pub no-group-short : length no_group_line ≤ 84
unfolding no_group_line
no-group-short = omega arith

-- a line was printed
pub line-printed : {out text after : List ℕ} {r : Option ℕ} {len : ℕ} → length text ≤ 84 → 84 ≤ length out → Wrote out text r after → r ≡ Some len
    → PrintsLine text out len after
line-printed short room w is =
    let p = wrote-prints (le_trans short room) w is in
    record { prints = p; short = omega (arith, p.count, short) }
