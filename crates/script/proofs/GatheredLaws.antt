-- Laws of the line that the code is gathering: it is the line that the reader keeps.
use mathlib.Core.Bool.{Bool, true, false, cond}
use mathlib.Core.List.{List, [], ◌∷◌}
use mathlib.Core.Path.{◌≡◌, refl, ap, ◌∙◌}
use Prim.Native.Nat.{ℕ, zero, suc, ◌<◌, ◌≤◌}
use native.Mathlib.Numerals.{add-one}
use native.Mathlib.Omega.{arith}
use lib.ListN.{length, take, length-take}
use lib.Seq.{take-suc-set, length-take-le}
use borrow.Author.Tests.{lt-ltb, le-ltb}
use Rattle.rules.proofs.MapsLaws.{Lt?, lt, ge, lt?}
use Rattle.std.specs.Prelude.{None}
use Rattle.script.specs.Items.{command}
use Rattle.script.specs.Reader.{longer, command_in}
use Rattle.script.specs.Shown.{shown}
use Rattle.script.specs.Gathered.{begun_of, storing, overrun, pushed, Pushed}
use Rattle.script.specs.declared.collector.Collector.{Collector}

-- ---- one byte more

pushed-begun : (c : Collector) (b : ℕ) → length c.bytes ≡ 80 → begun_of (pushed c b) ≡ longer (begun_of c) b
unfolding pushed longer
pushed-begun c b full = go (lt? c.len 80)
  where
    go : {t : Bool} → Lt? c.len 80 t → begun_of (cond t (storing c b) (overrun c)) ≡ longer (begun_of c) b
    go (lt h) =
        let n : length (take c.len c.bytes) ≡ c.len = length-take-le c.len c.bytes (omega arith) in
        rw (add-one c.len, take-suc-set c.bytes c.len b (omega arith), lt-ltb (length (take c.len c.bytes)) 80 (omega arith))
    go (ge h) =
        let n : length (take c.len c.bytes) ≡ 80 = length-take c.len c.bytes ∙ omega arith in
        rw (le-ltb (length (take c.len c.bytes)) 80 (omega arith))

pub pushed-is : (c : Collector) (b : ℕ) {r : Collector} → length c.bytes ≡ 80 → r ≡ pushed c b → Pushed c b r
pushed-is c b full e = record { exact = e; means = ap begun_of e ∙ pushed-begun c b full }

pub pushed_room : (c : Collector) (b : ℕ) → c.len < 80 → storing c b ≡ pushed c b
unfolding pushed
pushed_room c b h = rw (lt-ltb c.len 80 h)

pub pushed-full : (c : Collector) (b : ℕ) → 80 ≤ c.len → overrun c ≡ pushed c b
unfolding pushed
pushed-full c b h = rw (le-ltb c.len 80 h)

-- ---- the line

pub begun-long : (c : Collector) → c.long ≡ true → None ≡ shown (command_in (begun_of c))
unfolding shown command_in
begun-long c h = rw h

pub take-length-take : (n : ℕ) (l : List ℕ) → take (length (take n l)) l ≡ take n l
take-length-take zero l = refl
take-length-take (suc n) [] = refl
take-length-take (suc n) (x ∷ l) = ap (λ (r : List ℕ). x ∷ r) (take-length-take n l)

pub begun-short : (c : Collector) {n : ℕ} → c.long ≡ false → n ≡ length (begun_of c).bytes → shown (command (take n c.bytes)) ≡ shown (command_in (begun_of c))
unfolding command_in
begun-short c h e = rw (h, e, take-length-take c.len c.bytes)
