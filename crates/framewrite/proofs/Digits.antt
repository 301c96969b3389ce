-- Numbers stored as bytes: one turn of each loop that writes them.
use mathlib.Core.List.{List, ◌++◌}
use mathlib.Core.Path.{◌≡◌, refl, sym, ap, ◌∙◌}
use Prim.Native.Nat.{ℕ, zero, suc, ◌+◌, ◌-◌, ◌*◌, ◌/◌, ◌%◌, ◌^◌, ◌≤◌, ◌<◌}
use native.Mathlib.Omega.{arith}
use lib.ListN.{length, get_or, take, drop, length-append}
use lib.Seq.{sets, take_all, drop-cons}
use borrow.Rule.Slice.PartMut.{put_mid}
use Rattle.std.specs.Int.{w32, to_be_bytes}
use Rattle.frame.proofs.Handing.{over-sets}
use Rattle.rules.specs.Bytes.{bytes, all_bytes}
use Rattle.rules.proofs.BytesLaws.{length-bytes, length-all_bytes}
use Rattle.rules.proofs.StoresLaws.{sets-++}

-- ---- a number of w bytes: the last w of its four

low-bytes : (w x : ℕ) → w ≤ 4 → x < 256 ^ w → drop (4 - w) (to_be_bytes w32 x) ≡ bytes w x
low-bytes zero x h l = refl
low-bytes (suc zero) x h l =
    let a : x % 256 ≡ x / 1 = omega arith in
    cc
low-bytes (suc (suc zero)) x h l =
    let a : x / 256 % 256 ≡ x / 256 = omega arith in
    let b : x % 256 ≡ x % 256 / 1 = omega arith in
    cc
low-bytes (suc (suc (suc zero))) x h l =
    let a : x / 65536 % 256 ≡ x / 65536 = omega arith in
    let b : x / 256 % 256 ≡ x % 65536 / 256 = omega arith in
    let c : x % 256 ≡ x % 65536 % 256 / 1 = omega arith in
    cc
low-bytes (suc (suc (suc (suc zero)))) x h l =
    let a : x / 16777216 % 256 ≡ x / 16777216 = omega arith in
    let b : x / 65536 % 256 ≡ x % 16777216 / 65536 = omega arith in
    let c : x / 256 % 256 ≡ x % 16777216 % 65536 / 256 = omega arith in
    let d : x % 256 ≡ x % 16777216 % 65536 % 256 / 1 = omega arith in
    cc
low-bytes (suc (suc (suc (suc (suc w))))) x h l = absurd (omega arith)

pub number-stored : (d : List ℕ) (at w k x : ℕ) (b : List ℕ) → w ≤ 4 → x < 256 ^ w → at + w ≤ length d → k ≡ w → b ≡ take (4 - (4 - w)) (drop (4 - w) (to_be_bytes w32 x))
    → put_mid at k d b ≡ sets d at (bytes w x)
number-stored d at w k x b h l room n e =
    let w-is : 4 - (4 - w) ≡ w = omega arith in
    let b-is : b ≡ bytes w x =
    e ∙ ap (λ r. take (4 - (4 - w)) r) (low-bytes w x h l) ∙ take_all (4 - (4 - w)) (bytes w x) (omega (arith, length-bytes w x)) in
    let as-long : length b ≡ k = ap length b-is ∙ omega (arith, length-bytes w x) in
    over-sets d b at k as-long (omega arith) ∙ ap (sets d at) b-is

-- ---- numbers of w bytes each: i are stored, and `to` is the place of the next

pub record Listed (d₀ : List ℕ) (at w : ℕ) (xs d : List ℕ) (i to : ℕ) : Type 0 where
  pub count : i ≤ length xs
  pub long : length d ≡ length d₀
  pub room : to + length (all_bytes w (drop i xs)) ≤ length d
  pub rest : sets d to (all_bytes w (drop i xs)) ≡ sets d₀ at (all_bytes w xs)

pub none-listed : (d : List ℕ) (at w : ℕ) (xs : List ℕ) → at + w * length xs ≤ length d → Listed d at w xs d 0 at
none-listed d at w xs h = record { count = omega arith; long = refl; room = omega (arith, length-all_bytes w xs); rest = refl }

module _ (d₀ : List ℕ) (at w : ℕ) (xs d : List ℕ) (i to : ℕ) (r : Listed d₀ at w xs d i to) where
  module _ (h : i < length xs) where
    bytes_left : all_bytes w (drop i xs) ≡ bytes w (get_or xs i 0) ++ all_bytes w (drop (i + 1) xs)
    bytes_left =
        let next : i + 1 ≡ suc i = omega arith in
        rw (next, drop-cons xs i 0 h)

    length-left : length (all_bytes w (drop i xs)) ≡ w + length (all_bytes w (drop (i + 1) xs))
    length-left = ap length bytes_left ∙ length-append (bytes w (get_or xs i 0)) (all_bytes w (drop (i + 1) xs)) ∙ rw length-bytes

    pub room-for-one : to + w ≤ length d
    room-for-one = omega (arith, length-left, r.room)

    pub one-listed : (d' : List ℕ) → d' ≡ sets d to (bytes w (get_or xs i 0)) → length d' ≡ length d → Listed d₀ at w xs d' (i + 1) (to + w)
    one-listed d' e k =
        let number = bytes w (get_or xs i 0) in
        let after = all_bytes w (drop (i + 1) xs) in
        record {
          count = omega arith;
          long = k ∙ r.long;
          room = omega (arith, length-left, r.room);
          rest =
              ap (λ l. sets l (to + w) after) e
              ∙ ap (λ n. sets (sets d to number) (to + n) after) (sym (length-bytes w (get_or xs i 0)))
              ∙ sets-++ d to number after
              ∙ ap (sets d to) (sym bytes_left)
              ∙ r.rest;
        }
