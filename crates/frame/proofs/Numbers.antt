-- Numbers in a slice: one turn of each loop that reads them.
use mathlib.Core.Bool.{Bool, not}
use Rattle.std.specs.List.{list_any}
use Rattle.std.specs.Prelude.{nat_eq}
use mathlib.Core.List.{List, [], ◌∷◌, ◌++◌, append_assoc}
use mathlib.Core.Path.{◌≡◌, refl, sym, ap, subst, ◌∙◌}
use Prim.Native.Nat.{ℕ, zero, suc, ◌+◌, ◌-◌, ◌*◌, ◌/◌, ◌^◌, ◌≤◌, ◌<◌}
use native.Mathlib.Nat.{pow-le-pow_right}
use native.Mathlib.Omega.{arith}
use Rattle.std.proofs.lemmas.List.{get_or-take}
use lib.ListN.{length, get_or, take, drop, set, replicate, length-append, length-take, length-replicate}
use lib.Seq.{take_at, take-suc, get_or-drop, drop-drop, set-append_seam}
use borrow.Author.Tests.{lt-ltb, ne_eqb}
use Rattle.rules.specs.Bytes.{number, all_numbers}
use Rattle.rules.specs.Message.{no_zero}
use Rattle.rules.proofs.BytesLaws.{number-++, length-all_numbers, all_numbers-suc}
use Rattle.frame.specs.Acks.{eight, acks_at}
use Rattle.frame.specs.Frame.{head_at}
use Rattle.std.specs.Prelude.{Some, None, true, false}

-- ---- a number, of whose bytes t the first j are read

pub record Summed (t : List ℕ) (x j : ℕ) : Type 0 where
  pub is : x ≡ number (take j t)
  pub small : x < 256 ^ j

module _ (t : List ℕ) (x j : ℕ) (r : Summed t x j) where
  pub small-yet : length t ≤ 4 → j < length t → x < 16777216
  small-yet h g = omega (arith, r.small, pow-le-pow_right {n = 256} (omega arith) {i = j} {j = 3} (omega arith))

  pub one-summed : (b : ℕ) → j < length t → b ≡ get_or t j 0 → b < 256 → Summed t (x * 256 + b) (j + 1)
  one-summed b h e f =
      let next : j + 1 ≡ suc j = omega arith in
      record {
        is = rw (next, take-suc t j 0 h, number-++) (omega (arith, r.is));
        small = rw next (omega (arith, r.small));
      }

pub part-byte : (s : List ℕ) (p n j : ℕ) → j < length (take n (drop p s)) → (b : ℕ) → b ≡ get_or (take n (drop p s)) j 0
    → ((i : ℕ) → get_or s i 0 < 256) → b < 256
part-byte s p n j h b e bytes =
    let inside : j < n = omega (arith, length-take n (drop p s)) in
    rw (e, get_or-take n (drop p s) j 0 inside, get_or-drop) (bytes (p + j))

-- ---- the eight numbers, i of which are read

pub eight-more : (l : List ℕ) (i x : ℕ) → length l ≡ i → i < 8 → set (eight l) i x ≡ eight (l ++ (x ∷ []))
unfolding eight
eight-more l i x e h =
    let k = 7 - i in
    let before : 8 - length l ≡ suc k = omega arith in
    let after : 8 - length (l ++ (x ∷ [])) ≡ k = omega (arith, length-append l (x ∷ [])) in
    rw (before, after)
    (subst (λ m. set (l ++ replicate (suc k) 0) m x ≡ l ++ (x ∷ replicate k 0)) e (set-append_seam l 0 (replicate k 0) x)
    ∙ sym (append_assoc l (x ∷ []) (replicate k 0)))

pub acks-more : (s : List ℕ) (p i x : ℕ) → i < 8 → x ≡ number (take 4 (drop (p + 4 * i) s))
    → set (eight (all_numbers 4 i (drop p s))) i x ≡ eight (all_numbers 4 (i + 1) (drop p s))
acks-more s p i x h e =
    let next : i + 1 ≡ suc i = omega arith in
    eight-more (all_numbers 4 i (drop p s)) i x (length-all_numbers 4 i (drop p s)) h
    ∙ rw (next, all_numbers-suc 4 i (drop p s), drop-drop (4 * i) p s, e)

-- ---- the test of each number

pub none-is-zero : (l : List ℕ) → not (list_any (λ y. nat_eq y 0) l) ≡ no_zero l
none-is-zero [] = refl
none-is-zero (zero ∷ l) = refl
none-is-zero (suc x ∷ l) = simp (ne_eqb (suc x) 0 (λ e. omega arith), lt-ltb 0 (suc x) (omega arith)) (none-is-zero l)

-- ---- the whole of ACK

pub length-eight : (l : List ℕ) → length l ≤ 8 → length (eight l) ≡ 8
unfolding eight
length-eight l h = length-append l (replicate (8 - length l) 0) ∙ omega (arith, length-replicate {A = ℕ} (8 - length l) 0)

pub take-eight : (l : List ℕ) (n : ℕ) → length l ≡ n → take n (eight l) ≡ l
unfolding eight
take-eight l n e = take_at l (replicate (8 - length l) 0) n e

pub no-head : (s : List ℕ) (p : ℕ) → no_zero (acks_at s p) ≡ false → None ≡ head_at s p
unfolding head_at
no-head s p h = rw h

-- a is the eight at p, the first n being read; `some` is the test of them
module _ (s : List ℕ) (p x : ℕ) (a : List ℕ) (ex : x ≡ number (take 2 (drop p s))) (ea : a ≡ eight (all_numbers 4 (x / 4) (drop (p + 2) s))) where
  count : length (all_numbers 4 (x / 4) (drop (p + 2) s)) ≡ x / 4
  count = length-all_numbers 4 (x / 4) (drop (p + 2) s)

  pub some-zero : (b : Bool) → b ≡ list_any (λ y. nat_eq y 0) (take (x / 4) a) → no_zero (acks_at s p) ≡ not b
  some-zero b eb =
      sym
      (ap not eb
      ∙ none-is-zero (take (x / 4) a)
      ∙ ap (λ l. no_zero (take (x / 4) l)) ea
      ∙ ap no_zero (take-eight _ (x / 4) count)
      ∙ ap (λ n. no_zero (all_numbers 4 (n / 4) (drop (p + 2) s))) ex)

  pub a-head : no_zero (acks_at s p) ≡ true → (cid src : ℕ) → cid ≡ number (take 4 (drop 11 s)) → src ≡ number (take 1 (drop 18 s))
      → Some (record { cid = cid; src = src; n = x / 4; ack = a }) ≡ head_at s p
  unfolding head_at
  a-head h cid src ec es = rw (h, ec, es, ea, ex, length-all_numbers 4 (number (take 2 (drop p s)) / 4) (drop (p + 2) s))
