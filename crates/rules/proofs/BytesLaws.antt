-- Numbers and their bytes undo each other, at any width; so do lists of numbers of one width, of any length.
use mathlib.Core.Path.{◌≡◌, refl, ap, sym, ◌∙◌, subst}
use mathlib.Core.List.{List, [], ◌∷◌, ◌++◌, append_assoc}
use Prim.Native.Nat.{ℕ, zero, suc, ◌+◌, ◌*◌, ◌/◌, ◌%◌, ◌^◌, ◌≤◌, ◌<◌}
use native.Mathlib.Nat.{one-le-pow, pow-succ', suc-mul, mul-suc, mul-zero, mul_assoc, add-mul, add-zero, mul-le-mul_right, mod-lt, mod-eq_of_lt, div-one, div-eq_of_lt, div-add-mod', div-lt_iff_lt-mul, mul-add-div_right, mul-add-mod_self_right}
use native.Mathlib.Omega.{arith}
use lib.ListN.{length, get_or, take, drop, length-append, length-drop}
use lib.Pow.{pow-add}
use lib.Seq.{length-take-le, take_at, drop_at, drop-drop, take-add}
use Rattle.rules.specs.Bytes.{bytes, number, all_bytes, all_numbers}
use Rattle.rules.specs.Lawful.{Each, nil, cons, Bytes}

-- ---- each of a list

module _ {P : ℕ → Type 0} where
  pub each-head : {x : ℕ} {l : List ℕ} → Each P (x ∷ l) → P x
  each-head (cons p e) = p

  pub each_tail : {x : ℕ} {l : List ℕ} → Each P (x ∷ l) → Each P l
  each_tail (cons p e) = e

  pub each-++ : {l r : List ℕ} → Each P l → Each P r → Each P (l ++ r)
  each-++ nil f = f
  each-++ (cons p e) f = cons p (each-++ e f)

  pub each_take : (n : ℕ) {l : List ℕ} → Each P l → Each P (take n l)
  each_take zero e = nil
  each_take (suc n) nil = nil
  each_take (suc n) (cons p e) = cons p (each_take n e)

  pub each-drop : (n : ℕ) {l : List ℕ} → Each P l → Each P (drop n l)
  each-drop zero e = e
  each-drop (suc n) nil = nil
  each-drop (suc n) (cons p e) = each-drop n e

pub each_at : {P : ℕ → Type 0} {l : List ℕ} → Each P l → (i : ℕ) → i < length l → P (get_or l i 0)
each_at nil i h = absurd (omega arith)
each_at (cons p e) zero h = p
each_at (cons p e) (suc i) h = each_at e i (omega arith)

pub each-intro : (P : ℕ → Type 0) (l : List ℕ) → ((i : ℕ) → i < length l → P (get_or l i 0)) → Each P l
each-intro P [] f = nil
each-intro P (x ∷ l) f = cons (f 0 (omega arith)) (each-intro P l (λ i h. f (suc i) (omega arith)))

pub each_map : {P Q : ℕ → Type 0} → ((x : ℕ) → P x → Q x) → {l : List ℕ} → Each P l → Each Q l
each_map f nil = nil
each_map f (cons {x = x} p e) = cons (f x p) (each_map f e)

-- ---- one number

positive : (w : ℕ) → 0 < 256 ^ w
positive w = one-le-pow w 256 (omega arith)

pub length-bytes : (w x : ℕ) → length (bytes w x) ≡ w
length-bytes zero x = refl
length-bytes (suc w) x = ap suc (length-bytes w (x % 256 ^ w))

pub each-bytes : (w x : ℕ) → x < 256 ^ w → Bytes (bytes w x)
each-bytes zero x h = nil
each-bytes (suc w) x h =
    cons ((div-lt_iff_lt-mul (positive w)).1 (rw pow-succ' at h))
    (each-bytes w (x % 256 ^ w) (mod-lt x (positive w)))

pub number-bytes : (w x : ℕ) → x < 256 ^ w → number (bytes w x) ≡ x
number-bytes zero x h = omega arith
number-bytes (suc w) x h =
    rw (length-bytes w (x % 256 ^ w), number-bytes w (x % 256 ^ w) (mod-lt x (positive w))) (div-add-mod' x (256 ^ w))

pub number-< : (l : List ℕ) → Bytes l → number l < 256 ^ length l
number-< [] e = omega arith
number-< (b ∷ l) e =
    let p = 256 ^ length l in
    let low : number l < p = number-< l (each_tail e) in
    let high : suc b * p ≤ 256 * p = mul-le-mul_right p (each-head e) in
    omega (arith, pow-succ' 256 (length l), suc-mul b p)

pub bytes-number : (l : List ℕ) → Bytes l → bytes (length l) (number l) ≡ l
bytes-number [] e = refl
bytes-number (b ∷ l) e =
    let p = 256 ^ length l in
    let less : number l < p = number-< l (each_tail e) in
    let high : (b * p + number l) / p ≡ b = mul-add-div_right (positive (length l)) b (number l) ∙ ap (λ k. b + k) (div-eq_of_lt less) ∙ add-zero b in
    let low : (b * p + number l) % p ≡ number l = mul-add-mod_self_right b p (number l) ∙ mod-eq_of_lt less in
    rw (high, low, bytes-number l (each_tail e))

pub number-++ : (l r : List ℕ) → number (l ++ r) ≡ number l * 256 ^ length r + number r
number-++ [] r = omega arith
number-++ (b ∷ l) r =
    let p = 256 ^ length l in
    let q = 256 ^ length r in
    let power : 256 ^ length (l ++ r) ≡ p * q = ap (λ n. 256 ^ n) (length-append l r) ∙ pow-add 256 (length l) (length r) in
    rw (power, number-++ l r) (omega (arith, mul_assoc b p q, add-mul (b * p) (number l) q))

-- the last byte apart
pub bytes-suc : (w x : ℕ) → x < 256 ^ suc w → bytes (suc w) x ≡ bytes w (x / 256) ++ (x % 256 ∷ [])
bytes-suc w x h =
    let l = bytes w (x / 256) ++ (x % 256 ∷ []) in
    let front : x / 256 < 256 ^ w = omega (arith, pow-succ' 256 w) in
    let count : length l ≡ suc w = omega (arith, length-append (bytes w (x / 256)) (x % 256 ∷ []), length-bytes w (x / 256)) in
    let value : number l ≡ x =
    number-++ (bytes w (x / 256)) (x % 256 ∷ []) ∙ omega (arith, number-bytes w (x / 256) front) in
    let each : Bytes l = each-++ (each-bytes w (x / 256) front) (cons (omega arith) nil) in
    subst (λ v. bytes (suc w) v ≡ l) value (subst (λ n. bytes n (number l) ≡ l) count (bytes-number l each))

-- ---- numbers one after the other

pub length-all_bytes : (w : ℕ) (xs : List ℕ) → length (all_bytes w xs) ≡ w * length xs
length-all_bytes w [] = sym (mul-zero w)
length-all_bytes w (x ∷ xs) = simp (length-append, length-bytes, length-all_bytes w xs) (omega (arith, mul-suc w (length xs)))

-- numbers of one byte are the bytes
pub all_bytes-one : (l : List ℕ) → all_bytes 1 l ≡ l
all_bytes-one [] = refl
all_bytes-one (x ∷ l) = rw (div-one x, all_bytes-one l)

pub each-all_bytes : (w : ℕ) (xs : List ℕ) → Each (λ x. x < 256 ^ w) xs → Bytes (all_bytes w xs)
each-all_bytes w [] e = nil
each-all_bytes w (x ∷ xs) e =
    each-++ (each-bytes w x (each-head e)) (each-all_bytes w xs (each_tail e))

pub length-all_numbers : (w n : ℕ) (l : List ℕ) → length (all_numbers w n l) ≡ n
length-all_numbers w zero l = refl
length-all_numbers w (suc n) l = ap suc (length-all_numbers w n (drop w l))

pub all_numbers-suc : (w n : ℕ) (l : List ℕ) → all_numbers w (suc n) l ≡ all_numbers w n l ++ (number (take w (drop (w * n) l)) ∷ [])
all_numbers-suc w zero l = rw mul-zero
all_numbers-suc w (suc n) l =
    let place : w + w * n ≡ w * suc n = omega (arith, mul-suc w n) in
    rw (all_numbers-suc w n (drop w l), drop-drop (w * n) w l, place)

pub all_numbers-one : (l : List ℕ) → all_numbers 1 (length l) l ≡ l
all_numbers-one [] = refl
all_numbers-one (x ∷ l) =
    let byte : x * 1 + 0 ≡ x = omega arith in
    rw (byte, all_numbers-one l)

-- whatever follows
pub all_numbers-all_bytes : (w : ℕ) (xs r : List ℕ) → Each (λ x. x < 256 ^ w) xs → all_numbers w (length xs) (all_bytes w xs ++ r) ≡ xs
all_numbers-all_bytes w [] r e = refl
all_numbers-all_bytes w (x ∷ xs) r e =
    rw (
      append_assoc (bytes w x) (all_bytes w xs) r,
      take_at (bytes w x) (all_bytes w xs ++ r) w (length-bytes w x),
      drop_at (bytes w x) (all_bytes w xs ++ r) w (length-bytes w x),
      number-bytes w x (each-head e),
      all_numbers-all_bytes w xs r (each_tail e),
    )

module _ (w : ℕ) where
  pub each-all_numbers : (n : ℕ) (l : List ℕ) → w * n ≤ length l → Bytes l → Each (λ x. x < 256 ^ w) (all_numbers w n l)
  each-all_numbers zero l h e = nil
  each-all_numbers (suc n) l h e =
      let more = mul-suc w n in
      let short : w * n ≤ length (drop w l) = simp length-drop (omega arith) in
      cons (rw (length-take-le w l (omega arith)) at (number-< (take w l) (each_take w e)))
      (each-all_numbers n (drop w l) short (each-drop w e))

  pub all_bytes-all_numbers : (n : ℕ) (l : List ℕ) → w * n ≤ length l → Bytes l → all_bytes w (all_numbers w n l) ≡ take (w * n) l
  all_bytes-all_numbers zero l h e = rw mul-zero
  all_bytes-all_numbers (suc n) l h e =
      let more = mul-suc w n in
      let short : w * n ≤ length (drop w l) = simp length-drop (omega arith) in
      let one : bytes w (number (take w l)) ≡ take w l =
      subst (λ k. bytes k (number (take w l)) ≡ take w l) (length-take-le w l (omega arith)) (bytes-number (take w l) (each_take w e)) in
      let sum : w * suc n ≡ w + w * n = omega arith in
      rw (one, all_bytes-all_numbers n (drop w l) short (each-drop w e), sum, take-add w (w * n) l)
