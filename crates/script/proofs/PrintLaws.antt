-- Laws of decimal numbers: a digit alone, and what stands before the last digit.
use mathlib.Core.Bool.{Bool, true, cond, or-true}
use mathlib.Core.List.{List, [], ◌∷◌, ◌++◌}
use mathlib.Core.Path.{◌≡◌, refl, ap, ◌∙◌}
use Prim.Native.Nat.{ℕ, zero, suc, ◌+◌, ◌-◌, ◌*◌, ◌/◌, ◌%◌, ◌^◌, ◌<◌, ◌≤◌}
use native.Mathlib.Omega.{arith}
use lib.Dec.{eqb}
use lib.ListN.{length, get_or, length-append, get_or-append}
use borrow.Author.Tests.{lt-ltb, le-ltb, ne_eqb}
use Rattle.std.specs.Fmt as std
use Rattle.std.proofs.lemmas.Fmt.{AppendsLastDigit, decimal_from_appends, length-decimal-le_succ}
use Rattle.rules.specs.Maps.{all}
use Rattle.rules.proofs.MapsLaws.{Lt?, lt, ge, lt?, and_intro, is-between, all_append}
use Rattle.script.specs.Items.{is_digit, is_number, value_from, value}
use Rattle.script.specs.Print.{digits, decimal}

-- steps that are enough come to the same
digits-enough : (m k x : ℕ) → x < m → x < k → digits m x ≡ digits k x
digits-enough zero k x h j = absurd (omega arith)
digits-enough (suc m) zero x h j = absurd (omega arith)
digits-enough (suc m) (suc k) x h j = go (lt? x 10) (λ a b. digits-enough m k (x / 10) a b)
  where
    go : {t : Bool} → Lt? x 10 t → (x / 10 < m → x / 10 < k → digits m (x / 10) ≡ digits k (x / 10))
        → cond t ((48 + x) ∷ []) (digits m (x / 10) ++ ((48 + x % 10) ∷ [])) ≡ cond t ((48 + x) ∷ []) (digits k (x / 10) ++ ((48 + x % 10) ∷ []))
    go (lt a) ih = refl
    go (ge a) ih = ap (λ (l : List ℕ). l ++ ((48 + x % 10) ∷ [])) (ih (omega arith) (omega arith))

pub decimal-one : (x : ℕ) → x < 10 → decimal x ≡ (48 + x) ∷ []
unfolding decimal
decimal-one x h = rw (lt-ltb x 10 h)

pub decimal-more : (x : ℕ) → 10 ≤ x → decimal x ≡ decimal (x / 10) ++ ((48 + x % 10) ∷ [])
unfolding decimal
decimal-more x h =
    rw (le-ltb x 10 h) (ap (λ (l : List ℕ). l ++ ((48 + x % 10) ∷ [])) (digits-enough x (suc (x / 10)) (x / 10) (omega arith) (omega arith)))

pub length-one : (x : ℕ) → x < 10 → length (decimal x) ≡ 1
length-one x h = ap length (decimal-one x h)

pub length_more : (x : ℕ) → 10 ≤ x → length (decimal x) ≡ length (decimal (x / 10)) + 1
length_more x h = ap length (decimal-more x h) ∙ length-append (decimal (x / 10)) ((48 + x % 10) ∷ [])

pub length-decimal : (k x : ℕ) → x < 10 ^ suc k → length (decimal x) ≤ suc k
length-decimal zero x h = omega (arith, length-one x h)
length-decimal (suc k) x h = go (lt? x 10) (length-decimal k (x / 10))
  where
    go : {t : Bool} → Lt? x 10 t → (x / 10 < 10 ^ suc k → length (decimal (x / 10)) ≤ suc k) → length (decimal x) ≤ suc (suc k)
    go (lt a) ih = omega (arith, length-one x a)
    go (ge a) ih = omega (arith, length_more x a, ih (omega arith))

-- these are the digits that std prints
digits-append : AppendsLastDigit digits
digits-append = record {
  one = λ k x h. rw (lt-ltb x 10 h);
  more = λ k x h. rw (le-ltb x 10 h);
}

pub decimal-std : (x : ℕ) → x < 2 ^ 64 → decimal x ≡ std.decimal x
unfolding decimal
decimal-std x h = decimal_from_appends digits digits-append (suc x) x h (omega (arith, length-decimal-le_succ x h))

-- ---- what is printed of x is a number of the language, and says x

decimal-induct : (P : ℕ → List ℕ → Type 0) → ((x : ℕ) → x < 10 → P x ((48 + x) ∷ []))
    → ((x : ℕ) → 10 ≤ x → P (x / 10) (decimal (x / 10)) → P x (decimal (x / 10) ++ ((48 + x % 10) ∷ [])))
    → (x : ℕ) → P x (decimal x)
decimal-induct P one more x = up (suc x) x (omega arith)
  where
    step : (y : ℕ) → (10 ≤ y → P (y / 10) (decimal (y / 10))) → P y (decimal y)
    step y f = go (lt? y 10)
      where
        go : {t : Bool} → Lt? y 10 t → P y (decimal y)
        go (lt h) = rw (decimal-one y h) (one y h)
        go (ge h) = rw (decimal-more y h) (more y h (f h))

    up : (m y : ℕ) → y < m → P y (decimal y)
    up zero y h = absurd (omega arith)
    up (suc m) y h = step y (λ g. up m (y / 10) (omega arith))

pub record Says (x : ℕ) (l : List ℕ) : Type 0 where
  pub value-is : value l ≡ x
  pub digits_are : all is_digit l ≡ true
  pub some : 0 < length l
  pub no_zero : 0 < x → 48 < get_or l 0 0

value_from-snoc : (l : List ℕ) (v b : ℕ) → value_from v (l ++ (b ∷ [])) ≡ value_from v l * 10 + (b - 48)
value_from-snoc [] v b = refl
value_from-snoc (a ∷ l) v b = value_from-snoc l (v * 10 + (a - 48)) b

decimal-says : (x : ℕ) → Says x (decimal x)
decimal-says = decimal-induct Says one more
  where
    one : (x : ℕ) → x < 10 → Says x ((48 + x) ∷ [])
    one x h = record {
      value-is = omega arith;
      digits_are = and_intro (is_digit (48 + x)) true (is-between 48 57 (48 + x) (omega arith) (omega arith)) refl;
      some = omega arith;
      no_zero = λ p. omega arith;
    }

    more : (x : ℕ) → 10 ≤ x → Says (x / 10) (decimal (x / 10)) → Says x (decimal (x / 10) ++ ((48 + x % 10) ∷ []))
    more x h w =
        let d : List ℕ = (48 + x % 10) ∷ [] in
        record {
          value-is = value_from-snoc (decimal (x / 10)) 0 (48 + x % 10) ∙ omega (arith, w.value-is);
          digits_are = all_append is_digit (decimal (x / 10)) d ∙ rw (w.digits_are, is-between 48 57 (48 + x % 10) (omega arith) (omega arith));
          some = omega (arith, w.some, length-append (decimal (x / 10)) d);
          no_zero = λ p. rw (get_or-append (decimal (x / 10)) d 0 0 w.some) (w.no_zero (omega arith));
        }

pub decimal-value : (x : ℕ) → value (decimal x) ≡ x
decimal-value x = (decimal-says x).value-is

pub decimal-number : (x : ℕ) → is_number (decimal x) ≡ true
unfolding is_number
decimal-number x = go (lt? x 10)
  where
    w : Says x (decimal x)
    w = decimal-says x

    go : {t : Bool} → Lt? x 10 t → is_number (decimal x) ≡ true
    go (lt h) = rw (decimal-one x h, is-between 48 57 (48 + x) (omega arith) (omega arith))
    go (ge h) =
        let lead : 48 < get_or (decimal x) 0 0 = w.no_zero (omega arith) in
        rw (
          lt-ltb 0 (length (decimal x)) w.some,
          w.digits_are,
          ne_eqb (get_or (decimal x) 0 0) 48 (λ e. omega arith),
          or-true (eqb (length (decimal x)) 1),
        )
