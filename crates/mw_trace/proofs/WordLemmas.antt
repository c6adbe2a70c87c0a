-- A word is read as the number that writes it.
use Rattle.std.proofs.Common.{◌≡◌, ℕ, ◌^◌, ◌<◌, ◌≤◌, ◌&&◌, nat_lt, Bool, true, false, cond, List, [], ◌∷◌, Option, Some, None, bytes_eq, decimal, refl, sym, ap, ap₂, ◌∙◌, subst, arith}
use Rattle.std.specs.Char.{digit_value, is_ascii_hexdigit}
use Rattle.std.specs.List.{list_all}
use Rattle.std.specs.Str.{IsAscii, IsUtf8}
use Rattle.std.specs.Str.Parse.{AllDigits, IsNumeral, digits_value}
use Rattle.std.proofs.lemmas.Bool.{and_parts, false≢true, ltb-true, lt-ltb}
use Rattle.std.proofs.lemmas.Bool.Decides.{nat_tests}
use Rattle.std.proofs.lemmas.Slice.Eq.{bytes_eq-Decides}
use Rattle.std.proofs.lemmas.Str.{IsUtf8-from_ascii}
use Rattle.std.proofs.lemmas.Str.Ascii.{IsAscii-nil, IsAscii-cons}
use Rattle.std.proofs.lemmas.Fmt.{decimal_is_IsNumeral}
use Rattle.std.proofs.lemmas.Int.Digits.{digits_value-lt}
use Rattle.std.proofs.lemmas.Option.{cond_some}
use Rattle.std.proofs.Math.Nat.{pow-le-pow_right}
use Rattle.mw_digits.specs.Digits.{hex}
use Rattle.mw_digits.proofs.DigitLaws.{hex-hexadecimal, length-hex}
use Rattle.mw_trace.specs.Inside.{number_by, decimal_in, hex_in}

-- a digit of a radix up to 36 is below 128
digit-small : (radix c : ℕ) → radix ≤ 36 → digit_value c < radix → c < 128
digit-small radix c high is = grind (arith, nat_tests)

-- digits are below 128
pub digits-ascii : (radix : ℕ) (word : List ℕ) → radix ≤ 36 → AllDigits radix word → IsAscii word
digits-ascii radix [] high are = IsAscii-nil
digits-ascii radix (c ∷ cs) high are =
    IsAscii-cons c cs (digit-small radix c high are.0) (digits-ascii radix cs high are.1)

-- a numeral is UTF-8
pub unread-numeral : (radix : ℕ) (word : List ℕ) → radix ≤ 36 → IsNumeral radix word → IsUtf8 word
unread-numeral radix word high are = IsUtf8-from_ascii word (digits-ascii radix word high are.1)

-- numbers of 64 bits are written as numerals of a radix, of numbers below a bound
pub record AreNumerals (digits : ℕ → List ℕ) (radix bound : ℕ) : Type 0 where
  pub numeral : (n : ℕ) → n < 2 ^ 64 → IsNumeral radix (digits n)
  pub small : (n : ℕ) → n < 2 ^ 64 → digits_value radix (digits n) < bound
  pub fits : bound ≤ 2 ^ 64

-- what a word with a number's digits is read as
abbrev pub Reads : ℕ → List ℕ → Option ℕ → Type 0
Reads radix word o = IsNumeral radix word → digits_value radix word < 2 ^ 64 → o ≡ Some (digits_value radix word)

-- a word that is written so is read as its number
read_as :
    (digits : ℕ → List ℕ) (radix bound n : ℕ) (word : List ℕ) (o : Option ℕ) → AreNumerals digits radix bound
    → Reads radix word o → n < 2 ^ 64 → bytes_eq (digits n) word ≡ true
    → (digits_value radix word < bound) × (o ≡ Some (digits_value radix word))
read_as digits radix bound n word o are reads fits same =
    let is : digits n ≡ word = (bytes_eq-Decides (digits n) word).0 same in
    let Numeral : List ℕ → Type 0 = λ w. IsNumeral radix w in
    let Small : List ℕ → Type 0 = λ w. digits_value radix w < bound in
    let numeral : IsNumeral radix word = subst Numeral is (are.numeral n fits) in
    let small : digits_value radix word < bound = subst Small is (are.small n fits) in
    let top : bound ≤ 2 ^ 64 = are.fits in
    (small, reads numeral (omega arith))

-- a test of two parts that can't hold leaves no number
none_by : (a b : Bool) (v : ℕ) → (a ≡ true → b ≡ true → ⊥) → cond (a && b) (Some v) None ≡ None
none_by true true v h = absurd (h refl refl)
none_by true false v h = refl
none_by false b v h = refl

-- a word is a number's where it is read as this number and is its digits
pub number-is :
    (digits : ℕ → List ℕ) (radix bound n : ℕ) (word : List ℕ) (o : Option ℕ) → AreNumerals digits radix bound
    → Reads radix word o → n < 2 ^ 64 → o ≡ Some n → bytes_eq (digits n) word ≡ true
    → number_by digits radix bound word ≡ Some n
number-is digits radix bound n word o are reads fits is same =
    let read = read_as digits radix bound n word o are reads fits same in
    let v : digits_value radix word ≡ n = cc (read.1, is) in
    let low : n < bound = subst (λ (k : ℕ). k < bound) v read.0 in
    ap (λ (k : ℕ). cond (bytes_eq (digits k) word && nat_lt k bound) (Some k) None) v
    ∙ ap₂ (λ (a : Bool) (b : Bool). cond (a && b) (Some n) None) same (lt-ltb n bound low)

-- a word that isn't read as a number is none's
pub number-unread :
    (digits : ℕ → List ℕ) (radix bound : ℕ) (word : List ℕ) (o : Option ℕ) → AreNumerals digits radix bound
    → Reads radix word o → o ≡ None → number_by digits radix bound word ≡ None
number-unread digits radix bound word o are reads is =
    let v : ℕ = digits_value radix word in
    none_by (bytes_eq (digits (digits_value radix word)) word) (nat_lt (digits_value radix word) bound)
    (digits_value radix word) (λ same below.
    let low : digits_value radix word < bound = ltb-true _ _ below in
    let top : bound ≤ 2 ^ 64 = are.fits in
    let read = read_as digits radix bound (digits_value radix word) word o are reads (omega arith) same in
    cc (read.1, is))

-- a word that is read as a number, but isn't its digits, is none's
pub number-other :
    (digits : ℕ → List ℕ) (radix bound n : ℕ) (word : List ℕ) (o : Option ℕ) → AreNumerals digits radix bound
    → Reads radix word o → o ≡ Some n → bytes_eq (digits n) word ≡ false → number_by digits radix bound word ≡ None
number-other digits radix bound n word o are reads is other =
    none_by (bytes_eq (digits (digits_value radix word)) word) (nat_lt (digits_value radix word) bound)
    (digits_value radix word) (λ same below.
    let low : digits_value radix word < bound = ltb-true _ _ below in
    let top : bound ≤ 2 ^ 64 = are.fits in
    let read = read_as digits radix bound (digits_value radix word) word o are reads (omega arith) same in
    let v : digits_value radix word ≡ n = cc (read.1, is) in
    false≢true (sym (subst (λ (k : ℕ). bytes_eq (digits k) word ≡ false) (sym v) other) ∙ same))

-- the number of a word is below the bound
pub number-small :
    (digits : ℕ → List ℕ) (radix bound n : ℕ) (word : List ℕ) → number_by digits radix bound word ≡ Some n → n < bound
number-small digits radix bound n word is =
    let parts =
    cond_some (bytes_eq (digits (digits_value radix word)) word && nat_lt (digits_value radix word) bound)
    (digits_value radix word) n is in
    let below = ltb-true (digits_value radix word) bound (and_parts _ _ parts.0).1 in
    subst (λ (k : ℕ). k < bound) parts.1 below

-- decimal digits
pub decimals : AreNumerals decimal 10 (2 ^ 64)
decimals = record {
  numeral = λ n fits. (decimal_is_IsNumeral n fits).0;
  small = λ n fits. subst (λ (k : ℕ). k < 2 ^ 64) (sym (decimal_is_IsNumeral n fits).1) fits;
  fits = omega arith;
}

-- a hexadecimal digit is a digit of radix 16
hexdigit-value : (c : ℕ) → is_ascii_hexdigit c ≡ true → digit_value c < 16
hexdigit-value c is = grind (arith, nat_tests)

pub hexdigits-value : (word : List ℕ) → list_all is_ascii_hexdigit word ≡ true → AllDigits 16 word
hexdigits-value [] all = tt
hexdigits-value (c ∷ cs) all =
    let parts = and_parts (is_ascii_hexdigit c) (list_all is_ascii_hexdigit cs) all in
    (hexdigit-value c parts.0, hexdigits-value cs parts.1)

-- so many hexadecimal digits
pub hexadecimals : (k : ℕ) → 0 < k → k ≤ 16 → AreNumerals (hex k) 16 (16 ^ k)
hexadecimals k some few = record {
  numeral = λ n fits. let long = length-hex k n in (omega arith, hexdigits-value (hex k n) (hex-hexadecimal k n));
  small = λ n fits. subst (λ (size : ℕ). digits_value 16 (hex k n) < 16 ^ size) (length-hex k n)
      (digits_value-lt 16 (hex k n) (hexdigits-value (hex k n) (hex-hexadecimal k n)));
  fits = let most : 16 ^ k ≤ 16 ^ 16 = pow-le-pow_right {n = 16} (omega arith) {i = k} {j = 16} few in most;
}

-- the number that decimal digits write has 64 bits
pub decimal-small : (word : List ℕ) (n : ℕ) → decimal_in word ≡ Some n → n < 2 ^ 64
decimal-small word n is = number-small decimal 10 (2 ^ 64) n word is

-- the number that so many hexadecimal digits write has as many
pub hex-small : (k : ℕ) (word : List ℕ) (n : ℕ) → hex_in k word ≡ Some n → n < 16 ^ k
hex-small k word n is = number-small (hex k) 16 (16 ^ k) n word is
