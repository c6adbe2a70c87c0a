-- Laws of numbers as text, for the crates above: which bytes digits are, how many a number has, and what they are read as.
use Rattle.std.proofs.Common.{◌≡◌, ℕ, zero, suc, ◌+◌, ◌*◌, ◌/◌, ◌%◌, ◌^◌, ◌<◌, ◌≤◌, ◌==◌, Bool, true, false, cond, nat_lt, List, [], ◌∷◌, length, decimal, refl, sym, ap, ◌∙◌, subst, arith, mod-lt}
use Rattle.std.specs.Prelude.{ℤ, pos, int_lt, unsigned_abs}
use Rattle.std.specs.List.{list_all}
use Rattle.std.specs.Char.{digit_value, is_ascii_digit, is_ascii_hexdigit}
use Rattle.std.specs.Str.Parse.{AllDigits, digits_value, digits_value_after}
use Rattle.std.specs.Fmt.{digits, digits_onto, digit_glyph}
use Rattle.std.proofs.Math.Arith.{mod-mul}
use Rattle.std.proofs.Math.Nat.{mod-eq_of_lt, pow-succ'}
use Rattle.std.proofs.lemmas.Bool.{and_from, cond_both, ltb-true}
use Rattle.std.proofs.lemmas.Bool.Decides.{nat_tests}
use Rattle.std.proofs.lemmas.Fmt.{decimal_is_IsNumeral, length-decimal-le}
use Rattle.std.proofs.lemmas.Str.{digit_value-digit_char}
use Rattle.std.proofs.lemmas.Str.Parse.{digit_from_value}
use Rattle.mw_digits.specs.Digits.{digits_of, hex, hex_digit, short_hex, signed_decimal}

-- a digit in lower case is a hexadecimal digit
digit-hexadecimal : (d : ℕ) → d < 16 → is_ascii_hexdigit (hex_digit d) ≡ true
digit-hexadecimal d small = grind (arith, nat_tests)

-- the bytes of a number's hexadecimal digits are hexadecimal digits
pub hex-hexadecimal : (k n : ℕ) → list_all is_ascii_hexdigit (hex k n) ≡ true
unfolding hex
hex-hexadecimal zero n = refl
hex-hexadecimal (suc k) n =
    let d = n / 16 ^ k % 16 in
    let small : d < 16 = mod-lt (n / 16 ^ k) (omega arith) in
    and_from (is_ascii_hexdigit (hex_digit d)) (list_all is_ascii_hexdigit (hex k n)) (digit-hexadecimal d small) (hex-hexadecimal k n)

-- so many hexadecimal digits are so many bytes
pub length-hex : (k n : ℕ) → length (hex k n) ≡ k
unfolding hex
length-hex zero n = refl
length-hex (suc k) n = ap (λ (size : ℕ). suc size) (length-hex k n)

-- a power of 16 isn't 0
positive : (k : ℕ) → 0 < 16 ^ k
positive zero = omega arith
positive (suc k) =
    let power = pow-succ' 16 k in
    let before = positive k in
    omega arith

-- one digit more in front
one_more : (m d power low : ℕ) → (m * 16 + d) * power + low ≡ m * (16 * power) + (d * power + low)
one_more m d power low = omega arith

-- the number that hexadecimal digits behind others are read as
value_after-hex : (k n m : ℕ) → digits_value_after 16 m (hex k n) ≡ m * 16 ^ k + n % 16 ^ k
unfolding hex
value_after-hex zero n m = omega arith
value_after-hex (suc k) n m =
    let d = n / 16 ^ k % 16 in
    let small : d < 16 = mod-lt (n / 16 ^ k) (omega arith) in
    let digit : digit_value (hex_digit d) ≡ d = digit_value-digit_char d (omega arith) in
    let power : 16 ^ suc k ≡ 16 * 16 ^ k = pow-succ' 16 k in
    let rest : n % 16 ^ suc k ≡ d * 16 ^ k + n % 16 ^ k = ap (λ p. n % p) power ∙ mod-mul n {m = 16} {c = 16 ^ k} (omega arith) (positive k) in
    ap (λ v. digits_value_after 16 (m * 16 + v) (hex k n)) digit
    ∙ value_after-hex k n (m * 16 + d)
    ∙ one_more m d (16 ^ k) (n % 16 ^ k)
    ∙ ap (λ p. m * p + (d * 16 ^ k + n % 16 ^ k)) (sym power)
    ∙ ap (λ r. m * 16 ^ suc k + r) (sym rest)

-- the number that hexadecimal digits are read as
pub value-hex : (k n : ℕ) → n < 16 ^ k → digits_value 16 (hex k n) ≡ n
value-hex k n fits =
    let after = value_after-hex k n 0 in
    let small : n % 16 ^ k ≡ n = mod-eq_of_lt fits in
    let none : 0 * 16 ^ k + n % 16 ^ k ≡ n % 16 ^ k = omega arith in
    after ∙ none ∙ small

-- a number fits as many hexadecimal digits as it has
pub digits_of-fits : (k n : ℕ) → n < 16 ^ (k + 1) → n < 16 ^ digits_of k n
unfolding digits_of
digits_of-fits zero n fits = fits
digits_of-fits (suc k) n fits =
    let next : suc k ≡ k + 1 = omega arith in
    cond_both (nat_lt n (16 ^ suc k)) (digits_of k n) (suc k + 1) (λ (j : ℕ). n < 16 ^ j)
    (λ is. digits_of-fits k n (subst (λ (j : ℕ). n < 16 ^ j) next (ltb-true n (16 ^ suc k) is)))
    (λ is. fits)

-- a number has at least one hexadecimal digit
pub digits_of-some : (k n : ℕ) → 0 < digits_of k n
unfolding digits_of
digits_of-some zero n = omega arith
digits_of-some (suc k) n = cond_both (nat_lt n (16 ^ suc k)) (digits_of k n) (suc k + 1) (λ (j : ℕ). 0 < j) (λ is. digits_of-some k n) (λ is. omega arith)

-- a number has at most one hexadecimal digit more than so many
pub digits_of-most : (k n : ℕ) → digits_of k n ≤ k + 1
unfolding digits_of
digits_of-most zero n = omega arith
digits_of-most (suc k) n =
    let others = digits_of-most k n in
    cond_both (nat_lt n (16 ^ suc k)) (digits_of k n) (suc k + 1) (λ (j : ℕ). j ≤ suc k + 1) (λ is. omega arith) (λ is. omega arith)

-- a number without leading zeros has 18 bytes at most
pub short_hex-short : (n : ℕ) → length (short_hex n) ≤ 18
short_hex-short n =
    let long = length-hex (digits_of 15 n) n in
    let most = digits_of-most 15 n in
    omega arith

-- digits of base 10 are decimal digits
digits-ascii : (ds : List ℕ) → AllDigits 10 ds → list_all is_ascii_digit ds ≡ true
digits-ascii [] are = refl
digits-ascii (d ∷ ds) are =
    let range = digit_from_value d are.0 in
    let low : 48 ≤ d = range.0 in
    let high : d ≤ 57 = range.1 in
    and_from (is_ascii_digit d) (list_all is_ascii_digit ds) (grind (arith, nat_tests)) (digits-ascii ds are.1)

-- the bytes of a number's decimal digits are decimal digits
pub decimal-digits : (n : ℕ) → n < 2 ^ 64 → list_all is_ascii_digit (decimal n) ≡ true
decimal-digits n below = digits-ascii (decimal n) (decimal_is_IsNumeral n below).0.1

-- the number that decimal digits are read as
pub value-decimal : (n : ℕ) → n < 2 ^ 64 → digits_value 10 (decimal n) ≡ n
value-decimal n below = (decimal_is_IsNumeral n below).1

-- one of two texts, where each has a byte
either-some : (b : Bool) (byte : ℕ) (bytes others : List ℕ) → 0 < length others → 0 < length (cond b (byte ∷ bytes) others)
either-some b byte bytes others some = cond_both b (byte ∷ bytes) others (λ (text : List ℕ). 0 < length text) (λ is. omega arith) (λ is. some)

-- digits in front of a byte
digits_onto-some : (k n byte : ℕ) (bytes : List ℕ) → 0 < length (digits_onto k 10 false n (byte ∷ bytes))
digits_onto-some zero n byte bytes = omega arith
digits_onto-some (suc k) n byte bytes =
    let d = digit_glyph false (n % 10) in
    either-some (n / 10 == 0) d (byte ∷ bytes) (digits_onto k 10 false (n / 10) (d ∷ byte ∷ bytes)) (digits_onto-some k (n / 10) d (byte ∷ bytes))

-- a decimal number has a digit
pub decimal-some : (n : ℕ) → 0 < length (decimal n)
unfolding digits
decimal-some n =
    let d = digit_glyph false (n % 10) in
    either-some (n / 10 == 0) d [] (digits_onto 63 10 false (n / 10) (d ∷ [])) (digits_onto-some 63 (n / 10) d [])

-- a number of 64 bits has at most 20 decimal digits
pub decimal-short : (n : ℕ) → n < 2 ^ 64 → length (decimal n) ≤ 20
decimal-short n below = length-decimal-le 20 n (omega arith) (omega arith) below

-- a number with a sign has a byte
pub signed-some : (z : ℤ) → 0 < length (signed_decimal z)
signed-some z = either-some (int_lt z (pos 0)) 45 (decimal (unsigned_abs z)) (decimal (unsigned_abs z)) (decimal-some (unsigned_abs z))
