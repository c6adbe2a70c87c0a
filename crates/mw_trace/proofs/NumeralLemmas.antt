-- Hexadecimal and decimal digits are above the blank, as the words that are given.
use Rattle.std.proofs.Common.{◌≡◌, ℕ, ◌^◌, ◌<◌, nat_lt, Bool, true, List, [], ◌∷◌, decimal, arith}
use Rattle.std.specs.List.{list_all}
use Rattle.std.specs.Char.{is_ascii_digit, is_ascii_hexdigit}
use Rattle.std.proofs.lemmas.Bool.{and_parts, ltb-true}
use Rattle.std.proofs.lemmas.Bool.Decides.{nat_tests}
use Rattle.mw_digits.specs.Digits.{hex}
use Rattle.mw_digits.proofs.DigitLaws.{hex-hexadecimal, decimal-digits}
use Rattle.mw_trace.proofs.PieceLemmas.{AreAbove}

-- what passes a test is above the blank, where each byte that passes it is
above-passing : (p : ℕ → Bool) (text : List ℕ) → ((byte : ℕ) → p byte ≡ true → 32 < byte) → list_all p text ≡ true → AreAbove 32 text
above-passing p [] high all = tt
above-passing p (byte ∷ text) high all =
    let parts = and_parts (p byte) (list_all p text) all in
    (high byte parts.0, above-passing p text high parts.1)

-- a word that is given
pub above-word : (word : List ℕ) → list_all (nat_lt 32) word ≡ true → AreAbove 32 word
above-word word all = above-passing (nat_lt 32) word (λ byte is. ltb-true 32 byte is) all

above-digit : (byte : ℕ) → is_ascii_digit byte ≡ true → 32 < byte
above-digit byte is = grind (arith, nat_tests)

above-hexdigit : (byte : ℕ) → is_ascii_hexdigit byte ≡ true → 32 < byte
above-hexdigit byte is = grind (arith, nat_tests)

-- hexadecimal digits
pub above-hex : (k n : ℕ) → AreAbove 32 (hex k n)
above-hex k n = above-passing is_ascii_hexdigit (hex k n) above-hexdigit (hex-hexadecimal k n)

-- a decimal numeral
pub above-decimal : (n : ℕ) → n < 2 ^ 64 → AreAbove 32 (decimal n)
above-decimal n fits = above-passing is_ascii_digit (decimal n) above-digit (decimal-digits n fits)
