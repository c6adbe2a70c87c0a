-- Numbers as text: in hexadecimal digits, so many or as many as there are, and in decimal ones.
use Rattle.std.specs.Prelude.{ℕ, zero, suc, ◌+◌, ◌/◌, ◌%◌, ◌^◌, nat_lt, if◌then◌else◌, List, [], ◌∷◌, ◌++◌, ℤ, pos, int_lt, unsigned_abs, codes, decimal}

-- a hexadecimal digit, in lower case
abbrev pub hex_digit : ℕ → ℕ
hex_digit n = if nat_lt n 10 then 48 + n else 87 + n

-- the lowest so many hexadecimal digits of a number, the highest of them first
unfoldable pub hex : ℕ → ℕ → List ℕ
hex zero n = []
hex (suc k) n = hex_digit (n / 16 ^ k % 16) ∷ hex k n

-- how many hexadecimal digits a number has: one at least, and at most one more than so many
unfoldable pub digits_of : ℕ → ℕ → ℕ
digits_of zero n = 1
digits_of (suc k) n = if nat_lt n (16 ^ suc k) then digits_of k n else suc k + 1

-- a number of 64 bits in hexadecimal digits behind `0x`, without leading zeros
abbrev pub short_hex : ℕ → List ℕ
short_hex n = codes "0x" ++ hex (digits_of 15 n) n

-- a number in decimal digits, with its sign where it is negative
abbrev pub signed_decimal : ℤ → List ℕ
signed_decimal z = if int_lt z (pos 0) then 45 ∷ decimal (unsigned_abs z) else decimal (unsigned_abs z)
