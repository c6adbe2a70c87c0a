-- Numbers of 128 bits by their halves.
use Rattle.std.specs.Prelude.{ℕ, ◌+◌, ◌*◌, ◌/◌, ◌%◌, ◌^◌}
use Rattle.mw_muldiv.specs.declared.numbers.Wide128.{Wide128}

-- the number that two halves make
abbrev pub number_of : Wide128 → ℕ
number_of wide = wide.high * 2 ^ 64 + wide.low

-- the two halves of a number below 2^128
abbrev pub halves_of : ℕ → Wide128
halves_of n = record { high = n / 2 ^ 64; low = n % 2 ^ 64 }
