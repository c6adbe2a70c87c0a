-- Counts of ones and zeros, and parities (Book I, fixed-point logical instructions).
use Rattle.std.specs.Prelude.{ℕ, ◌+◌, ◌-◌, ◌*◌, ◌/◌, ◌%◌, ◌^◌, bit_and, count_ones}
use Rattle.std.specs.Int.{w64, bit_at, leading_zeros, trailing_zeros}
use Rattle.mw_alu.specs.Places.{sum_below, byte_at, ones_below}

-- the ones of the mask that stand to the left of the first place, from the left, in which s has a one too: where s has
-- zeros in all places of the mask, all its ones (cntlzdm)
abbrev pub cntlzdm_of : ℕ → ℕ → ℕ
cntlzdm_of s mask = count_ones (mask / 2 ^ (64 - leading_zeros w64 (bit_and s mask)))

-- the ones of the mask that stand to the right of the first place, from the right, in which s has a one too (cnttzdm)
abbrev pub cnttzdm_of : ℕ → ℕ → ℕ
cnttzdm_of s mask = ones_below (trailing_zeros w64 (bit_and s mask)) mask

-- the number of ones in a byte, in that byte's place
abbrev pub popcntb_part : ℕ → ℕ → ℕ
popcntb_part s place = count_ones (byte_at s place) * 2 ^ (8 * place)

-- the number of ones in each byte (popcntb)
abbrev pub popcntb_of : ℕ → ℕ
popcntb_of s = sum_below 8 (popcntb_part s)

-- the number of ones in each word (popcntw)
abbrev pub popcntw_of : ℕ → ℕ
popcntw_of s = count_ones (s / 2 ^ 32) * 2 ^ 32 + count_ones (s % 2 ^ 32)

-- the last bit of the byte at a place
abbrev pub last_bit : ℕ → ℕ → ℕ
last_bit s place = bit_at s (8 * place)

-- the exclusive or of the last bits of so many bytes, from the right
abbrev pub parity_of : ℕ → ℕ → ℕ
parity_of bytes s = sum_below bytes (last_bit s) % 2

-- the parity of each word (prtyw)
abbrev pub prtyw_of : ℕ → ℕ
prtyw_of s = parity_of 4 (s / 2 ^ 32) * 2 ^ 32 + parity_of 4 s
