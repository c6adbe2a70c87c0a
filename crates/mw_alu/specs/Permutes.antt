-- Bytes and bits in other places (Book I, fixed-point logical and byte-reverse instructions).
use Rattle.std.specs.Prelude.{ℕ, ◌+◌, ◌-◌, ◌*◌, ◌/◌, ◌%◌, ◌^◌, if◌then◌else◌, nat_lt, ◌==◌}
use Rattle.std.specs.Int.{w16, w32, w64, bit_at, bit_not, swap_bytes}
use Rattle.mw_alu.specs.Places.{sum_below, byte_at, halfword_at, ones_below}

-- the halfword at a place with its bytes reversed, in that place
abbrev pub brh_part : ℕ → ℕ → ℕ
brh_part s place = swap_bytes w16 (halfword_at s place) * 2 ^ (16 * place)

-- the bytes reversed in each halfword (brh)
abbrev pub brh_of : ℕ → ℕ
brh_of s = sum_below 4 (brh_part s)

-- the bytes reversed in each word (brw)
abbrev pub brw_of : ℕ → ℕ
brw_of s = swap_bytes w32 (s / 2 ^ 32) * 2 ^ 32 + swap_bytes w32 (s % 2 ^ 32)

-- where the mask has a one at this place, the bit of s whose place is the number of the mask's ones below
abbrev pub pdepd_part : ℕ → ℕ → ℕ → ℕ
pdepd_part s mask place = bit_at mask place * bit_at s (ones_below place mask) * 2 ^ place

-- the rightmost bits of s, in order, where the mask has ones, and zeros elsewhere (pdepd)
abbrev pub pdepd_of : ℕ → ℕ → ℕ
pdepd_of s mask = sum_below 64 (pdepd_part s mask)

-- where the mask has a one at this place, the bit of s there, at the place that is the number of the mask's ones below
abbrev pub pextd_part : ℕ → ℕ → ℕ → ℕ
pextd_part s mask place = bit_at mask place * bit_at s place * 2 ^ ones_below place mask

-- the bits of s where the mask has ones, in order, at the right (pextd)
abbrev pub pextd_of : ℕ → ℕ → ℕ
pextd_of s mask = sum_below 64 (pextd_part s mask)

-- the bits of s where the mask has zeros, in order, and to their right the others, in order (cfuged)
abbrev pub cfuged_of : ℕ → ℕ → ℕ
cfuged_of s mask = pextd_of s (bit_not w64 mask) * 2 ^ ones_below 64 mask + pextd_of s mask

-- the bit with this number, where bits are numbered from the left as the ISA does, and 0 where there is none
abbrev pub numbered_bit : ℕ → ℕ → ℕ
numbered_bit x number = if nat_lt number 64 then bit_at x (63 - number) else 0

-- the bit of b whose number the byte of s at this place has, at that place
abbrev pub bpermd_part : ℕ → ℕ → ℕ → ℕ
bpermd_part s b place = numbered_bit b (byte_at s place) * 2 ^ place

-- the eight bits of b whose numbers the bytes of s have, in order, at the right (bpermd)
abbrev pub bpermd_of : ℕ → ℕ → ℕ
bpermd_of s b = sum_below 8 (bpermd_part s b)

-- a byte of ones where the bytes are equal, else of zeros
abbrev pub equality_of : ℕ → ℕ → ℕ
equality_of x y = if x == y then 255 else 0

-- ones in the byte at a place where s and b agree in it
abbrev pub cmpb_part : ℕ → ℕ → ℕ → ℕ
cmpb_part s b place = equality_of (byte_at s place) (byte_at b place) * 2 ^ (8 * place)

-- ones in each byte in which s and b agree, and zeros in the others (cmpb)
abbrev pub cmpb_of : ℕ → ℕ → ℕ
cmpb_of s b = sum_below 8 (cmpb_part s b)
