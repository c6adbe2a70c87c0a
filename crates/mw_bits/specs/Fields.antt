-- Bit fields, masks and rotations of 64-bit numbers. Bits are numbered from the left, 0 to 63, as the Power ISA does (Book I, instruction fields).
use Rattle.std.specs.Prelude.{ℕ, ◌+◌, ◌-◌, ◌*◌, ◌/◌, ◌%◌, ◌^◌, if◌then◌else◌, nat_lt, nat_le}

-- the bits from first to last, as a number
abbrev pub field_of : ℕ → ℕ → ℕ → ℕ
field_of word first last = word / 2 ^ (63 - last) % 2 ^ (last - first + 1)

-- ones from the bit mb to the bit me and zeros elsewhere; where mb is behind me the ones go round the end (Book I, MASK)
abbrev pub mask_of : ℕ → ℕ → ℕ
mask_of mb me =
    if nat_le mb me then 2 ^ (64 - mb) - 2 ^ (63 - me) else (2 ^ (64 - mb) - 1) + (2 ^ 64 - 2 ^ (63 - me))

-- the 64 bits of a number rotated to the left by n places (Book I, ROTL64)
abbrev pub rotl_of : ℕ → ℕ → ℕ
rotl_of x n = x * 2 ^ n % 2 ^ 64 + x / 2 ^ (64 - n)

-- the low bits of this width, read as a signed number and written in 64 bits (EXTS)
abbrev pub sext_of : ℕ → ℕ → ℕ
sext_of x width =
    if nat_lt (x % 2 ^ width) (2 ^ (width - 1)) then x % 2 ^ width else x % 2 ^ width + (2 ^ 64 - 2 ^ width)

-- the 18 bits d0 and behind them the 16 bits d1, read as a signed number and written in 64 bits (EXTS64 of d0||d1)
abbrev pub exts34_of : ℕ → ℕ → ℕ
exts34_of d0 d1 = sext_of (d0 * 2 ^ 16 + d1) 34
