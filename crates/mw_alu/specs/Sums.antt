-- Sums of three numbers, with their carries and overflows (Book I, fixed-point arithmetic instructions).
use Rattle.std.specs.Prelude.{ℕ, ◌+◌, ◌%◌, ◌^◌, Bool, false, not, ◌&&◌, nat_le, int_le, ℤ, pos, negsuc, ◌+ℤ◌}
use Rattle.std.specs.Int.{w32, w64, cast_signed}
use Rattle.mw_alu.specs.declared.op.AluOut.{AluOut}

-- the carry out of 64 bits of a sum of three numbers (CA)
abbrev pub carries : ℕ → ℕ → ℕ → Bool
carries x y k = nat_le (2 ^ 64) (x + y + k)

-- the carry out of 32 bits of the sum of their low words (CA32)
abbrev pub carries_word : ℕ → ℕ → ℕ → Bool
carries_word x y k = nat_le (2 ^ 32) (x % 2 ^ 32 + y % 2 ^ 32 + k)

-- a signed number doesn't lie between these two
abbrev pub is_outside : ℤ → ℤ → ℤ → Bool
is_outside low high z = not (int_le low z && int_le z high)

-- the sum of the signed numbers doesn't fit 64 bits (OV)
abbrev pub overflows : ℕ → ℕ → ℕ → Bool
overflows x y k = is_outside (negsuc 0x7FFF_FFFF_FFFF_FFFF) (pos 0x7FFF_FFFF_FFFF_FFFF) (cast_signed w64 x +ℤ cast_signed w64 y +ℤ pos k)

-- the sum of the signed low words doesn't fit 32 bits (OV32)
abbrev pub overflows_word : ℕ → ℕ → ℕ → Bool
overflows_word x y k = is_outside (negsuc 0x7FFF_FFFF) (pos 0x7FFF_FFFF) (cast_signed w32 (x % 2 ^ 32) +ℤ cast_signed w32 (y % 2 ^ 32) +ℤ pos k)

-- a sum of three numbers in 64 bits, with its carries and overflows
abbrev pub sum_of : ℕ → ℕ → ℕ → AluOut
sum_of x y k = record { value = (x + y + k) % 2 ^ 64; ca = carries x y k; ca32 = carries_word x y k; ov = overflows x y k; ov32 = overflows_word x y k }

-- a sum of three numbers where OV is the carry: its carries stand in ov and ov32
abbrev pub sum_by_ov : ℕ → ℕ → ℕ → AluOut
sum_by_ov x y k = record { value = (x + y + k) % 2 ^ 64; ca = false; ca32 = false; ov = carries x y k; ov32 = carries_word x y k }
