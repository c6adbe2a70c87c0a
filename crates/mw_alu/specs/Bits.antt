-- Results that are no sums: rotated, inserted and shifted numbers (Book I, fixed-point rotate and shift instructions).
use Rattle.std.specs.Prelude.{ℕ, ◌+◌, ◌*◌, ◌%◌, ◌^◌, Bool, false, ◌&&◌, nat_le, nat_lt, bit_and, bit_or}
use Rattle.std.specs.Int.{w32, w64, bit_not, cast_signed, cast_unsigned, int_shr}
use Rattle.mw_bits.specs.Fields.{rotl_of}
use Rattle.mw_alu.specs.declared.op.AluOut.{AluOut}

-- a result without carry or overflow
abbrev pub valued : ℕ → AluOut
valued value = record { value = value; ca = false; ca32 = false; ov = false; ov32 = false }

-- the low word, doubled, rotated to the left by n places (ROTL32)
abbrev pub rotl32_of : ℕ → ℕ → ℕ
rotl32_of x n = rotl_of (x % 2 ^ 32 * 2 ^ 32 + x % 2 ^ 32) n

-- the bits of x where the mask has ones, and those of y elsewhere
abbrev pub inserted_of : ℕ → ℕ → ℕ → ℕ
inserted_of x mask y = bit_or (bit_and x mask) (bit_and y (bit_not w64 mask))

-- a number with this sign bit is negative, and a shift to the right by n places takes a 1 away (CA and CA32)
abbrev pub loses_ones : ℕ → ℕ → ℕ → Bool
loses_ones sign x n = nat_le sign x && nat_lt 0 (x % 2 ^ n)

-- a result with one carry for CA and CA32
abbrev pub carried : ℕ → Bool → AluOut
carried value carry = record { value = value; ca = carry; ca32 = carry; ov = false; ov32 = false }

-- the signed number shifted right by n places, rounded down, so that from 64 places on it is all signs
abbrev pub signed_right : ℕ → ℕ → AluOut
signed_right x n = carried (cast_unsigned w64 (int_shr (cast_signed w64 x) n)) (loses_ones (2 ^ 63) x n)

-- the signed low word shifted right by n places, rounded down, so that from 32 places on it is all signs
abbrev pub signed_right_word : ℕ → ℕ → AluOut
signed_right_word x n = carried (cast_unsigned w64 (int_shr (cast_signed w32 (x % 2 ^ 32)) n)) (loses_ones (2 ^ 31) (x % 2 ^ 32) n)
