-- Quotients that take 65 ticks (Book I, fixed-point arithmetic instructions; own: how many ticks, and that there is no
-- quotient where the ISA leaves it undefined).
use Rattle.std.specs.Prelude.{ℕ, ◌^◌, ◌%◌, Bool, ◌&&◌, if◌then◌else◌, ◌==◌, ℤ, pos, negsuc, int_le, int_div, int_rem, unsigned_abs, Option, Some, None}
use Rattle.std.specs.Int.{w32, w64, w128, cast_signed, cast_unsigned}
use Rattle.mw_muldiv.specs.declared.numbers.Wide128.{Wide128}
use Rattle.mw_muldiv.specs.declared.numbers.DivKind.{DivKind}
use Rattle.mw_muldiv.specs.declared.numbers.DivKind.TheVariants.{Signed64, Unsigned64, Signed32, Unsigned32}
use Rattle.mw_muldiv.specs.declared.numbers.DivOut.{DivOut}
use Rattle.mw_muldiv.specs.declared.numbers.DivOut.TheVariants.{Done, NoQuotient}
use Rattle.mw_muldiv.specs.Wide.{number_of}

-- a division under way: what it was started with, and how far it is
pub record Division : Type 0 where
  -- how the numbers are read, and how many bits the results have
  pub kind : DivKind
  -- the dividend
  pub dividend : Wide128
  -- the divisor
  pub divisor : ℕ
  -- how many ticks were done
  pub ticks : ℕ

-- the dividend as a number: all 128 bits, or the low 64 for a kind of 32 bits
abbrev pub dividend_of : DivKind → Wide128 → ℤ
dividend_of Signed64 wide = cast_signed w128 (number_of wide)
dividend_of Unsigned64 wide = pos (number_of wide)
dividend_of Signed32 wide = cast_signed w64 wide.low
dividend_of Unsigned32 wide = pos wide.low

-- the divisor as a number: all 64 bits, or the low 32 for a kind of 32 bits
abbrev pub divisor_of : DivKind → ℕ → ℤ
divisor_of Signed64 n = cast_signed w64 n
divisor_of Unsigned64 n = pos n
divisor_of Signed32 n = cast_signed w32 (n % 2 ^ 32)
divisor_of Unsigned32 n = pos (n % 2 ^ 32)

-- a number lies between these two, or is one of them
abbrev pub lies_in : ℤ → ℤ → ℤ → Bool
lies_in low high z = int_le low z && int_le z high

-- a quotient fits its width and sign
abbrev pub fits : DivKind → ℤ → Bool
fits Signed64 z = lies_in (negsuc 0x7FFF_FFFF_FFFF_FFFF) (pos 0x7FFF_FFFF_FFFF_FFFF) z
fits Unsigned64 z = lies_in (pos 0) (pos 0xFFFF_FFFF_FFFF_FFFF) z
fits Signed32 z = lies_in (negsuc 0x7FFF_FFFF) (pos 0x7FFF_FFFF) z
fits Unsigned32 z = lies_in (pos 0) (pos 0xFFFF_FFFF) z

-- a quotient or a rest in the kind's bits, with zeros above
abbrev pub bits_of : DivKind → ℤ → ℕ
bits_of Signed64 z = cast_unsigned w64 z
bits_of Unsigned64 z = cast_unsigned w64 z
bits_of Signed32 z = cast_unsigned w32 z
bits_of Unsigned32 z = cast_unsigned w32 z

-- a quotient with its rest, if it fits
abbrev pub settled : DivKind → ℤ → ℤ → DivOut
settled kind quotient rest = if fits kind quotient then Done (bits_of kind quotient) (bits_of kind rest) else NoQuotient

-- the quotient of two numbers, truncated toward 0, and the rest, which has the dividend's sign
abbrev pub divided : DivKind → ℤ → ℤ → DivOut
divided kind n d = if unsigned_abs d == 0 then NoQuotient else settled kind (int_div n d) (int_rem n d)

-- what a division comes to
abbrev pub quotient_of : Division → DivOut
quotient_of d = divided d.kind (dividend_of d.kind d.dividend) (divisor_of d.kind d.divisor)

-- what a tick answers: quotient and rest if it is the 65th, else nothing yet
abbrev pub quotient_at : Division → Option DivOut
quotient_at d = if d.ticks == 64 then Some (quotient_of d) else None
