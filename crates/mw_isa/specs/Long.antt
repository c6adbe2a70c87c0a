-- The numbers that products and quotients begin with, and what they give (Book I, fixed-point arithmetic instructions).
use Rattle.std.specs.Prelude.{ℕ, ◌≡◌, ◌*◌, ◌-◌, ◌/◌, ◌%◌, ◌^◌, Bool, true, false, if◌then◌else◌, ℤ, pos, negsuc, int_lt}
use Rattle.std.specs.Int.{w64, w128, cast_signed}
use Rattle.mw_alu.specs.declared.op.AluOut.{AluOut}
use Rattle.mw_alu.specs.Sums.{is_outside}
use Rattle.mw_bits.specs.Fields.{sext_of}
use Rattle.mw_muldiv.specs.declared.numbers.DivKind.{DivKind}
use Rattle.mw_muldiv.specs.declared.numbers.DivKind.TheVariants.{Signed64, Unsigned64, Signed32, Unsigned32}
use Rattle.mw_muldiv.specs.declared.numbers.DivOut.{DivOut}
use Rattle.mw_muldiv.specs.declared.numbers.DivOut.TheVariants.{Done as Divided, NoQuotient}
use Rattle.mw_muldiv.specs.declared.numbers.MulKind.{MulKind}
use Rattle.mw_muldiv.specs.declared.numbers.MulKind.TheVariants.{Signed, Unsigned}
use Rattle.mw_muldiv.specs.declared.numbers.Wide128.{Wide128}
use Rattle.mw_muldiv.specs.Division.{quotient_of}
use Rattle.mw_muldiv.specs.Multiplication.{product_of}
use Rattle.mw_muldiv.specs.Wide.{number_of}
use Rattle.mw_isa.specs.declared.long.LongOp.{LongOp}
use Rattle.mw_isa.specs.declared.long.LongOp.TheVariants.{Mul, Div}
use Rattle.mw_isa.specs.declared.operation.Addend.{Addend}
use Rattle.mw_isa.specs.declared.operation.Addend.TheVariants.{NoAddend, PlainAddend, SignedAddend}

-- a number of 64 bits in 128, with zeros above
abbrev pub zero_extended : ℕ → Wide128
zero_extended n = record { high = 0; low = n }

-- a number of 64 bits in 128, with its sign above
abbrev pub sign_extended : ℕ → Wide128
sign_extended n = record { high = if int_lt (cast_signed w64 n) (pos 0) then 2 ^ 64 - 1 else 0; low = n }

-- the low word of a number in 64 bits, with its sign or with zeros above, as a multiplication reads its factors
abbrev pub word_factor : MulKind → ℕ → ℕ
word_factor Signed n = sext_of n 32
word_factor Unsigned n = n % 2 ^ 32

-- a factor: a number, or its low word
abbrev pub factor_in : MulKind → Bool → ℕ → ℕ
factor_in kind word n = if word then word_factor kind n else n

-- what is added to a product
abbrev pub added_by : Addend → ℕ → Wide128
added_by NoAddend c = zero_extended 0
added_by PlainAddend c = zero_extended c
added_by SignedAddend c = sign_extended c

-- the dividend a, as a division reads it: all of it, or its low word
abbrev pub plain_dividend : DivKind → ℕ → Wide128
plain_dividend Signed64 a = sign_extended a
plain_dividend Unsigned64 a = zero_extended a
plain_dividend Signed32 a = zero_extended (sext_of a 32)
plain_dividend Unsigned32 a = zero_extended (a % 2 ^ 32)

-- the dividend a with as many zeros behind it as it has bits
abbrev pub extended_dividend : DivKind → ℕ → Wide128
extended_dividend Signed64 a = record { high = a; low = 0 }
extended_dividend Unsigned64 a = record { high = a; low = 0 }
extended_dividend Signed32 a = zero_extended (a % 2 ^ 32 * 2 ^ 32)
extended_dividend Unsigned32 a = zero_extended (a % 2 ^ 32 * 2 ^ 32)

-- the dividend: a, or a with zeros behind it
abbrev pub dividend_by : DivKind → Bool → ℕ → Wide128
dividend_by kind extended a = if extended then extended_dividend kind a else plain_dividend kind a

-- a division reads low words
abbrev pub divides_words : DivKind → Bool
divides_words Signed64 = false
divides_words Unsigned64 = false
divides_words Signed32 = true
divides_words Unsigned32 = true

-- a result, with OV and OV32
abbrev pub given : ℕ → Bool → AluOut
given value overflow = record { value = value; ca = false; ca32 = false; ov = overflow; ov32 = overflow }

-- the high 64 bits of a product; of words the high 32 of its 64
abbrev pub high_of : Bool → Wide128 → ℕ
high_of word wide = if word then wide.low / 2 ^ 32 else wide.high

-- the half that is the result; of words the low half is the product whole
abbrev pub half_of : Bool → Bool → Wide128 → ℕ
half_of high word wide = if high then high_of word wide else wide.low

-- a signed number doesn't fit 64 bits, or where words are asked 32
abbrev pub is_too_wide : Bool → ℤ → Bool
is_too_wide word z =
    if word then is_outside (negsuc 0x7FFF_FFFF) (pos 0x7FFF_FFFF) z else is_outside (negsuc 0x7FFF_FFFF_FFFF_FFFF) (pos 0x7FFF_FFFF_FFFF_FFFF) z

-- a signed product doesn't fit 64 bits; of words it doesn't fit 32
abbrev pub overflows_product : Bool → Wide128 → Bool
overflows_product word wide = is_too_wide word (cast_signed w128 (number_of wide))

-- what a product row gives, from what the multiplier answered
abbrev pub product_out : Bool → Bool → Wide128 → AluOut
product_out high word wide = given (half_of high word wide) (overflows_product word wide)

-- what a quotient row gives, from what the divider answered; without a quotient 0, and an overflow
abbrev pub quotient_out : Bool → DivOut → AluOut
quotient_out rest (Divided quotient left) = given (if rest then left else quotient) false
quotient_out rest NoQuotient = given 0 true

-- what a long operation gives, once its unit has answered
abbrev pub result_of : LongOp → AluOut
result_of (Mul unit high word to oe rc) = product_out high word (product_of unit)
result_of (Div unit rest word to oe rc) = quotient_out rest (quotient_of unit)

-- no tick of a long operation's unit is done
abbrev pub IsStarted : LongOp → Type 0
IsStarted (Mul unit high word to oe rc) = unit.ticks ≡ 0
IsStarted (Div unit rest word to oe rc) = unit.ticks ≡ 0
