-- Bits and fields of the condition register, how two numbers stand to each other, and what a field gets (Book I, condition
-- register; fixed-point compare and trap instructions; condition register logical instructions).
use Rattle.std.specs.Prelude.{ℕ, zero, suc, ◌+◌, ◌-◌, ◌*◌, ◌/◌, ◌%◌, ◌^◌, ◌==◌, Bool, true, false, not, ◌&&◌, ◌||◌, if◌then◌else◌, nat_lt, nat_le, ℤ, int_lt}
use Rattle.std.specs.Int.{w64, cast_signed, from_bool}
use Rattle.mw_bits.specs.Fields.{sext_of}
use Rattle.mw_isa.specs.declared.operation.BitLogic.{BitLogic}
use Rattle.mw_isa.specs.declared.operation.BitLogic.TheVariants.{Crnor, Crandc, Crxor, Crnand, Crand, Creqv, Crorc, Cror}
use Rattle.mw_isa.specs.declared.xer.XerBits.{XerBits}
use Rattle.mw_isa.specs.Slots.{field_unit}

-- a bit of the condition register, counted from the left of 32
abbrev pub cr_bit : ℕ → ℕ → Bool
cr_bit cr number = cr / 2 ^ (31 - number) % 2 == 1

-- a field of the condition register, counted from the left of eight
abbrev pub cr_field : ℕ → ℕ → ℕ
cr_field cr number = cr / field_unit number % 16

-- the field of the condition register in which a bit stands
abbrev pub field_of_bit : ℕ → ℕ
field_of_bit number = number / 4

-- the mask that chooses one field: its leftmost bit of eight is field 0's
abbrev pub field_mask : ℕ → ℕ
field_mask number = 128 / 2 ^ number

-- a mask chooses a field
abbrev pub is_chosen : ℕ → ℕ → Bool
is_chosen mask number = mask / 2 ^ (7 - number) % 2 == 1

-- four bits with another one at a place, counted from the left
abbrev pub with_bit : ℕ → ℕ → Bool → ℕ
with_bit digit place bit = (digit / 2 ^ (4 - place) * 2 + from_bool bit) * 2 ^ (3 - place) + digit % 2 ^ (3 - place)

-- a number as a comparison reads it: whole, or its low word; with its sign, or without
abbrev pub signed_part : Bool → ℕ → ℤ
signed_part long n = cast_signed w64 (if long then n else sext_of n 32)

abbrev pub plain_part : Bool → ℕ → ℕ
plain_part long n = if long then n else n % 2 ^ 32

-- a number is less than another, as signed numbers or not, whole or by their low words
abbrev pub is_below : Bool → Bool → ℕ → ℕ → Bool
is_below signed long x y = if signed then int_lt (signed_part long x) (signed_part long y) else nat_lt (plain_part long x) (plain_part long y)

-- LT, GT or EQ as the value of a field
abbrev pub order_field : Bool → Bool → ℕ
order_field less greater = if less then 8 else if greater then 4 else 2

-- how one number stands to another, and SO
abbrev pub compare_field : Bool → Bool → ℕ → ℕ → Bool → ℕ
compare_field signed long x y so = order_field (is_below signed long x y) (is_below signed long y x) + from_bool so

-- a byte of a number, counted from the right
abbrev pub byte_at : ℕ → ℕ → ℕ
byte_at n place = n / 2 ^ (8 * place) % 256

-- a byte lies between two others that stand side by side, the lower one to the right
abbrev pub is_between : ℕ → ℕ → ℕ → Bool
is_between x bounds place = nat_le (byte_at bounds place) x && nat_le x (byte_at bounds (place + 1))

-- the low byte of a number lies in the first range of bytes, or where two are asked in the second
abbrev pub is_in_range : Bool → ℕ → ℕ → Bool
is_in_range two x bounds = is_between (byte_at x 0) bounds 0 || (two && is_between (byte_at x 0) bounds 2)

-- the low byte of a number is one of the first bytes of another
abbrev pub has_byte : ℕ → ℕ → ℕ → Bool
has_byte x bytes zero = false
has_byte x bytes (suc places) = has_byte x bytes places || byte_at x 0 == byte_at bytes places

-- what a field gets of a match: its second bit
abbrev pub match_field : Bool → ℕ
match_field found = if found then 4 else 0

-- what a field gets of XER: OV, OV32, CA and CA32
abbrev pub flags_field : XerBits → ℕ
flags_field bits = from_bool bits.ov * 8 + from_bool bits.ov32 * 4 + from_bool bits.ca * 2 + from_bool bits.ca32

-- what is made of two bits
abbrev pub logic_of : BitLogic → Bool → Bool → Bool
logic_of Crnor a b = not (a || b)
logic_of Crandc a b = a && not b
logic_of Crxor a b = if a then not b else b
logic_of Crnand a b = not (a && b)
logic_of Crand a b = a && b
logic_of Creqv a b = if a then b else not b
logic_of Crorc a b = a || not b
logic_of Cror a b = a || b

-- a bit of TO, counted from the left of five
abbrev pub to_bit : ℕ → ℕ → Bool
to_bit to number = to / 2 ^ (4 - number) % 2 == 1

-- the conditions of TO: signed less, signed greater, equal, unsigned less, unsigned greater
abbrev pub traps_signed : ℕ → Bool → ℕ → ℕ → Bool
traps_signed to long x y = (to_bit to 0 && is_below true long x y) || (to_bit to 1 && is_below true long y x)

abbrev pub traps_equal : ℕ → Bool → ℕ → ℕ → Bool
traps_equal to long x y = to_bit to 2 && plain_part long x == plain_part long y

abbrev pub traps_unsigned : ℕ → Bool → ℕ → ℕ → Bool
traps_unsigned to long x y = (to_bit to 3 && is_below false long x y) || (to_bit to 4 && is_below false long y x)

-- one of the conditions of TO holds
abbrev pub is_trapping : ℕ → Bool → ℕ → ℕ → Bool
is_trapping to long x y = traps_signed to long x y || (traps_equal to long x y || traps_unsigned to long x y)
