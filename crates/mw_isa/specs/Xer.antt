-- The bits of XER, what an arithmetic instruction makes of them, and what it records of its result (Book I, fixed-point
-- exception register, condition register, and the setting of both).
use Rattle.std.specs.Prelude.{ℕ, ◌+◌, ◌-◌, ◌/◌, ◌%◌, ◌^◌, ◌==◌, Bool, ◌&&◌, ◌||◌, if◌then◌else◌, ℤ, pos, int_lt}
use Rattle.std.specs.Int.{w64, cast_signed, from_bool}
use Rattle.mw_alu.specs.declared.op.AluOut.{AluOut}
use Rattle.mw_decode.specs.declared.insn.Insn.{Insn}
use Rattle.mw_isa.specs.declared.operation.Ending.{Ending}
use Rattle.mw_isa.specs.declared.xer.XerBits.{XerBits}
use Rattle.mw_isa.specs.Endings.{sets_carries, writes_overflows}

-- the places of the bits, counted from the left of 64
abbrev pub so_place : ℕ
so_place = 32

abbrev pub ov_place : ℕ
ov_place = 33

abbrev pub ca_place : ℕ
ca_place = 34

abbrev pub ov32_place : ℕ
ov32_place = 44

abbrev pub ca32_place : ℕ
ca32_place = 45

-- the bit at a place is 1
abbrev pub has_bit : ℕ → ℕ → Bool
has_bit word place = word / 2 ^ (63 - place) % 2 == 1

-- the bits of XER
abbrev pub xer_bits : ℕ → XerBits
xer_bits xer = record {
  so = has_bit xer so_place;
  ov = has_bit xer ov_place;
  ca = has_bit xer ca_place;
  ov32 = has_bit xer ov32_place;
  ca32 = has_bit xer ca32_place;
}

-- a number with a bit at a place alone, or with none
abbrev pub bit_at_place : ℕ → Bool → ℕ
bit_at_place place set = if set then 2 ^ (63 - place) else 0

-- XER with these bits; all others are 0
abbrev pub xer_of : XerBits → ℕ
xer_of bits = bit_at_place so_place bits.so + bit_at_place ov_place bits.ov + bit_at_place ca_place bits.ca + bit_at_place ov32_place bits.ov32 + bit_at_place ca32_place bits.ca32

-- the bits with a result's carries, where they are written
abbrev pub with_carries : Bool → AluOut → XerBits → XerBits
with_carries written out bits = if written then record bits { ca = out.ca; ca32 = out.ca32 } else bits

-- the bits with a result's overflows, where they are written
abbrev pub with_overflows : Bool → AluOut → XerBits → XerBits
with_overflows written out bits = if written then record bits { ov = out.ov; ov32 = out.ov32 } else bits

-- the bits with SO set where OE is asked and there is an overflow; it is never cleared
abbrev pub with_summary : Bool → AluOut → XerBits → XerBits
with_summary oe out bits = record bits { so = bits.so || (oe && out.ov) }

-- the bits of XER as they stand after an instruction, from those before it and its result
abbrev pub bits_after : Ending → Insn → AluOut → XerBits → XerBits
bits_after ending insn out bits =
    with_summary insn.oe out (with_overflows (writes_overflows ending insn) out (with_carries (sets_carries ending) out bits))

-- LT, GT or EQ of a signed number and 0, as the value of a field of CR
abbrev pub sign_field : ℤ → ℕ
sign_field z = if int_lt z (pos 0) then 8 else if int_lt (pos 0) z then 4 else 2

-- what CR field 0 gets of a result: its sign in 64 bits, and SO
abbrev pub result_field : ℕ → Bool → ℕ
result_field value so = sign_field (cast_signed w64 value) + from_bool so
