-- What the rows that are done in one cycle give, over whole numbers (Book I, fixed-point arithmetic, logical, rotate,
-- shift and byte-reverse instructions). In a row's line a is the content of RA or RS, of (RA|0), or an address, CIA or
-- NIA; b is the content of RB, the number among the operands in 64 bits, or the count of a rotation; c is the mask of a
-- rotation, or the number of places of srawi, sradi and extswsli. rlwimi and rldimi have four numbers: a is rotated
-- already, b is the mask and c the old content of RA. The carry is CA, and OV of addex. A sum has all four flags,
-- whichever of them its row writes, but for addex; a signed shift to the right has CA and CA32; all other flags are false.
use Rattle.std.specs.Prelude.{ℕ, ◌-◌, ◌*◌, ◌/◌, ◌%◌, ◌^◌, Bool, bit_and, bit_or, bit_xor, count_ones}
use Rattle.std.specs.Int.{w32, w64, bit_not, from_bool, leading_zeros, swap_bytes, trailing_zeros}
use Rattle.mw_bits.specs.Fields.{rotl_of, sext_of}
use Rattle.mw_alu.specs.declared.op.AluOp.{AluOp}
use Rattle.mw_alu.specs.declared.op.AluOp.TheVariants.{Addi, Addis, Addic, Subfic, Addpcis, Paddi, Add, Subf, Neg, Addc, Subfc, Adde, Subfe, Addme, Subfme, Addze, Subfze, Addex, Ori, Oris, Xori, Xoris, Andi, Andis, And, Andc, Or, Orc, Xor, Eqv, Nand, Nor, Rlwinm, Rlwnm, Rlwimi, Rldicl, Rldicr, Rldic, Rldimi, Rldcl, Rldcr, Slw, Srw, Sld, Srd, Sraw, Srawi, Srad, Sradi, Extswsli, Extsb, Extsh, Extsw, Cntlzw, Cntlzd, Cnttzw, Cnttzd, Cntlzdm, Cnttzdm, Popcntb, Popcntw, Popcntd, Prtyw, Prtyd, Brh, Brw, Brd, Pdepd, Pextd, Cfuged, Bpermd, Cmpb}
use Rattle.mw_alu.specs.declared.op.AluOut.{AluOut}
use Rattle.mw_alu.specs.Sums.{sum_of, sum_by_ov}
use Rattle.mw_alu.specs.Bits.{valued, rotl32_of, inserted_of, signed_right, signed_right_word}
use Rattle.mw_alu.specs.Counts.{cntlzdm_of, cnttzdm_of, popcntb_of, popcntw_of, parity_of, prtyw_of}
use Rattle.mw_alu.specs.Permutes.{brh_of, brw_of, pdepd_of, pextd_of, cfuged_of, bpermd_of, cmpb_of}

-- a number with 16 zeros behind it
abbrev pub shifted_number : ℕ → ℕ
shifted_number n = n * 2 ^ 16 % 2 ^ 64

-- what a row gives
abbrev pub alu_of : AluOp → ℕ → ℕ → ℕ → Bool → AluOut
-- RT ← (RA|0) + EXTS(SI)
alu_of Addi a b c carry = sum_of a b 0
-- RT ← (RA|0) + EXTS(SI || 16 zeros)
alu_of Addis a b c carry = sum_of a (shifted_number b) 0
-- RT ← (RA) + EXTS(SI)
alu_of Addic a b c carry = sum_of a b 0
-- RT ← ¬(RA) + EXTS(SI) + 1
alu_of Subfic a b c carry = sum_of (bit_not w64 a) b 1
-- RT ← NIA + EXTS(D || 16 zeros)
alu_of Addpcis a b c carry = sum_of a (shifted_number b) 0
-- RT ← (RA|0) + EXTS(SI), or CIA + EXTS(SI), of 34 bits
alu_of Paddi a b c carry = sum_of a b 0
-- RT ← (RA) + (RB)
alu_of Add a b c carry = sum_of a b 0
-- RT ← ¬(RA) + (RB) + 1
alu_of Subf a b c carry = sum_of (bit_not w64 a) b 1
-- RT ← ¬(RA) + 1
alu_of Neg a b c carry = sum_of (bit_not w64 a) 0 1
-- RT ← (RA) + (RB)
alu_of Addc a b c carry = sum_of a b 0
-- RT ← ¬(RA) + (RB) + 1
alu_of Subfc a b c carry = sum_of (bit_not w64 a) b 1
-- RT ← (RA) + (RB) + CA
alu_of Adde a b c carry = sum_of a b (from_bool carry)
-- RT ← ¬(RA) + (RB) + CA
alu_of Subfe a b c carry = sum_of (bit_not w64 a) b (from_bool carry)
-- RT ← (RA) + CA - 1, with -1 as 64 ones
alu_of Addme a b c carry = sum_of a (2 ^ 64 - 1) (from_bool carry)
-- RT ← ¬(RA) + CA - 1, with -1 as 64 ones
alu_of Subfme a b c carry = sum_of (bit_not w64 a) (2 ^ 64 - 1) (from_bool carry)
-- RT ← (RA) + CA
alu_of Addze a b c carry = sum_of a 0 (from_bool carry)
-- RT ← ¬(RA) + CA
alu_of Subfze a b c carry = sum_of (bit_not w64 a) 0 (from_bool carry)
-- RT ← (RA) + (RB) + OV; OV and OV32 are the carries
alu_of Addex a b c carry = sum_by_ov a b (from_bool carry)
-- RA ← (RS) | UI
alu_of Ori a b c carry = valued (bit_or a b)
-- RA ← (RS) | (UI || 16 zeros)
alu_of Oris a b c carry = valued (bit_or a (shifted_number b))
-- RA ← (RS) ⊕ UI
alu_of Xori a b c carry = valued (bit_xor a b)
-- RA ← (RS) ⊕ (UI || 16 zeros)
alu_of Xoris a b c carry = valued (bit_xor a (shifted_number b))
-- RA ← (RS) & UI
alu_of Andi a b c carry = valued (bit_and a b)
-- RA ← (RS) & (UI || 16 zeros)
alu_of Andis a b c carry = valued (bit_and a (shifted_number b))
-- RA ← (RS) & (RB)
alu_of And a b c carry = valued (bit_and a b)
-- RA ← (RS) & ¬(RB)
alu_of Andc a b c carry = valued (bit_and a (bit_not w64 b))
-- RA ← (RS) | (RB)
alu_of Or a b c carry = valued (bit_or a b)
-- RA ← (RS) | ¬(RB)
alu_of Orc a b c carry = valued (bit_or a (bit_not w64 b))
-- RA ← (RS) ⊕ (RB)
alu_of Xor a b c carry = valued (bit_xor a b)
-- RA ← ¬((RS) ⊕ (RB))
alu_of Eqv a b c carry = valued (bit_not w64 (bit_xor a b))
-- RA ← ¬((RS) & (RB))
alu_of Nand a b c carry = valued (bit_not w64 (bit_and a b))
-- RA ← ¬((RS) | (RB))
alu_of Nor a b c carry = valued (bit_not w64 (bit_or a b))
-- RA ← ROTL32((RS)32:63, SH) & MASK(MB+32, ME+32)
alu_of Rlwinm a b c carry = valued (bit_and (rotl32_of a (b % 2 ^ 5)) c)
-- RA ← ROTL32((RS)32:63, (RB)59:63) & MASK(MB+32, ME+32)
alu_of Rlwnm a b c carry = valued (bit_and (rotl32_of a (b % 2 ^ 5)) c)
-- RA ← r & m | (RA) & ¬m, where r is ROTL32((RS)32:63, SH) and m is MASK(MB+32, ME+32)
alu_of Rlwimi a b c carry = valued (inserted_of a b c)
-- RA ← ROTL64((RS), SH) & MASK(MB, 63)
alu_of Rldicl a b c carry = valued (bit_and (rotl_of a (b % 2 ^ 6)) c)
-- RA ← ROTL64((RS), SH) & MASK(0, ME)
alu_of Rldicr a b c carry = valued (bit_and (rotl_of a (b % 2 ^ 6)) c)
-- RA ← ROTL64((RS), SH) & MASK(MB, 63-SH)
alu_of Rldic a b c carry = valued (bit_and (rotl_of a (b % 2 ^ 6)) c)
-- RA ← r & m | (RA) & ¬m, where r is ROTL64((RS), SH) and m is MASK(MB, 63-SH)
alu_of Rldimi a b c carry = valued (inserted_of a b c)
-- RA ← ROTL64((RS), (RB)58:63) & MASK(MB, 63)
alu_of Rldcl a b c carry = valued (bit_and (rotl_of a (b % 2 ^ 6)) c)
-- RA ← ROTL64((RS), (RB)58:63) & MASK(0, ME)
alu_of Rldcr a b c carry = valued (bit_and (rotl_of a (b % 2 ^ 6)) c)
-- RA ← the word (RS)32:63 shifted left by (RB)58:63 places, 0 from 32 on
alu_of Slw a b c carry = valued (a % 2 ^ 32 * 2 ^ (b % 2 ^ 6) % 2 ^ 32)
-- RA ← the word (RS)32:63 shifted right by (RB)58:63 places, 0 from 32 on
alu_of Srw a b c carry = valued (a % 2 ^ 32 / 2 ^ (b % 2 ^ 6))
-- RA ← (RS) shifted left by (RB)57:63 places, 0 from 64 on
alu_of Sld a b c carry = valued (a * 2 ^ (b % 2 ^ 7) % 2 ^ 64)
-- RA ← (RS) shifted right by (RB)57:63 places, 0 from 64 on
alu_of Srd a b c carry = valued (a / 2 ^ (b % 2 ^ 7))
-- RA ← the signed word (RS)32:63 shifted right by (RB)58:63 places; CA and CA32
alu_of Sraw a b c carry = signed_right_word a (b % 2 ^ 6)
-- RA ← the signed word (RS)32:63 shifted right by SH places; CA and CA32
alu_of Srawi a b c carry = signed_right_word a (c % 2 ^ 5)
-- RA ← the signed (RS) shifted right by (RB)57:63 places; CA and CA32
alu_of Srad a b c carry = signed_right a (b % 2 ^ 7)
-- RA ← the signed (RS) shifted right by SH places; CA and CA32
alu_of Sradi a b c carry = signed_right a (c % 2 ^ 6)
-- RA ← EXTS((RS)32:63) shifted left by SH places
alu_of Extswsli a b c carry = valued (sext_of a 32 * 2 ^ (c % 2 ^ 6) % 2 ^ 64)
-- RA ← EXTS((RS)56:63)
alu_of Extsb a b c carry = valued (sext_of a 8)
-- RA ← EXTS((RS)48:63)
alu_of Extsh a b c carry = valued (sext_of a 16)
-- RA ← EXTS((RS)32:63)
alu_of Extsw a b c carry = valued (sext_of a 32)
-- RA ← the number of zeros at the left of (RS)32:63
alu_of Cntlzw a b c carry = valued (leading_zeros w32 (a % 2 ^ 32))
-- RA ← the number of zeros at the left of (RS)
alu_of Cntlzd a b c carry = valued (leading_zeros w64 a)
-- RA ← the number of zeros at the right of (RS)32:63
alu_of Cnttzw a b c carry = valued (trailing_zeros w32 (a % 2 ^ 32))
-- RA ← the number of zeros at the right of (RS)
alu_of Cnttzd a b c carry = valued (trailing_zeros w64 a)
-- RA ← of the bits of (RS) where (RB) has 1, the number of zeros at the left
alu_of Cntlzdm a b c carry = valued (cntlzdm_of a b)
-- RA ← of the bits of (RS) where (RB) has 1, the number of zeros at the right
alu_of Cnttzdm a b c carry = valued (cnttzdm_of a b)
-- RA ← in each byte the number of ones in that byte of (RS)
alu_of Popcntb a b c carry = valued (popcntb_of a)
-- RA ← in each word the number of ones in that word of (RS)
alu_of Popcntw a b c carry = valued (popcntw_of a)
-- RA ← the number of ones in (RS)
alu_of Popcntd a b c carry = valued (count_ones a)
-- RA ← in each word the ⊕ of (RS)8i+7 for the bytes i of that word
alu_of Prtyw a b c carry = valued (prtyw_of a)
-- RA ← the ⊕ of (RS)8i+7 for all bytes i
alu_of Prtyd a b c carry = valued (parity_of 8 a)
-- RA ← (RS) with the bytes of each halfword reversed
alu_of Brh a b c carry = valued (brh_of a)
-- RA ← (RS) with the bytes of each word reversed
alu_of Brw a b c carry = valued (brw_of a)
-- RA ← (RS) with its bytes reversed
alu_of Brd a b c carry = valued (swap_bytes w64 a)
-- RA ← the rightmost bits of (RS), in order, where (RB) has 1, and 0 elsewhere
alu_of Pdepd a b c carry = valued (pdepd_of a b)
-- RA ← the bits of (RS) where (RB) has 1, in order, at the right
alu_of Pextd a b c carry = valued (pextd_of a b)
-- RA ← the bits of (RS) where (RB) has 0, in order, and to their right the others, in order
alu_of Cfuged a b c carry = valued (cfuged_of a b)
-- RA56+i ← (RB)n for the byte n = (RS)8i:8i+7, 0 where n is 64 or more; RA0:55 ← 0
alu_of Bpermd a b c carry = valued (bpermd_of a b)
-- RA8i:8i+7 ← ones where (RS)8i:8i+7 = (RB)8i:8i+7, else zeros
alu_of Cmpb a b c carry = valued (cmpb_of a b)
