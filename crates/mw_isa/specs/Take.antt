-- An interrupt is taken (Book III, interrupt processing). Which bits of MSR SRR1 takes is this board's own choice.
use Rattle.std.specs.Prelude.{ℕ, ◌≡◌, ◌+◌, ◌-◌, ◌*◌, ◌/◌, ◌%◌, ◌^◌}
use Rattle.mw_bits.specs.Fields.{field_of}
use Rattle.mw_isa.specs.declared.regs.Regs.{Regs}
use Rattle.mw_isa.specs.declared.vector.Vector.{Vector}
use Rattle.mw_isa.specs.Msr.{bit_at, prefixed_place, without_bit, ee_place, pr_place, ir_place, dr_place, ri_place}
use Rattle.mw_isa.specs.Vectors.{address_of}

-- the bits of a number from first to last, where they stand, and 0 for the others
abbrev pub kept : ℕ → ℕ → ℕ → ℕ
kept number first last = field_of number first last * 2 ^ (63 - last)

-- what a cause tells: bits 33 to 36 and 42 to 47
abbrev pub cause_in : ℕ → ℕ
cause_in cause = kept cause 33 36 + kept cause 42 47

-- a cause has no other bits
abbrev pub IsCause : ℕ → Type 0
IsCause cause = cause ≡ cause_in cause

-- a cause that doesn't tell of a prefix
pub record IsUnmarked (cause : ℕ) : Type 0 where
  pub is : IsCause cause
  pub plain : cause / bit_at prefixed_place % 2 ≡ 0

-- SRR1: MSR's bits 0 to 32, 37 to 41 and 48 to 63, and the cause between them
abbrev pub saved_msr : ℕ → ℕ → ℕ
saved_msr msr cause = kept msr 0 32 + kept msr 37 41 + kept msr 48 63 + cause

-- MSR behind an interrupt: EE, PR, IR, DR and RI are 0, and the rest stays
abbrev pub interrupted_msr : ℕ → ℕ
interrupted_msr msr = without_bit ri_place (without_bit dr_place (without_bit ir_place (without_bit pr_place (without_bit ee_place msr))))

-- the registers behind an interrupt of this vector and cause that saves this address
unfoldable pub taken : Vector → ℕ → ℕ → Regs → Regs
taken vector cause save regs = record regs { srr0 = save; srr1 = saved_msr regs.msr cause; msr = interrupted_msr regs.msr; cia = address_of vector }
