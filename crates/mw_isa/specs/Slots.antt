-- The registers that instructions read and write, by name, and what is set there (Book I, the branch facility's and the
-- fixed-point facility's registers).
use Rattle.std.specs.Prelude.{ℕ, ⊤, ◌≢◌, ◌+◌, ◌-◌, ◌*◌, ◌/◌, ◌%◌, ◌^◌, ◌<◌, List, [], ◌∷◌, map, Option, Some, None, slice_index, slice_set, bit_or}
use Rattle.std.specs.Option.{option_map_or}
use Rattle.mw_isa.specs.declared.outcome.Target.{Target}
use Rattle.mw_isa.specs.declared.regs.Regs.{Regs}
use Rattle.mw_isa.specs.declared.slot.Slot.{Slot}
use Rattle.mw_isa.specs.declared.slot.Slot.TheVariants.{Gpr, CrField, Xer, Lr, Ctr, Tar}

-- the unit that a field of the condition register counts in: field 0 is the leftmost of eight
abbrev pub field_unit : ℕ → ℕ
field_unit n = 2 ^ (28 - 4 * n)

-- a number with another digit of base 16 at a unit
abbrev pub with_digit : ℕ → ℕ → ℕ → ℕ
with_digit x unit digit = (x / (unit * 16) * 16 + digit) * unit + x % unit

-- the content of a register, or of a field of the condition register
abbrev pub get_slot : Regs → Slot → ℕ
get_slot regs (Gpr n) = slice_index regs.gpr n
get_slot regs (CrField n) = regs.cr / field_unit n % 16
get_slot regs Xer = regs.xer
get_slot regs Lr = regs.lr
get_slot regs Ctr = regs.ctr
get_slot regs Tar = regs.tar

-- the registers with a new content of one; a field takes the low four bits
abbrev pub set_slot : Regs → Slot → ℕ → Regs
set_slot regs (Gpr n) value = record regs { gpr = slice_set regs.gpr n value }
set_slot regs (CrField n) value = record regs { cr = with_digit regs.cr (field_unit n) (value % 16) }
set_slot regs Xer value = record regs { xer = value }
set_slot regs Lr value = record regs { lr = value }
set_slot regs Ctr value = record regs { ctr = value }
set_slot regs Tar value = record regs { tar = value }

-- a register that there is
abbrev pub IsSlot : Slot → Type 0
IsSlot (Gpr n) = n < 32
IsSlot (CrField n) = n < 8
IsSlot slot = ⊤

-- registers that there are
abbrev pub AreSlots : List Slot → Type 0
AreSlots [] = ⊤
AreSlots (slot ∷ slots) = IsSlot slot × AreSlots slots

-- a value that fits a register, or a field of the condition register
abbrev pub FitsSlot : Slot → ℕ → Type 0
FitsSlot (CrField n) value = value < 16
FitsSlot slot value = ⊤

-- a register written with its value, if that is known
abbrev pub set_target : Target → Regs → Regs
set_target target regs = option_map_or (λ value. set_slot regs target.slot value) target.value regs

-- the registers written in order
abbrev pub set_targets : List Target → Regs → Regs
set_targets [] regs = regs
set_targets (target ∷ targets) regs = set_targets targets (set_target target regs)

-- a register with the value that it gets
abbrev pub known : Slot → ℕ → Target
known slot value = record { slot = slot; value = Some value }

-- the registers that are written, in order
abbrev pub slots_of : List Target → List Slot
slots_of targets = map (λ (target : Target). target.slot) targets

-- the number of a register's bit in a set: the general purpose ones, the fields, and the four others
abbrev pub slot_number : Slot → ℕ
slot_number (Gpr n) = n
slot_number (CrField n) = 32 + n
slot_number Xer = 40
slot_number Lr = 41
slot_number Ctr = 42
slot_number Tar = 43

-- bits with that of one more register, if there is one
abbrev pub bits_with : Option Slot → ℕ → ℕ
bits_with None bits = bits
bits_with (Some slot) bits = bit_or (2 ^ slot_number slot) bits

-- the bits of the registers of a list
abbrev pub bits_of : List Slot → ℕ
bits_of [] = 0
bits_of (slot ∷ slots) = bits_with (Some slot) (bits_of slots)

-- bits with those of the registers of a list
abbrev pub bits_upon : List Slot → ℕ → ℕ
bits_upon [] bits = bits
bits_upon (slot ∷ slots) bits = bits_with (Some slot) (bits_upon slots bits)

-- a register isn't in a list
abbrev pub IsAbsent : Slot → List Slot → Type 0
IsAbsent slot [] = ⊤
IsAbsent slot (other ∷ others) = (slot ≢ other) × IsAbsent slot others

-- no register is in both lists
abbrev pub AreApart : List Slot → List Slot → Type 0
AreApart [] others = ⊤
AreApart (slot ∷ slots) others = IsAbsent slot others × AreApart slots others
