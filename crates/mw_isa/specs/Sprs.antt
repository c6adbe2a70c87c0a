-- The registers that are moved by number: which there are, which use of a number is refused, what a register holds and what
-- a write leaves (Book III, special purpose registers; which there are, and what is illegal, is this board's own choice).
use Rattle.std.specs.Prelude.{ℕ, ◌/◌, ◌%◌, ◌^◌, ◌==◌, nat_le, Bool, true, false, ◌&&◌, ◌||◌, if◌then◌else◌, List, [], ◌∷◌, Option, Some, None, is_some, option_map, Result, Ok, Err, slice_index, slice_set}
use Rattle.mw_bits.specs.Fields.{sext_of}
use Rattle.mw_soc.specs.DeviceData.{DeviceData}
use Rattle.mw_soc.specs.Devices.{cycle_of, dec_of, with_dec}
use Rattle.mw_isa.specs.declared.numbered.Numbered.{Numbered}
use Rattle.mw_isa.specs.declared.numbered.Numbered.TheVariants.{Xer, Lr, Ctr, Dsisr, Dar, Dec, Srr0, Srr1, Pidr, Sprg, TimeBase, TimeBaseUpper, TimeBaseHalf, Pvr, Hsprg, Hsrr0, Hsrr1, Prtbl, Tar, Pir}
use Rattle.mw_isa.specs.declared.numbered.NumberedLine.{NumberedLine}
use Rattle.mw_isa.specs.declared.numbered.SprRefusal.{SprRefusal}
use Rattle.mw_isa.specs.declared.numbered.SprRefusal.TheVariants.{Privileged, Illegal}
use Rattle.mw_isa.specs.declared.numbered.Use.{Use}
use Rattle.mw_isa.specs.declared.numbered.Use.TheVariants.{Read, Write}
use Rattle.mw_isa.specs.declared.regs.Regs.{Regs}
use Rattle.mw_isa.specs.Msr.{pr_place}
use Rattle.mw_isa.specs.Xer.{has_bit, xer_bits, xer_of}

-- a line of the list: a number, and the register that is read and written by it
abbrev pub both : ℕ → Numbered → NumberedLine
both number register = record { number = number; register = register; readable = true; writable = true }

-- a line of a register that is only read
abbrev pub read_only : ℕ → Numbered → NumberedLine
read_only number register = record (both number register) { writable = false }

-- a line of a register that is only written
abbrev pub write_only : ℕ → Numbered → NumberedLine
write_only number register = record (both number register) { readable = false }

-- the registers by number, a line each
unfoldable pub numbered_lines : List NumberedLine
numbered_lines =
    both 1 Xer
    ∷ both 8 Lr
    ∷ both 9 Ctr
    ∷ both 18 Dsisr
    ∷ both 19 Dar
    ∷ both 22 Dec
    ∷ both 26 Srr0
    ∷ both 27 Srr1
    ∷ both 48 Pidr
    ∷ read_only 259 (Sprg 3)
    ∷ read_only 268 TimeBase
    ∷ read_only 269 TimeBaseUpper
    ∷ both 272 (Sprg 0)
    ∷ both 273 (Sprg 1)
    ∷ both 274 (Sprg 2)
    ∷ both 275 (Sprg 3)
    ∷ write_only 284 TimeBaseHalf
    ∷ write_only 285 TimeBaseHalf
    ∷ read_only 287 Pvr
    ∷ both 304 (Hsprg 0)
    ∷ both 305 (Hsprg 1)
    ∷ both 314 Hsrr0
    ∷ both 315 Hsrr1
    ∷ both 720 Prtbl
    ∷ both 815 Tar
    ∷ read_only 1023 Pir
    ∷ []

-- a line allows a use of its register
abbrev pub allows : Use → NumberedLine → Bool
allows Read line = line.readable
allows Write line = line.writable

-- the register of the first of some lines that has a number and allows a use, if there is one
abbrev pub register_in : List NumberedLine → Use → ℕ → Option Numbered
register_in [] way number = None
register_in (line ∷ lines) way number =
    if line.number == number && allows way line then Some line.register else register_in lines way number

-- the register that a number stands for in a use, if the number is in the list for that use
unfoldable pub register_for : Use → ℕ → Option Numbered
register_for way number = register_in numbered_lines way number

-- a number that is reserved: each use of it is no operation, in problem state too
abbrev pub is_reserved : ℕ → Bool
is_reserved number = nat_le 808 number && nat_le number 811

-- a number that is privileged: its bit 0x10 is 1
abbrev pub is_privileged_number : ℕ → Bool
is_privileged_number number = number / 0x10 % 2 == 1

-- a use outside the list that is illegal in every state
abbrev pub is_always_illegal : Use → ℕ → Bool
is_always_illegal Read number = number == 0 || (nat_le 4 number && nat_le number 6)
is_always_illegal Write number = number == 0

-- the refusal of a use of a number outside the list, if it is refused: it is illegal in problem state, and else no
-- operation with few exceptions
abbrev pub refusal_outside : Use → ℕ → Bool → Option SprRefusal
refusal_outside way number problem = if problem || is_always_illegal way number then Some Illegal else None

-- the refusal of a use of a number, in problem state or not, if it is refused
unfoldable pub refusal_of : Use → ℕ → Bool → Option SprRefusal
refusal_of way number problem =
    if is_reserved number then None
    else if is_privileged_number number && problem then Some Privileged
    else if is_some (register_for way number) then None
    else refusal_outside way number problem

-- the machine is in problem state
abbrev pub is_problem : Regs → Bool
is_problem regs = has_bit regs.msr pr_place

-- what a read of a register gives
abbrev pub content_of : Numbered → Regs → DeviceData → ℕ
content_of Xer regs devices = regs.xer
content_of Lr regs devices = regs.lr
content_of Ctr regs devices = regs.ctr
content_of Dsisr regs devices = regs.dsisr
content_of Dar regs devices = regs.dar
content_of Dec regs devices = sext_of (dec_of devices) 32
content_of Srr0 regs devices = regs.srr0
content_of Srr1 regs devices = regs.srr1
content_of Pidr regs devices = regs.pidr
content_of (Sprg n) regs devices = slice_index regs.sprg n
content_of TimeBase regs devices = cycle_of devices
content_of TimeBaseUpper regs devices = cycle_of devices / 2 ^ 32
content_of TimeBaseHalf regs devices = 0
content_of Pvr regs devices = 0x0063_0101
content_of (Hsprg n) regs devices = slice_index regs.hsprg n
content_of Hsrr0 regs devices = regs.hsrr0
content_of Hsrr1 regs devices = regs.hsrr1
content_of Prtbl regs devices = regs.prtbl
content_of Tar regs devices = regs.tar
content_of Pir regs devices = 0

-- the low 32 bits of a number
abbrev pub low_word : ℕ → ℕ
low_word value = value % 2 ^ 32

-- the registers with a value written to one: XER keeps its five bits, one of 32 bits takes the low word
abbrev pub regs_with : Numbered → ℕ → Regs → Regs
regs_with Xer value regs = record regs { xer = xer_of (xer_bits value) }
regs_with Lr value regs = record regs { lr = value }
regs_with Ctr value regs = record regs { ctr = value }
regs_with Dsisr value regs = record regs { dsisr = low_word value }
regs_with Dar value regs = record regs { dar = value }
regs_with Srr0 value regs = record regs { srr0 = value }
regs_with Srr1 value regs = record regs { srr1 = value }
regs_with Pidr value regs = record regs { pidr = low_word value }
regs_with (Sprg n) value regs = record regs { sprg = slice_set regs.sprg n value }
regs_with (Hsprg n) value regs = record regs { hsprg = slice_set regs.hsprg n value }
regs_with Hsrr0 value regs = record regs { hsrr0 = value }
regs_with Hsrr1 value regs = record regs { hsrr1 = value }
regs_with Prtbl value regs = record regs { prtbl = value }
regs_with Tar value regs = record regs { tar = value }
regs_with register value regs = regs

-- the devices with a value written to a register, which only the decrementer takes
abbrev pub devices_with : Numbered → ℕ → DeviceData → DeviceData
devices_with Dec value devices = with_dec devices (low_word value)
devices_with register value devices = devices

-- the registers, and the devices, which hold the rest of what is moved by number
pub record Held : Type 0 where
  pub regs : Regs
  pub devices : DeviceData

-- the registers and the devices together
abbrev pub held : Regs → DeviceData → Held
held regs devices = record { regs = regs; devices = devices }

-- the registers and the devices with a value written to a register, if there is one
abbrev pub with_content : Option Numbered → ℕ → Regs → DeviceData → Held
with_content None value regs devices = held regs devices
with_content (Some register) value regs devices = held (regs_with register value regs) (devices_with register value devices)

-- a result, unless there is a refusal
abbrev pub result_unless : {A : Type 0} → Option SprRefusal → A → Result A SprRefusal
result_unless None value = Ok value
result_unless (Some refusal) value = Err refusal

-- what a read of a number gives, or its refusal; where it gives nothing, it is no operation
unfoldable pub read_of : ℕ → Regs → DeviceData → Result (Option ℕ) SprRefusal
read_of number regs devices =
    result_unless (refusal_of Read number (is_problem regs))
    (option_map (λ register. content_of register regs devices) (register_for Read number))

-- what a write of a value to a number leaves, or its refusal
unfoldable pub write_of : ℕ → ℕ → Regs → DeviceData → Result Held SprRefusal
write_of number value regs devices =
    result_unless (refusal_of Write number (is_problem regs)) (with_content (register_for Write number) value regs devices)
