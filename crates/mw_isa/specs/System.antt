-- What the instructions of the system do (Book II, synchronization; Book III, interrupts, registers by number).
use Rattle.std.specs.Prelude.{ℕ, ◌==◌, Bool, true, false, if◌then◌else◌, List, Option, Some, None, option_map, Result, Ok, Err}
use Rattle.mw_isa.specs.declared.access.Deed.{Deed}
use Rattle.mw_isa.specs.declared.access.Deed.TheVariants.{Plain, Tlbie as GivesUp, Sync as Synchronizes, NewTable}
use Rattle.mw_isa.specs.declared.numbered.Numbered.{Numbered}
use Rattle.mw_isa.specs.declared.numbered.Numbered.TheVariants.{Prtbl}
use Rattle.mw_isa.specs.declared.numbered.Use.TheVariants.{Read, Write}
use Rattle.mw_isa.specs.declared.numbered.SprRefusal.{SprRefusal}
use Rattle.mw_isa.specs.declared.numbered.SprRefusal.TheVariants.{Privileged, Illegal}
use Rattle.mw_isa.specs.declared.raised.Raised.{Raised}
use Rattle.mw_isa.specs.declared.regs.Regs.{Regs}
use Rattle.mw_isa.specs.declared.slot.Slot.TheVariants.{Gpr}
use Rattle.mw_isa.specs.declared.system.SysOp.{SysOp}
use Rattle.mw_isa.specs.declared.system.SysOp.TheVariants.{ReadSpr, WriteSpr, WriteMsr, Return, Tlbie, Sync, Isync}
use Rattle.mw_isa.specs.declared.vector.Vector.TheVariants.{Program}
use Rattle.mw_soc.specs.DeviceData.{DeviceData}
use Rattle.mw_isa.specs.State.{State}
use Rattle.mw_isa.specs.Branches.{word_address}
use Rattle.mw_isa.specs.Msr.{bit_at, illegal_place, msr_from, msr_partly_from, pr_place, privileged_place}
use Rattle.mw_isa.specs.Raises.{raising}
use Rattle.mw_isa.specs.Slots.{set_slot}
use Rattle.mw_isa.specs.Sprs.{Held, held, read_of, refusal_of, register_for, write_of}
use Rattle.mw_isa.specs.Xer.{has_bit}

-- the interrupt of a refusal by number
abbrev pub refused_by : SprRefusal → Raised
refused_by Privileged = raising Program (bit_at privileged_place)
refused_by Illegal = raising Program (bit_at illegal_place)

-- the interrupt that an instruction of the system raises under MSR, by the number of a register
abbrev pub system_raises : SysOp → ℕ → Option Raised
system_raises (ReadSpr to spr) msr = option_map refused_by (refusal_of Read spr (has_bit msr pr_place))
system_raises (WriteSpr spr value) msr = option_map refused_by (refusal_of Write spr (has_bit msr pr_place))
system_raises op msr = None

-- MSR that an instruction of the system leaves
abbrev pub msr_behind : SysOp → Regs → ℕ
msr_behind (WriteMsr value l) regs = if l then msr_partly_from value regs.msr else msr_from value regs.msr
msr_behind (Return hypervisor) regs = msr_from (if hypervisor then regs.hsrr1 else regs.srr1) regs.msr
msr_behind op regs = regs.msr

-- the registers with what was read by number in one; a read that gives nothing leaves it
abbrev pub regs_reading : ℕ → Result (Option ℕ) SprRefusal → Regs → Regs
regs_reading to (Ok (Some value)) regs = set_slot regs (Gpr to) value
regs_reading to (Ok None) regs = regs
regs_reading to (Err refusal) regs = regs

-- what a write by number left, or what was there where it was refused
abbrev pub held_or : Result Held SprRefusal → Held → Held
held_or (Ok written) before = written
held_or (Err refusal) before = before

-- the registers and the devices behind an instruction of the system
abbrev pub system_held : SysOp → Regs → DeviceData → Held
system_held (ReadSpr to spr) regs devices = held (regs_reading to (read_of spr regs devices) regs) devices
system_held (WriteSpr spr value) regs devices = held_or (write_of spr value regs devices) (held regs devices)
system_held op regs devices = held (record regs { msr = msr_behind op regs }) devices

-- the state behind an instruction of the system, at the same instruction
abbrev pub system_done : SysOp → State → State
system_done op state = record state { regs = (system_held op state.regs state.devices).regs; devices = (system_held op state.regs state.devices).devices }

-- the address of the next instruction: that of a return is in SRR0 or HSRR0, its low two bits 0; else the one behind
abbrev pub system_next : SysOp → Regs → ℕ → ℕ
system_next (Return hypervisor) regs behind = word_address (if hypervisor then regs.hsrr0 else regs.srr0)
system_next op regs behind = behind

-- a register is that of the table of translations
abbrev pub is_table : Option Numbered → Bool
is_table (Some Prtbl) = true
is_table register = false

-- what an instruction of the system does to changed code and changed translations
abbrev pub system_deed : SysOp → Deed
system_deed (ReadSpr to spr) = Plain
system_deed (WriteSpr spr value) = if is_table (register_for Write spr) then NewTable else Plain
system_deed (WriteMsr value l) = Plain
system_deed (Return hypervisor) = Synchronizes
system_deed (Tlbie scope) = GivesUp scope
system_deed (Sync l) = if l == 2 then Synchronizes else Plain
system_deed Isync = Synchronizes

-- the registers that aren't read and written by name, CIA and the reservation aside
pub record SystemPart : Type 0 where
  pub msr : ℕ
  pub srr0 : ℕ
  pub srr1 : ℕ
  pub hsrr0 : ℕ
  pub hsrr1 : ℕ
  pub dar : ℕ
  pub dsisr : ℕ
  pub pidr : ℕ
  pub sprg : List ℕ
  pub hsprg : List ℕ
  pub prtbl : ℕ

-- the part of all registers that aren't read and written by name
abbrev pub system_part : Regs → SystemPart
system_part regs = record { msr = regs.msr; srr0 = regs.srr0; srr1 = regs.srr1; hsrr0 = regs.hsrr0; hsrr1 = regs.hsrr1; dar = regs.dar; dsisr = regs.dsisr; pidr = regs.pidr; sprg = regs.sprg; hsprg = regs.hsprg; prtbl = regs.prtbl }
