-- What an arithmetic row reads and writes beside its operands and its result: XER and CR field 0, by its ending and by what
-- OE and Rc of the instruction ask (Book I, fixed-point exception register and condition register).
use Rattle.std.specs.Prelude.{Bool, true, false, ◌||◌, if◌then◌else◌, Option, Some, None}
use Rattle.mw_decode.specs.declared.insn.Insn.{Insn}
use Rattle.mw_isa.specs.declared.operation.AluRow.{AluRow}
use Rattle.mw_isa.specs.declared.operation.Carry.{Carry}
use Rattle.mw_isa.specs.declared.operation.Carry.TheVariants.{NoCarry, Ca, Ov}
use Rattle.mw_isa.specs.declared.operation.Ending.{Ending}
use Rattle.mw_isa.specs.declared.operation.Ending.TheVariants.{Plain, Carries, Records, CarriesAndRecords, Overflows}
use Rattle.mw_isa.specs.declared.slot.Slot.{Slot}

-- the ending writes CA and CA32
abbrev pub sets_carries : Ending → Bool
sets_carries Plain = false
sets_carries Carries = true
sets_carries Records = false
sets_carries CarriesAndRecords = true
sets_carries Overflows = false

-- the ending writes OV and OV32 where OE isn't asked
abbrev pub sets_overflows : Ending → Bool
sets_overflows Plain = false
sets_overflows Carries = false
sets_overflows Records = false
sets_overflows CarriesAndRecords = false
sets_overflows Overflows = true

-- the ending writes CR field 0 where Rc isn't asked
abbrev pub sets_field : Ending → Bool
sets_field Plain = false
sets_field Carries = false
sets_field Records = true
sets_field CarriesAndRecords = true
sets_field Overflows = false

-- OV and OV32 are written
abbrev pub writes_overflows : Ending → Insn → Bool
writes_overflows ending insn = insn.oe || sets_overflows ending

-- XER is written
abbrev pub writes_xer : Ending → Insn → Bool
writes_xer ending insn = writes_overflows ending insn || sets_carries ending

-- CR field 0 is written
abbrev pub writes_field : Ending → Insn → Bool
writes_field ending insn = insn.rc || sets_field ending

-- the carry that the unit takes stands in XER
abbrev pub takes_carry : Carry → Bool
takes_carry NoCarry = false
takes_carry Ca = true
takes_carry Ov = true

-- XER is read: for the carry; for what is kept of it where a part is written; for SO, which CR field 0 takes
abbrev pub reads_xer : AluRow → Insn → Bool
reads_xer row insn = takes_carry row.carry || (writes_xer row.ending insn || writes_field row.ending insn)

-- XER is read by a product or a quotient: with OE for what is kept of it; with Rc for SO, which CR field 0 takes
abbrev pub long_reads_xer : Insn → Bool
long_reads_xer insn = insn.oe || insn.rc

-- a register, where it is asked
abbrev pub slot_if : Bool → Slot → Option Slot
slot_if asked slot = if asked then Some slot else None
