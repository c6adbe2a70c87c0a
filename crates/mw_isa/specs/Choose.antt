-- Which interrupt is taken in place of the next instruction (Book III, external and decrementer interrupts, and their order).
use Rattle.std.specs.Prelude.{ℕ, if◌then◌else◌, Option, Some, None}
use Rattle.mw_soc.specs.DeviceData.{DeviceData}
use Rattle.mw_soc.specs.Devices.{dec_stands, external_stands}
use Rattle.mw_isa.specs.declared.regs.Regs.{Regs}
use Rattle.mw_isa.specs.declared.vector.Vector.{Vector}
use Rattle.mw_isa.specs.declared.vector.Vector.TheVariants.{Decrementer, External}
use Rattle.mw_isa.specs.Msr.{ee_place}
use Rattle.mw_isa.specs.State.{State}
use Rattle.mw_isa.specs.Take.{taken}
use Rattle.mw_isa.specs.Xer.{has_bit}

-- the exception of the devices that is served first, of those that stand: the external one, then the decrementer's
abbrev pub exception_of : DeviceData → Option Vector
exception_of devices =
    if external_stands devices then Some External
    else if dec_stands devices then Some Decrementer
    else None

-- the interrupt that is taken, of the devices and MSR alone: none where EE is 0. An exception is a level and no edge, and is
-- taken as long as its cause stands
unfoldable pub choice_of : DeviceData → ℕ → Option Vector
choice_of devices msr = if has_bit msr ee_place then exception_of devices else None

-- the interrupt that is taken, of a state whose devices stand at its cycle
abbrev pub chosen : State → Option Vector
chosen state = choice_of state.devices state.regs.msr

-- the registers behind an interrupt between two instructions: it saves the address of the next one, and has no cause
abbrev pub regs_interrupted : Vector → Regs → Regs
regs_interrupted vector regs = taken vector 0 regs.cia regs

-- the state behind an interrupt between two instructions: only its registers change
abbrev pub interrupted : Vector → State → State
interrupted vector state = record state { regs = regs_interrupted vector state.regs }
