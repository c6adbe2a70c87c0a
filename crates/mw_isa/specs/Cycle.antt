-- What a machine does that has an event in each cycle: always one, on a state whose devices stand at the cycle.
use Rattle.std.specs.Prelude.{Option, Some, None}
use Rattle.mw_isa.specs.declared.event.Event.{Event}
use Rattle.mw_isa.specs.declared.event.Event.TheVariants.{Retire, Trap, Irq}
use Rattle.mw_isa.specs.declared.raised.Raised.{Raised}
use Rattle.mw_isa.specs.declared.vector.Vector.{Vector}
use Rattle.mw_isa.specs.State.{State}
use Rattle.mw_isa.specs.Fetch.{fetched, word_of, suffix_of}
use Rattle.mw_isa.specs.Step.{step}
use Rattle.mw_isa.specs.Choose.{chosen, interrupted}
use Rattle.mw_soc.specs.Devices.{cycle_of}

-- the event of the next instruction: it traps, where it raises an interrupt, and else it retires
abbrev pub event_at : Option Raised → State → Event
event_at (Some raised) state = Trap (cycle_of state.devices) state.regs.cia raised.vector
event_at None state = Retire (cycle_of state.devices) state.regs.cia (word_of (fetched state)) (suffix_of (fetched state))

-- the event of a cycle, by what is chosen: that interrupt, or else the next instruction
abbrev pub next_event_by : Option Vector → State → Event
next_event_by (Some vector) state = Irq (cycle_of state.devices) state.regs.cia vector
next_event_by None state = event_at (step state).trap state

-- the event of the devices' cycle
abbrev pub next_event : State → Event
next_event state = next_event_by (chosen state) state

-- what a cycle makes of the state, by what is chosen: the interrupt is taken, or else the next instruction is carried out
abbrev pub passed_by : Option Vector → State → State
passed_by (Some vector) state = interrupted vector state
passed_by None state = (step state).after

-- what the devices' cycle makes of the state
abbrev pub passed : State → State
passed state = passed_by (chosen state) state
