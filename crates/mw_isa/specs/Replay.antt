-- The sequential machine driven by events: before one acts, the devices go on to its cycle.
use Rattle.std.specs.Prelude.{ℕ, ◌==◌, Bool, true, false, not, ◌&&◌, if◌then◌else◌, List, [], ◌∷◌, Option, Some, None, is_some, map, option_map, option_and_then}
use Rattle.mw_isa.specs.declared.event.Event.{Event}
use Rattle.mw_isa.specs.declared.event.Event.TheVariants.{Retire, Trap, Irq}
use Rattle.mw_isa.specs.declared.vector.Vector.{Vector}
use Rattle.mw_isa.specs.Vectors.{address_of}
use Rattle.mw_isa.specs.State.{State, brought}
use Rattle.mw_isa.specs.Start.{Boot, start}
use Rattle.mw_isa.specs.Fetch.{word_of, suffix_of}
use Rattle.mw_isa.specs.declared.raised.Raised.{Raised}
use Rattle.mw_isa.specs.Step.{step}
use Rattle.mw_isa.specs.Choose.{chosen, interrupted}

-- the cycle of an event
abbrev pub cycle_of_event : Event → ℕ
cycle_of_event (Retire cycle cia word suffix) = cycle
cycle_of_event (Trap cycle cia vector) = cycle
cycle_of_event (Irq cycle nia vector) = cycle

-- the cycles of events, in order
abbrev pub cycles_of : List Event → List ℕ
cycles_of events = map cycle_of_event events

-- two suffixes, or none twice
abbrev pub same_suffix : Option ℕ → Option ℕ → Bool
same_suffix None None = true
same_suffix None (Some y) = false
same_suffix (Some x) None = false
same_suffix (Some x) (Some y) = x == y

-- an interrupt is raised, and it is this one
abbrev pub raises : Option Raised → Vector → Bool
raises None vector = false
raises (Some raised) vector = address_of raised.vector == address_of vector

-- an instruction of this address, word and suffix retires there: it raises no interrupt
abbrev pub retires : State → ℕ → ℕ → Option ℕ → Bool
retires state cia word suffix = not (is_some (step state).trap) && ((state.regs.cia == cia) && ((word_of (step state).carried.words == word) && same_suffix (suffix_of (step state).carried.words) suffix))

-- an instruction of this address traps there to this vector
abbrev pub traps : State → ℕ → Vector → Bool
traps state cia vector = (state.regs.cia == cia) && raises (step state).trap vector

-- an interrupt is chosen, and it is this one
abbrev pub chooses : Option Vector → Vector → Bool
chooses None vector = false
chooses (Some other) vector = address_of other == address_of vector

-- an interrupt to this vector is taken there, before the instruction of this address
abbrev pub interrupts : State → ℕ → Vector → Bool
interrupts state nia vector = (state.regs.cia == nia) && chooses (chosen state) vector

-- what an event makes of a state whose devices stand at its cycle, where it is defined
unfoldable pub acted : Event → State → Option State
acted (Retire cycle cia word suffix) state = if retires state cia word suffix then Some (step state).after else None
acted (Trap cycle cia vector) state = if traps state cia vector then Some (step state).after else None
acted (Irq cycle nia vector) state = if interrupts state nia vector then Some (interrupted vector state) else None

-- what an event makes of a state, where it is defined
abbrev pub applied : Event → State → Option State
applied event state = acted event (brought (cycle_of_event event) state)

-- what events make of a state, one after another, where each is defined
abbrev pub replay : List Event → State → Option State
replay [] state = Some state
replay (event ∷ events) state = option_and_then (replay events) (applied event state)

-- the state after events from the start of a boot, its devices brought to the stop
unfoldable pub state_after : Boot → List Event → ℕ → Option State
state_after boot events stop = option_map (brought stop) (replay events (start boot))
