-- Nothing retires or traps while an enabled interrupt is pending (Book III, external and decrementer interrupts).
use Rattle.std.specs.Prelude.{⊤, Bool, not, ◌||◌, List, [], ◌∷◌, Option, Some, None, IsTrue, IfSome, is_some}
use Rattle.mw_isa.specs.declared.event.Event.{Event}
use Rattle.mw_isa.specs.declared.event.Event.TheVariants.{Retire, Trap, Irq}
use Rattle.mw_isa.specs.declared.vector.Vector.{Vector}
use Rattle.mw_isa.specs.State.{State, brought}
use Rattle.mw_isa.specs.Choose.{chosen}
use Rattle.mw_isa.specs.Replay.{applied, cycle_of_event}

-- the interrupt that an event takes between two instructions, if it does
abbrev pub irq_of : Event → Option Vector
irq_of (Retire cycle cia word suffix) = None
irq_of (Trap cycle cia vector) = None
irq_of (Irq cycle nia vector) = Some vector

-- an event takes an interrupt between two instructions, or none is chosen on the state before it
abbrev pub is_prompt : Event → State → Bool
is_prompt event state = is_some (irq_of event) || not (is_some (chosen state))

-- each event is prompt, on the state before it with the devices brought to its cycle
abbrev pub IsPrompt : List Event → State → Type 0
IsPrompt [] state = ⊤
IsPrompt (event ∷ events) state =
    IsTrue (is_prompt event (brought (cycle_of_event event) state)) × IfSome (applied event state) (IsPrompt events)
