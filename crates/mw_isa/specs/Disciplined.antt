-- Events that keep the update discipline: what is kept beside the machine while they are replayed, and that none of their
-- instructions has an access that breaks it.
use Rattle.std.specs.Prelude.{⊤, ◌≡◌, List, [], ◌∷◌, None, Some, IfSome}
use Rattle.std.specs.Option.{option_map_or}
use Rattle.mw_isa.specs.declared.event.Event.{Event}
use Rattle.mw_isa.specs.declared.event.Event.TheVariants.{Retire, Trap, Irq}
use Rattle.mw_isa.specs.declared.event.End.{End}
use Rattle.mw_isa.specs.declared.event.End.TheVariants.{Ran, Offence}
use Rattle.mw_isa.specs.State.{State, brought}
use Rattle.mw_isa.specs.Choose.{chosen}
use Rattle.mw_isa.specs.Discipline.{Kept, after, first_offence, next_packet, synced}
use Rattle.mw_isa.specs.Replay.{applied, cycle_of_event}

-- what is kept behind an event, by the state before it, whose devices stand at its cycle
abbrev pub kept_behind : Kept → Event → State → Kept
kept_behind kept (Retire cycle cia word suffix) state = after kept state.ram state.regs (next_packet state)
kept_behind kept (Trap cycle cia vector) state = after kept state.ram state.regs (next_packet state)
kept_behind kept (Irq cycle nia vector) state = synced kept

-- what is kept behind events, one after another, where each is defined
abbrev pub kept_after : List Event → Kept → State → Kept
kept_after [] kept state = kept
kept_after (event ∷ events) kept state = option_map_or (kept_after events (kept_behind kept event (brought (cycle_of_event event) state))) (applied event state) kept

-- an event of an instruction has no access that breaks the discipline
abbrev pub IsAllowed : Event → Kept → State → Type 0
IsAllowed (Retire cycle cia word suffix) kept state = first_offence kept state ≡ None
IsAllowed (Trap cycle cia vector) kept state = first_offence kept state ≡ None
IsAllowed (Irq cycle nia vector) kept state = ⊤

-- no event has, each by what is kept and the state before it, with the devices brought to its cycle
abbrev pub IsDisciplined : List Event → Kept → State → Type 0
IsDisciplined [] kept state = ⊤
IsDisciplined (event ∷ events) kept state =
    IsAllowed event kept (brought (cycle_of_event event) state)
    × IfSome (applied event state) (IsDisciplined events (kept_behind kept event (brought (cycle_of_event event) state)))

-- a run ends with an offence where the next instruction has it as its first, and no interrupt is taken in its place
abbrev pub OffendsBy : End → Kept → State → Type 0
OffendsBy (Ran cycle) kept last = ⊤
OffendsBy (Offence cycle access) kept last = (first_offence kept last ≡ Some access) × (chosen last ≡ None)
