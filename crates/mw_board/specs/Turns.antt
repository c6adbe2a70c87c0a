-- One cycle of the board.
use Rattle.std.specs.Prelude.{◌≡◌, ⊤, Some, None}
use Rattle.mw_isa.specs.declared.event.Event.{Event}
use Rattle.mw_isa.specs.Choose.{chosen}
use Rattle.mw_isa.specs.Cycle.{next_event, passed}
use Rattle.mw_isa.specs.Discipline.{Kept, first_offence}
use Rattle.mw_isa.specs.Disciplined.{IsAllowed, kept_behind}
use Rattle.mw_isa.specs.State.{State}
use Rattle.mw_board.specs.declared.turn.Halt.{Halt}
use Rattle.mw_board.specs.declared.turn.Halt.TheVariants.{Offence, NoMemory}

-- this event is the cycle's, it keeps the update discipline, and the record and the state behind it are these
pub record IsTurned (event : Event) (kept : Kept) (before : State) (left : Kept) (after : State) : Type 0 where
  pub happens : event ≡ next_event before
  pub allowed : IsAllowed event kept before
  pub keeps : left ≡ kept_behind kept event before
  pub leaves : after ≡ passed before

-- the cycle has no event, and the state is as it was: no interrupt is taken in place of the next instruction, whose first
-- access that breaks the update discipline is this one; or memory is wanting
abbrev pub IsHalted : Halt → Kept → State → State → Type 0
IsHalted (Offence access) kept before after = (first_offence kept before ≡ Some access) × (chosen before ≡ None) × (after ≡ before)
IsHalted NoMemory kept before after = ⊤
