-- One cycle of the board, from what mw_step and the monitor did.
use Rattle.std.proofs.Common.{◌≡◌, ℕ, List, Option, Some, None, refl, sym, ap, ap₂, ◌∙◌, subst}
use Rattle.mw_isa.specs.declared.event.Event.{Event}
use Rattle.mw_isa.specs.declared.offence.Access.{Access}
use Rattle.mw_isa.specs.declared.packet.Packet.{Packet}
use Rattle.mw_isa.specs.declared.raised.Raised.{Raised}
use Rattle.mw_isa.specs.declared.vector.Vector.{Vector}
use Rattle.mw_isa.specs.Choose.{chosen}
use Rattle.mw_isa.specs.Cycle.{event_at, next_event_by, passed_by}
use Rattle.mw_isa.specs.Discipline.{Kept, IsInRam, after, first_offence, next_packet, offends}
use Rattle.mw_isa.specs.Disciplined.{IsAllowed, kept_behind}
use Rattle.mw_isa.specs.State.{State}
use Rattle.mw_isa.specs.Step.{step}
use Rattle.mw_isa.proofs.DisciplineLaws.{deed-in_ram}
use Rattle.mw_board.specs.Turns.{IsTurned}

-- what the check of what was told of the next instruction says is the first offence, or none
pub offence-told : (kept : Kept) (state : State) (ram : List ℕ) (packet : Packet) (found : Option Access) → packet ≡ next_packet state → ram ≡ state.ram → offends kept ram state.regs packet ≡ found → first_offence kept state ≡ found
unfolding first_offence
offence-told kept state ram packet found told r e =
    ap₂ (λ (bytes : List ℕ) (p : Packet). offends kept bytes state.regs p) (sym r) (sym told) ∙ e

-- the deed that was told lies in RAM
pub told-in_ram : (state : State) (packet : Packet) → packet ≡ next_packet state → IsInRam packet.deed
told-in_ram state packet told = subst (λ (p : Packet). IsInRam p.deed) (sym told) (deed-in_ram state)

-- an instruction that has no offence is allowed, whether it traps
allowed-at : (trap : Option Raised) (kept : Kept) (state : State) → first_offence kept state ≡ None → IsAllowed (event_at trap state) kept state
allowed-at None kept state calm = calm
allowed-at (Some raised) kept state calm = calm

-- what is kept behind an instruction is told by it, whether it traps
kept-at : (trap : Option Raised) (kept : Kept) (state : State) → kept_behind kept (event_at trap state) state ≡ after kept state.ram state.regs (next_packet state)
kept-at None kept state = refl
kept-at (Some raised) kept state = refl

-- what was recorded of what was told of the next instruction is what it leaves
recorded : (kept left : Kept) (state : State) (ram : List ℕ) (packet : Packet) → packet ≡ next_packet state → ram ≡ state.ram → left ≡ after kept ram state.regs packet → left ≡ after kept state.ram state.regs (next_packet state)
recorded kept left state ram packet told r e = e ∙ ap₂ (λ (bytes : List ℕ) (p : Packet). after kept bytes state.regs p) r told

-- an instruction that keeps the discipline, carried out and recorded where no interrupt is chosen, is the cycle's
pub turned-carried : (state behind : State) (ram bytes : List ℕ) (event : Event) (kept left : Kept) (packet : Packet) → chosen state ≡ None → packet ≡ next_packet state → ram ≡ state.ram → bytes ≡ state.ram → offends kept ram state.regs packet ≡ None → left ≡ after kept bytes state.regs packet → event ≡ event_at (step state).trap state → behind ≡ (step state).after → IsTurned event kept state left behind
turned-carried state behind ram bytes event kept left packet calm told r b keeps l e a =
    let trap = (step state).trap in record {
      happens = e ∙ ap (λ (choice : Option Vector). next_event_by choice state) (sym calm);
      allowed = subst (λ (x : Event). IsAllowed x kept state) (sym e) (allowed-at trap kept state (offence-told kept state ram packet None told r keeps));
      keeps = recorded kept left state bytes packet told b l ∙ sym (kept-at trap kept state) ∙ ap (λ (x : Event). kept_behind kept x state) (sym e);
      leaves = a ∙ ap (λ (choice : Option Vector). passed_by choice state) (sym calm);
    }
