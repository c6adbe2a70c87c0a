-- What an instruction leaves as it was.
use Rattle.std.proofs.Common.{◌≡◌, ◌≢◌, ℕ, zero, suc, ◌<◌, ◌≤◌, Bool, true, false, not, ◌&&◌, cond, List, [], ◌∷◌, ◌++◌, Option, Some, None, Result, Ok, Err, IfSome, option_map, slice_get, refl, sym, ap, ◌∙◌, subst, arith}
use Rattle.std.specs.Option.{option_map_or}
use Rattle.std.proofs.lemmas.Bool.{not-true}
use Rattle.mw_decode.specs.declared.insn.Insn.{Insn}
use Rattle.mw_decode.specs.Decode.{IsInsn}
use Rattle.mw_isa.specs.declared.memory.MemOp.{MemOp}
use Rattle.mw_isa.specs.declared.memory.MemWhat.{MemWhat}
use Rattle.mw_isa.specs.declared.memory.MemWhat.TheVariants.{Load, Store, Conditional, Zero, Clean, Icbi}
use Rattle.mw_isa.specs.declared.numbered.SprRefusal.{SprRefusal}
use Rattle.mw_isa.specs.declared.operation.FieldRow.{FieldRow}
use Rattle.mw_isa.specs.declared.operation.FieldRow.TheVariants.{CompareNumber, Compare, InRange, EqualsByte, FromXer, FromField, Logic}
use Rattle.mw_isa.specs.declared.operation.Operation.{Operation}
use Rattle.mw_isa.specs.declared.operation.Operation.TheVariants.{Alu, Product, Quotient, Branch, Field, Fields, Pick, Trap, Storage, Hint, Call, System}
use Rattle.mw_isa.specs.declared.operation.SystemWhat.{SystemWhat}
use Rattle.mw_isa.specs.declared.operation.SystemWhat.TheVariants.{Return, Isync, Sync, Order, ReadMsr, WriteMsr, Tlbie, ReadSpr, WriteSpr, Random}
use Rattle.mw_isa.specs.declared.outcome.Operands.{Operands}
use Rattle.mw_isa.specs.declared.outcome.Outcome.{Outcome}
use Rattle.mw_isa.specs.declared.outcome.Outcome.TheVariants.{Done, Long, Memory, System as Asked, Trap as Trapped}
use Rattle.mw_isa.specs.declared.outcome.Target.{Target}
use Rattle.mw_isa.specs.declared.pages.Stretches.{Stretches}
use Rattle.mw_isa.specs.declared.place.Places.{Places}
use Rattle.mw_isa.specs.declared.regs.Regs.{Regs}
use Rattle.mw_isa.specs.declared.slot.Slot.{Slot}
use Rattle.mw_isa.specs.declared.slot.Slot.TheVariants.{Gpr, CrField, Xer, Lr, Ctr, Tar}
use Rattle.mw_isa.specs.declared.system.SysOp.{SysOp}
use Rattle.mw_isa.specs.declared.system.SysOp.TheVariants.{ReadSpr as ReadByNumber, WriteSpr as WriteByNumber, WriteMsr as MsrWritten, Return as Returning, Tlbie as GivingUp, Sync as Synchronizing, Isync as FetchingAnew}
use Rattle.mw_isa.specs.State.{State}
use Rattle.mw_isa.specs.Branches.{falls}
use Rattle.mw_isa.specs.Condition.{is_chosen}
use Rattle.mw_isa.specs.Endings.{slot_if, writes_field, writes_xer}
use Rattle.mw_isa.specs.Execute.{access_of, behind_insn, branch_to, can_store, effect_of, exec_of, field_written, is_refused, is_serializing, is_serializing_by, is_storing, refusal, system_effect, traps, updated_of, written_of}
use Rattle.mw_isa.specs.Finish.{finished}
use Rattle.mw_isa.specs.Long.{result_of}
use Rattle.mw_isa.specs.declared.vector.Vector.TheVariants.{Program}
use Rattle.mw_isa.specs.Msr.{bit_at, trap_place}
use Rattle.mw_isa.specs.Operations.{operations}
use Rattle.mw_isa.specs.Pages.{is_in_ram, laid_in}
use Rattle.mw_isa.specs.Places.{AreLimited, HasLimits, HasRegisters, IsRegister, field_roles, operand_of, places_of}
use Rattle.mw_isa.specs.Raises.{Placed, outcome_raises}
use Rattle.mw_isa.specs.Reads.{register_at}
use Rattle.mw_isa.specs.Slots.{AreSlots, IsAbsent, IsSlot, get_slot, set_slot, set_target, set_targets, slots_of}
use Rattle.mw_isa.specs.Special.{bo_of, fields_in, slots_in}
use Rattle.mw_isa.specs.Sprs.{read_of}
use Rattle.mw_isa.specs.Step.{written}
use Rattle.mw_isa.specs.Storage.{access_targets, accessed, is_reserved, loads, reserve_behind, stored_bytes, stores}
use Rattle.mw_isa.specs.System.{regs_reading, system_part}
use Rattle.mw_isa.specs.Targets.{access_slots, asked_slots, targets_by, targets_of, update_slots, written_slots}
use Rattle.mw_isa.proofs.ReadLaws.{access-slots, exec-targets, finished-slots}
use Rattle.mw_isa.proofs.RowLaws.{limited, registers}
use Rattle.mw_isa.proofs.SlotLaws.{get-set-other}

-- a register that is set by name leaves the registers of the system
part-slot : (regs : Regs) (slot : Slot) (value : ℕ) → system_part (set_slot regs slot value) ≡ system_part regs
part-slot regs (Gpr n) value = refl
part-slot regs (CrField n) value = refl
part-slot regs Xer value = refl
part-slot regs Lr value = refl
part-slot regs Ctr value = refl
part-slot regs Tar value = refl

part-known : (slot : Slot) (value : Option ℕ) (regs : Regs) → system_part (option_map_or (λ (v : ℕ). set_slot regs slot v) value regs) ≡ system_part regs
part-known slot None regs = refl
part-known slot (Some value) regs = part-slot regs slot value

-- registers that are set by name leave the registers of the system
pub part-targets : (targets : List Target) (regs : Regs) → system_part (set_targets targets regs) ≡ system_part regs
part-targets [] regs = refl
part-targets (target ∷ targets) regs = part-targets targets (set_target target regs) ∙ part-known target.slot target.value regs

-- a read by number leaves them
pub part-reading : (to : ℕ) (read : Result (Option ℕ) SprRefusal) (regs : Regs) → system_part (regs_reading to read regs) ≡ system_part regs
part-reading to (Ok None) regs = refl
part-reading to (Ok (Some value)) regs = part-slot regs (Gpr to) value
part-reading to (Err refused) regs = refl

-- an access leaves them
pub part-access : (op : MemOp) (at : Stretches) (state : State) → system_part (accessed op at state).regs ≡ system_part state.regs
unfolding accessed
part-access op at state =
    part-targets (access_targets op.what op (loads op.what op at state) (is_reserved at state.regs.reserve) state.regs.xer) state.regs

-- an instruction of the system writes none of the system's registers
abbrev keeps_op : SysOp → Bool
keeps_op (ReadByNumber to spr) = true
keeps_op op = false

-- an outcome writes none of the system's registers
abbrev keeps : Outcome → Bool
keeps (Asked op) = keeps_op op
keeps outcome = true

part-asked : (op : SysOp) (placed : Option Placed) (state : State) → keeps_op op ≡ true → system_part (written (Asked op) placed state).regs ≡ system_part state.regs
part-asked (ReadByNumber to spr) placed state e = part-reading to (read_of spr state.regs state.devices) state.regs
part-asked (WriteByNumber spr value) placed state e = cc
part-asked (MsrWritten value l) placed state e = cc
part-asked (Returning hypervisor) placed state e = cc
part-asked (GivingUp scope) placed state e = cc
part-asked (Synchronizing l) placed state e = cc
part-asked FetchingAnew placed state e = cc

part-written : (outcome : Outcome) (placed : Option Placed) (state : State) → keeps outcome ≡ true → system_part (written outcome placed state).regs ≡ system_part state.regs
part-written (Done targets next) placed state e = part-targets targets.items state.regs
part-written (Long op) placed state e = part-targets (finished op (result_of op) state.regs.xer) state.regs
part-written (Trapped vector cause) placed state e = refl
part-written (Asked op) placed state e = part-asked op placed state e
part-written (Memory op) None state e = refl
part-written (Memory op) (Some (Err fault)) state e = refl
part-written (Memory op) (Some (Ok at)) state e = part-access op at state

-- a trap, an access, what a row of the system that isn't serializing asks for, and a refusal write none of the system's registers
keeps-trap : (b : Bool) (cause next : ℕ) → keeps (cond b (Trapped Program cause) (branch_to next)) ≡ true
keeps-trap true cause next = refl
keeps-trap false cause next = refl

keeps-access : (b : Bool) (op : MemOp) → keeps (cond b refusal (Memory op)) ≡ true
keeps-access true op = refl
keeps-access false op = refl

keeps-system : (b : Bool) (what : SystemWhat) (places : Places) (insn : Insn) (o : Operands) (cia : ℕ) → is_serializing_by what ≡ false → keeps (cond b refusal (system_effect what places insn o cia)) ≡ true
keeps-system true what places insn o cia e = refl
keeps-system false (Return hypervisor) places insn o cia e = cc
keeps-system false Isync places insn o cia e = cc
keeps-system false Sync places insn o cia e = cc
keeps-system false Order places insn o cia e = refl
keeps-system false ReadMsr places insn o cia e = refl
keeps-system false WriteMsr places insn o cia e = cc
keeps-system false Tlbie places insn o cia e = cc
keeps-system false ReadSpr places insn o cia e = refl
keeps-system false WriteSpr places insn o cia e = cc
keeps-system false Random places insn o cia e = refl

effect-keeps : (operation : Operation) (insn : Insn) (o : Operands) (cia : ℕ) → is_serializing operation ≡ false → keeps (effect_of operation insn o cia) ≡ true
effect-keeps (Alu row) insn o cia e = refl
effect-keeps (Product row) insn o cia e = refl
effect-keeps (Quotient row) insn o cia e = refl
effect-keeps (Branch row) insn o cia e = refl
effect-keeps (Field row) insn o cia e = refl
effect-keeps Fields insn o cia e = refl
effect-keeps (Pick row) insn o cia e = refl
effect-keeps (Trap row) insn o cia e = keeps-trap (traps row insn o) (bit_at trap_place) (behind_insn insn cia)
effect-keeps (Storage row) insn o cia e = keeps-access (is_refused row.privilege insn o.msr) (access_of row insn o cia)
effect-keeps Hint insn o cia e = refl
effect-keeps Call insn o cia e = refl
effect-keeps (System row) insn o cia e = keeps-system (is_refused row.privilege insn o.msr) row.what (places_of (System row)) insn o cia e

-- what an instruction comes to is what its operation does
exec-effect : (insn : Insn) (operation : Operation) (o : Operands) (cia : ℕ) (outcome : Outcome) → slice_get operations insn.row ≡ Some operation → exec_of insn o cia ≡ Some outcome → effect_of operation insn o cia ≡ outcome
unfolding exec_of
exec-effect insn operation o cia outcome at e =
    let there : Some (effect_of operation insn o cia) ≡ Some outcome = ap (option_map (λ (known : Operation). effect_of known insn o cia)) (sym at) ∙ e in
    cc

-- an instruction that isn't serializing leaves MSR, the registers that interrupts save to and those of translation
pub system-stays : (insn : Insn) (operation : Operation) (o : Operands) (cia : ℕ) (outcome : Outcome) (placed : Option Placed) (state : State) → slice_get operations insn.row ≡ Some operation → is_serializing operation ≡ false → exec_of insn o cia ≡ Some outcome → system_part (written outcome placed state).regs ≡ system_part state.regs
system-stays insn operation o cia outcome placed state at calm e =
    part-written outcome placed state (ap keeps (sym (exec-effect insn operation o cia outcome at e)) ∙ effect-keeps operation insn o cia calm)

-- an access that can't store doesn't store
stores-not : (what : MemWhat) (reserved : Bool) → can_store what ≡ false → stores what reserved ≡ false
stores-not (Load signed reversed reserve) reserved e = refl
stores-not (Store reversed) reserved e = cc
stores-not (Conditional reversed) reserved e = cc
stores-not Zero reserved e = cc
stores-not Clean reserved e = refl
stores-not Icbi reserved e = refl

-- an outcome stores nothing
abbrev keeps_ram : Outcome → Bool
keeps_ram (Memory op) = not (can_store op.what)
keeps_ram outcome = true

ram-access : (op : MemOp) (at : Stretches) (state : State) → not (can_store op.what) ≡ true → (accessed op at state).ram ≡ state.ram
unfolding accessed
ram-access op at state e =
    ap (λ (b : Bool). cond (b && is_in_ram at) (laid_in state.ram at (stored_bytes op.what op)) state.ram) (stores-not op.what (is_reserved at state.regs.reserve) (not-true (can_store op.what) e))

ram-written : (outcome : Outcome) (placed : Option Placed) (state : State) → keeps_ram outcome ≡ true → (written outcome placed state).ram ≡ state.ram
ram-written (Done targets next) placed state e = refl
ram-written (Long op) placed state e = refl
ram-written (Trapped vector cause) placed state e = refl
ram-written (Asked op) placed state e = refl
ram-written (Memory op) None state e = refl
ram-written (Memory op) (Some (Err fault)) state e = refl
ram-written (Memory op) (Some (Ok at)) state e = ram-access op at state e

ram-trap : (b : Bool) (cause next : ℕ) → keeps_ram (cond b (Trapped Program cause) (branch_to next)) ≡ true
ram-trap true cause next = refl
ram-trap false cause next = refl

ram-stored : (b : Bool) (op : MemOp) → can_store op.what ≡ false → keeps_ram (cond b refusal (Memory op)) ≡ true
ram-stored true op e = refl
ram-stored false op e = ap not e

ram-system : (b : Bool) (what : SystemWhat) (places : Places) (insn : Insn) (o : Operands) (cia : ℕ) → keeps_ram (cond b refusal (system_effect what places insn o cia)) ≡ true
ram-system true what places insn o cia = refl
ram-system false (Return hypervisor) places insn o cia = refl
ram-system false Isync places insn o cia = refl
ram-system false Sync places insn o cia = refl
ram-system false Order places insn o cia = refl
ram-system false ReadMsr places insn o cia = refl
ram-system false WriteMsr places insn o cia = refl
ram-system false Tlbie places insn o cia = refl
ram-system false ReadSpr places insn o cia = refl
ram-system false WriteSpr places insn o cia = refl
ram-system false Random places insn o cia = refl

effect-ram : (operation : Operation) (insn : Insn) (o : Operands) (cia : ℕ) → is_storing operation ≡ false → keeps_ram (effect_of operation insn o cia) ≡ true
effect-ram (Alu row) insn o cia e = refl
effect-ram (Product row) insn o cia e = refl
effect-ram (Quotient row) insn o cia e = refl
effect-ram (Branch row) insn o cia e = refl
effect-ram (Field row) insn o cia e = refl
effect-ram Fields insn o cia e = refl
effect-ram (Pick row) insn o cia e = refl
effect-ram (Trap row) insn o cia e = ram-trap (traps row insn o) (bit_at trap_place) (behind_insn insn cia)
effect-ram (Storage row) insn o cia e = ram-stored (is_refused row.privilege insn o.msr) (access_of row insn o cia) e
effect-ram Hint insn o cia e = refl
effect-ram Call insn o cia e = refl
effect-ram (System row) insn o cia e = ram-system (is_refused row.privilege insn o.msr) row.what (places_of (System row)) insn o cia

-- an instruction that stores nothing leaves RAM
pub ram-stays : (insn : Insn) (operation : Operation) (o : Operands) (cia : ℕ) (outcome : Outcome) (placed : Option Placed) (state : State) → slice_get operations insn.row ≡ Some operation → is_storing operation ≡ false → exec_of insn o cia ≡ Some outcome → (written outcome placed state).ram ≡ state.ram
ram-stays insn operation o cia outcome placed state at calm e =
    ram-written outcome placed state (ap keeps_ram (sym (exec-effect insn operation o cia outcome at e)) ∙ effect-ram operation insn o cia calm)

-- registers that there are, one list behind the other
are-append : (slots others : List Slot) → AreSlots slots → AreSlots others → AreSlots (slots ++ others)
are-append [] others a b = b
are-append (slot ∷ slots) others a b = (a.0, are-append slots others a.1 b)

are-if : (asked : Bool) (slot : Slot) → IsSlot slot → AreSlots (slots_in (slot_if asked slot))
are-if true slot is = (is, tt)
are-if false slot is = tt

are-at : (insn : Insn) (place : Option ℕ) → IfSome place (IsRegister insn) → AreSlots (slots_in (register_at insn place))
are-at insn None is = tt
are-at insn (Some at) is = (is, tt)

lt-at : (insn : Insn) (place : Option ℕ) → IfSome place (IsRegister insn) → option_map_or (operand_of insn) place 0 < 32
lt-at insn None is = omega arith
lt-at insn (Some at) is = is

are-fields : (mask n : ℕ) → n ≤ 8 → AreSlots (fields_in mask n)
are-fields mask zero few = tt
are-fields mask (suc n) few = are-append (fields_in mask n) (slots_in (slot_if (is_chosen mask n) (CrField n))) (are-fields mask n (omega arith)) (are-if (is_chosen mask n) (CrField n) (omega arith))

field-lt : (row : FieldRow) (insn : Insn) → AreLimited insn 0 (field_roles row) → field_written row insn < 8
field-lt (CompareNumber signed) insn h = h.0
field-lt (Compare signed) insn h = h.0
field-lt InRange insn h = h.0
field-lt EqualsByte insn h = h.0
field-lt FromXer insn h = h.0
field-lt FromField insn h = h.0
field-lt (Logic logic) insn h = omega (arith, h.0)

are-updated : (update : Option ℕ) → IfSome update (λ n. n < 32) → AreSlots (update_slots update)
are-updated None is = tt
are-updated (Some n) is = (is, tt)

updated-lt : (b : Bool) (insn : Insn) (base : Option ℕ) → IfSome base (IsRegister insn) → IfSome (cond b (option_map (operand_of insn) base) None) (λ n. n < 32)
updated-lt true insn None is = tt
updated-lt true insn (Some at) is = is
updated-lt false insn base is = tt

are-accessed : (what : MemWhat) (to : ℕ) (update : Option ℕ) → to < 32 → IfSome update (λ n. n < 32) → AreSlots (access_slots what to update)
are-accessed (Load signed reversed reserve) to update small is = (small, are-updated update is)
are-accessed (Store reversed) to update small is = are-updated update is
are-accessed (Conditional reversed) to update small is = (omega arith, tt)
are-accessed Zero to update small is = tt
are-accessed Clean to update small is = tt
are-accessed Icbi to update small is = tt

-- of three registers that may be there each is one that there is
are-three : (a b c : Option Slot) → AreSlots (slots_in a) → AreSlots (slots_in b) → AreSlots (slots_in c) → AreSlots (slots_in a ++ slots_in b ++ slots_in c)
are-three a b c x y z = are-append (slots_in a ++ slots_in b) (slots_in c) (are-append (slots_in a) (slots_in b) x y) z

targets-by : (operation : Operation) (insn : Insn) → HasRegisters insn (places_of operation) → HasLimits insn operation → AreSlots (targets_by operation insn)
targets-by (Alu row) insn r l =
    are-three (register_at insn (places_of (Alu row)).written) (slot_if (writes_xer row.ending insn) Xer) (slot_if (writes_field row.ending insn) (CrField 0)) (are-at insn (places_of (Alu row)).written r.at_written) (are-if (writes_xer row.ending insn) Xer tt) (are-if (writes_field row.ending insn) (CrField 0) (omega arith))
targets-by (Product row) insn r l =
    are-three (Some (Gpr (written_of (places_of (Product row)) insn))) (slot_if insn.oe Xer) (slot_if insn.rc (CrField 0)) (lt-at insn (places_of (Product row)).written r.at_written, tt) (are-if insn.oe Xer tt) (are-if insn.rc (CrField 0) (omega arith))
targets-by (Quotient row) insn r l =
    are-three (Some (Gpr (written_of (places_of (Quotient row)) insn))) (slot_if insn.oe Xer) (slot_if insn.rc (CrField 0)) (lt-at insn (places_of (Quotient row)).written r.at_written, tt) (are-if insn.oe Xer tt) (are-if insn.rc (CrField 0) (omega arith))
targets-by (Branch row) insn r l = are-append (slots_in (slot_if (falls (bo_of row insn)) Ctr)) (slots_in (slot_if insn.lk Lr)) (are-if (falls (bo_of row insn)) Ctr tt) (are-if insn.lk Lr tt)
targets-by (Field row) insn r l = (field-lt row insn l, tt)
targets-by Fields insn r l = are-fields (operand_of insn 0) 8 (omega arith)
targets-by (Pick row) insn r l = are-at insn (places_of (Pick row)).written r.at_written
targets-by (Trap row) insn r l = tt
targets-by (Storage row) insn r l =
    are-accessed row.what (written_of (places_of (Storage row)) insn) (updated_of row (places_of (Storage row)) insn) (lt-at insn (places_of (Storage row)).written r.at_written) (updated-lt row.update insn (places_of (Storage row)).base r.at_base)
targets-by Hint insn r l = tt
targets-by Call insn r l = tt
targets-by (System row) insn r l = are-at insn (places_of (System row)).written r.at_written

-- an instruction of the table writes registers that there are
pub targets-are : (insn : Insn) (operation : Operation) → IsInsn insn → slice_get operations insn.row ≡ Some operation → AreSlots (targets_of insn)
unfolding targets_of
targets-are insn operation is at =
    subst (λ (o : Option Operation). AreSlots (option_map_or (λ known. targets_by known insn) o [])) (sym at) (targets-by operation insn (registers insn operation is at) (limited insn operation is at))

-- a register that isn't set stays
get-known : (slot other : Slot) (value : Option ℕ) (regs : Regs) → IsSlot slot → IsSlot other → other ≢ slot → get_slot (option_map_or (λ (v : ℕ). set_slot regs slot v) value regs) other ≡ get_slot regs other
get-known slot other None regs a b apart = refl
get-known slot other (Some value) regs a b apart = get-set-other regs slot other value a b apart

get-targets : (targets : List Target) (regs : Regs) (other : Slot) → IsSlot other → AreSlots (slots_of targets) → IsAbsent other (slots_of targets) → get_slot (set_targets targets regs) other ≡ get_slot regs other
get-targets [] regs other is are absent = refl
get-targets (target ∷ targets) regs other is are absent =
    get-targets targets (set_target target regs) other is are.1 absent.1 ∙ get-known target.slot other target.value regs are.0 is absent.0

-- a register that isn't in a list of registers that are set stays
get-of : (targets : List Target) (slots : List Slot) (regs : Regs) (other : Slot) → slots_of targets ≡ slots → IsSlot other → AreSlots slots → IsAbsent other slots → get_slot (set_targets targets regs) other ≡ get_slot regs other
get-of targets slots regs other e is are absent =
    get-targets targets regs other is (subst AreSlots (sym e) are) (subst (IsAbsent other) (sym e) absent)

get-reading : (to : ℕ) (read : Result (Option ℕ) SprRefusal) (regs : Regs) (other : Slot) → to < 32 → IsSlot other → other ≢ Gpr to → get_slot (regs_reading to read regs) other ≡ get_slot regs other
get-reading to (Ok None) regs other small is apart = refl
get-reading to (Ok (Some value)) regs other small is apart = get-set-other regs (Gpr to) other value small is apart
get-reading to (Err refused) regs other small is apart = refl

-- the reservation is no register by name
reserve-other : (regs : Regs) (reserve : Option ℕ) (other : Slot) → get_slot (record regs { reserve = reserve }) other ≡ get_slot regs other
reserve-other regs reserve (Gpr n) = refl
reserve-other regs reserve (CrField n) = refl
reserve-other regs reserve Xer = refl
reserve-other regs reserve Lr = refl
reserve-other regs reserve Ctr = refl
reserve-other regs reserve Tar = refl

get-access : (op : MemOp) (at : Stretches) (state : State) (other : Slot) → IsSlot other → AreSlots (access_slots op.what op.to op.update) → IsAbsent other (access_slots op.what op.to op.update) → get_slot (accessed op at state).regs other ≡ get_slot state.regs other
unfolding accessed
get-access op at state other is are absent =
    reserve-other (set_targets (access_targets op.what op (loads op.what op at state) (is_reserved at state.regs.reserve) state.regs.xer) state.regs) (reserve_behind op.what at state.regs.reserve) other
    ∙ get-of (access_targets op.what op (loads op.what op at state) (is_reserved at state.regs.reserve) state.regs.xer) (access_slots op.what op.to op.update) state.regs other (access-slots op.what op (loads op.what op at state) (is_reserved at state.regs.reserve) state.regs.xer) is are absent

get-asked : (op : SysOp) (placed : Option Placed) (state : State) (other : Slot) → keeps_op op ≡ true → IsSlot other → AreSlots (asked_slots op) → IsAbsent other (asked_slots op) → get_slot (written (Asked op) placed state).regs other ≡ get_slot state.regs other
get-asked (ReadByNumber to spr) placed state other e is are absent = get-reading to (read_of spr state.regs state.devices) state.regs other are.0 is absent.0
get-asked (WriteByNumber spr value) placed state other e is are absent = cc
get-asked (MsrWritten value l) placed state other e is are absent = cc
get-asked (Returning hypervisor) placed state other e is are absent = cc
get-asked (GivingUp scope) placed state other e is are absent = cc
get-asked (Synchronizing l) placed state other e is are absent = cc
get-asked FetchingAnew placed state other e is are absent = cc

get-written : (outcome : Outcome) (placed : Option Placed) (state : State) (other : Slot) → keeps outcome ≡ true → IsSlot other → AreSlots (written_slots outcome) → IsAbsent other (written_slots outcome) → get_slot (written outcome placed state).regs other ≡ get_slot state.regs other
get-written (Done targets next) placed state other e is are absent = get-targets targets.items state.regs other is are absent
get-written (Long op) placed state other e is are absent =
    get-of (finished op (result_of op) state.regs.xer) (written_slots (Long op)) state.regs other (finished-slots op (result_of op) state.regs.xer) is are absent
get-written (Trapped vector cause) placed state other e is are absent = refl
get-written (Asked op) placed state other e is are absent = get-asked op placed state other e is are absent
get-written (Memory op) None state other e is are absent = refl
get-written (Memory op) (Some (Err fault)) state other e is are absent = refl
get-written (Memory op) (Some (Ok at)) state other e is are absent = get-access op at state other is are absent

-- an instruction that isn't serializing and raises nothing leaves every register that it isn't known to write
pub others-stay : (insn : Insn) (operation : Operation) (o : Operands) (cia : ℕ) (outcome : Outcome) (placed : Option Placed) (state : State) (other : Slot) → IsInsn insn → slice_get operations insn.row ≡ Some operation → is_serializing operation ≡ false → exec_of insn o cia ≡ Some outcome → outcome_raises outcome ≡ None → IsSlot other → IsAbsent other (targets_of insn) → get_slot (written outcome placed state).regs other ≡ get_slot state.regs other
others-stay insn operation o cia outcome placed state other is_insn at calm e quiet is absent =
    let slots = exec-targets insn o cia outcome e quiet in
    get-written outcome placed state other (ap keeps (sym (exec-effect insn operation o cia outcome at e)) ∙ effect-keeps operation insn o cia calm) is (subst AreSlots (sym slots) (targets-are insn operation is_insn at)) (subst (IsAbsent other) (sym slots) absent)
