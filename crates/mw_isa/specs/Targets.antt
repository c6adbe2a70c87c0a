-- The registers that an instruction writes, known before their values.
use Rattle.std.specs.Prelude.{ℕ, Bool, List, [], ◌∷◌, ◌++◌, Option, Some, None, slice_get}
use Rattle.std.specs.Option.{option_map_or}
use Rattle.mw_decode.specs.declared.insn.Insn.{Insn}
use Rattle.mw_isa.specs.declared.memory.MemWhat.{MemWhat}
use Rattle.mw_isa.specs.declared.memory.MemWhat.TheVariants.{Load, Store, Conditional}
use Rattle.mw_isa.specs.declared.long.LongOp.{LongOp}
use Rattle.mw_isa.specs.declared.long.LongOp.TheVariants.{Mul, Div}
use Rattle.mw_isa.specs.declared.operation.BranchRow.{BranchRow}
use Rattle.mw_isa.specs.declared.operation.Ending.{Ending}
use Rattle.mw_isa.specs.declared.operation.Operation.{Operation}
use Rattle.mw_isa.specs.declared.operation.Operation.TheVariants.{Alu, Product, Quotient, Branch, Field, Fields, Pick, Trap, Storage, Hint, Call, System}
use Rattle.mw_isa.specs.declared.outcome.Outcome.{Outcome}
use Rattle.mw_isa.specs.declared.outcome.Outcome.TheVariants.{Done, Long, Memory, System as Asked, Trap as Trapped}
use Rattle.mw_isa.specs.declared.place.Places.{Places}
use Rattle.mw_isa.specs.declared.system.SysOp.{SysOp}
use Rattle.mw_isa.specs.declared.system.SysOp.TheVariants.{ReadSpr}
use Rattle.mw_isa.specs.declared.slot.Slot.{Slot}
use Rattle.mw_isa.specs.declared.slot.Slot.TheVariants.{Gpr, CrField, Xer, Lr, Ctr}
use Rattle.mw_isa.specs.Branches.{falls}
use Rattle.mw_isa.specs.Execute.{field_written, written_of, updated_of}
use Rattle.mw_isa.specs.Endings.{slot_if, writes_field, writes_xer}
use Rattle.mw_isa.specs.Operations.{operations}
use Rattle.mw_isa.specs.Places.{operand_of, places_of}
use Rattle.mw_isa.specs.Reads.{register_at}
use Rattle.mw_isa.specs.Special.{bo_of, fields_in, slots_in}
use Rattle.mw_isa.specs.Slots.{slots_of}

-- RA, where it is updated
abbrev pub update_slots : Option ℕ → List Slot
update_slots None = []
update_slots (Some n) = Gpr n ∷ []

-- what an access writes: RT of a load, then RA with update; of a store RA with update; of a store-conditional CR field 0
abbrev pub access_slots : MemWhat → ℕ → Option ℕ → List Slot
access_slots (Load signed reversed reserve) to update = Gpr to ∷ update_slots update
access_slots (Store reversed) to update = update_slots update
access_slots (Conditional reversed) to update = CrField 0 ∷ []
access_slots what to update = []

-- what is written at the end of an arithmetic row, in order: the result's register, XER and CR field 0
abbrev pub ending_slots : Ending → Places → Insn → List Slot
ending_slots ending places insn =
    slots_in (register_at insn places.written) ++ slots_in (slot_if (writes_xer ending insn) Xer) ++ slots_in (slot_if (writes_field ending insn) (CrField 0))

-- what is written at the end of a product or a quotient, in order: the result's register, XER with OE, CR field 0 with Rc
abbrev pub end_slots : ℕ → Bool → Bool → List Slot
end_slots to oe rc = slots_in (Some (Gpr to)) ++ slots_in (slot_if oe Xer) ++ slots_in (slot_if rc (CrField 0))

-- what a long operation writes
abbrev pub long_slots : LongOp → List Slot
long_slots (Mul unit high word to oe rc) = end_slots to oe rc
long_slots (Div unit rest word to oe rc) = end_slots to oe rc

-- what a branch writes, in order: CTR where it falls, LR with LK
abbrev pub branch_slots : BranchRow → Insn → List Slot
branch_slots row insn = slots_in (slot_if (falls (bo_of row insn)) Ctr) ++ slots_in (slot_if insn.lk Lr)

-- what an operation writes, in order
abbrev pub targets_by : Operation → Insn → List Slot
targets_by (Alu row) insn = ending_slots row.ending (places_of (Alu row)) insn
targets_by (Product row) insn = end_slots (written_of (places_of (Product row)) insn) insn.oe insn.rc
targets_by (Quotient row) insn = end_slots (written_of (places_of (Quotient row)) insn) insn.oe insn.rc
targets_by (Branch row) insn = branch_slots row insn
targets_by (Field row) insn = CrField (field_written row insn) ∷ []
targets_by Fields insn = fields_in (operand_of insn 0) 8
targets_by (Pick row) insn = slots_in (register_at insn (places_of (Pick row)).written)
targets_by (Trap row) insn = []
targets_by (Storage row) insn = access_slots row.what (written_of (places_of (Storage row)) insn) (updated_of row (places_of (Storage row)) insn)
targets_by Hint insn = []
targets_by Call insn = []
targets_by (System row) insn = slots_in (register_at insn (places_of (System row)).written)

-- the registers that an instruction writes, in order
unfoldable pub targets_of : Insn → List Slot
targets_of insn = option_map_or (λ operation. targets_by operation insn) (slice_get operations insn.row) []

-- what an instruction of the system writes of these registers: RT, if it reads one by its number
abbrev pub asked_slots : SysOp → List Slot
asked_slots (ReadSpr to spr) = Gpr to ∷ []
asked_slots op = []

-- the registers that an outcome writes, in order: those of its targets, of its long operation or of its access
abbrev pub written_slots : Outcome → List Slot
written_slots (Done targets next) = slots_of targets.items
written_slots (Long op) = long_slots op
written_slots (Memory op) = access_slots op.what op.to op.update
written_slots (Asked op) = asked_slots op
written_slots (Trapped vector cause) = []
