-- The registers that an instruction reads beside those among its operands: fields of the condition register, XER, LR, CTR
-- and TAR.
use Rattle.std.specs.Prelude.{ℕ, zero, suc, Bool, true, false, ◌||◌, if◌then◌else◌, List, [], ◌∷◌, ◌++◌, Option, Some, None, bit_or}
use Rattle.mw_decode.specs.declared.insn.Insn.{Insn}
use Rattle.mw_isa.specs.declared.operation.BranchRow.{BranchRow}
use Rattle.mw_isa.specs.declared.operation.BranchRow.TheVariants.{B, Bclr, Bcctr, Bctar}
use Rattle.mw_isa.specs.declared.operation.FieldRow.{FieldRow}
use Rattle.mw_isa.specs.declared.operation.FieldRow.TheVariants.{CompareNumber, Compare, InRange, EqualsByte, FromXer, FromField, Logic}
use Rattle.mw_isa.specs.declared.operation.PickRow.{PickRow}
use Rattle.mw_isa.specs.declared.operation.PickRow.TheVariants.{Select, All, Chosen, Sign, Bit}
use Rattle.mw_isa.specs.declared.operation.Operation.{Operation}
use Rattle.mw_isa.specs.declared.operation.Operation.TheVariants.{Alu, Product, Quotient, Branch, Field, Fields, Pick, Trap, Storage, Hint, Call, System}
use Rattle.mw_isa.specs.declared.sources.Special.{Special}
use Rattle.mw_isa.specs.declared.slot.Slot.{Slot}
use Rattle.mw_isa.specs.declared.slot.Slot.TheVariants.{CrField, Xer, Lr, Ctr, Tar}
use Rattle.mw_isa.specs.Endings.{long_reads_xer, reads_xer, slot_if}
use Rattle.mw_isa.specs.Condition.{field_of_bit, field_mask, is_chosen}
use Rattle.mw_isa.specs.Branches.{bo_bit, falls}
use Rattle.mw_isa.specs.Places.{operand_of}

-- a register, if there is one, as a list
abbrev pub slots_in : Option Slot → List Slot
slots_in None = []
slots_in (Some slot) = slot ∷ []

-- of the first fields of the condition register those that a mask chooses, lowest number first
abbrev pub fields_in : ℕ → ℕ → List Slot
fields_in mask zero = []
fields_in mask (suc n) = fields_in mask n ++ slots_in (slot_if (is_chosen mask n) (CrField n))

-- nothing is read beside the operands
abbrev pub nothing : Special
nothing = record { fields = 0; xer = false; lr = false; ctr = false; tar = false }

-- XER, where it is asked
abbrev pub xer_alone : Bool → Special
xer_alone asked = record nothing { xer = asked }

-- fields of the condition register alone
abbrev pub fields_alone : ℕ → Special
fields_alone mask = record nothing { fields = mask }

-- the fields of three bits
abbrev pub three_fields : ℕ → ℕ → ℕ → ℕ
three_fields a b c = bit_or (field_mask (field_of_bit a)) (bit_or (field_mask (field_of_bit b)) (field_mask (field_of_bit c)))

-- BO and BI of a branch; b is one on BO 20, which always branches and counts nothing
abbrev pub bo_of : BranchRow → Insn → ℕ
bo_of B insn = 20
bo_of row insn = operand_of insn 0

abbrev pub bi_of : BranchRow → Insn → ℕ
bi_of B insn = 0
bi_of row insn = operand_of insn 1

-- tests of where a branch goes, one for each register: this one is of the address in LR
abbrev pub goes_to_lr : BranchRow → Bool
goes_to_lr Bclr = true
goes_to_lr row = false

abbrev pub goes_to_ctr : BranchRow → Bool
goes_to_ctr Bcctr = true
goes_to_ctr row = false

abbrev pub goes_to_tar : BranchRow → Bool
goes_to_tar Bctar = true
goes_to_tar row = false

-- a branch reads the field of BI where it goes by the bit, CTR where that falls or is the target, and the target
abbrev pub branch_special : BranchRow → Insn → Special
branch_special row insn = record {
  fields = if bo_bit (bo_of row insn) 0 then 0 else field_mask (field_of_bit (bi_of row insn));
  xer = false;
  lr = goes_to_lr row;
  ctr = falls (bo_of row insn) || goes_to_ctr row;
  tar = goes_to_tar row;
}

-- a row that sets a field reads XER for SO, or for its own bits; another field; or the fields of its three bits
abbrev pub field_special : FieldRow → Insn → Special
field_special (CompareNumber signed) insn = xer_alone true
field_special (Compare signed) insn = xer_alone true
field_special InRange insn = nothing
field_special EqualsByte insn = nothing
field_special FromXer insn = xer_alone true
field_special FromField insn = fields_alone (field_mask (operand_of insn 1))
field_special (Logic logic) insn = fields_alone (three_fields (operand_of insn 0) (operand_of insn 1) (operand_of insn 2))

-- the fields by which a row sets a register
abbrev pub picked_fields : PickRow → Insn → ℕ
picked_fields Select insn = field_mask (field_of_bit (operand_of insn 3))
picked_fields All insn = 255
picked_fields Chosen insn = operand_of insn 1
picked_fields Sign insn = field_mask (operand_of insn 1)
picked_fields (Bit negative reversed) insn = field_mask (field_of_bit (operand_of insn 1))

-- what an operation reads beside its operands
abbrev pub special_of : Operation → Insn → Special
special_of (Alu row) insn = xer_alone (reads_xer row insn)
special_of (Product row) insn = xer_alone (long_reads_xer insn)
special_of (Quotient row) insn = xer_alone (long_reads_xer insn)
special_of (Branch row) insn = branch_special row insn
special_of (Field row) insn = field_special row insn
special_of Fields insn = nothing
special_of (Pick row) insn = fields_alone (picked_fields row insn)
special_of (Trap row) insn = nothing
special_of (Storage row) insn = nothing
special_of Hint insn = nothing
special_of Call insn = nothing
special_of (System row) insn = nothing

-- XER, LR, CTR and TAR, where they are read
abbrev pub named_slots : Special → List Slot
named_slots special =
    slots_in (slot_if special.xer Xer) ++ (slots_in (slot_if special.lr Lr) ++ (slots_in (slot_if special.ctr Ctr) ++ slots_in (slot_if special.tar Tar)))

-- all registers that are read beside the operands: the fields, and then XER, LR, CTR and TAR
abbrev pub special_slots : Special → List Slot
special_slots special = fields_in special.fields 8 ++ named_slots special
