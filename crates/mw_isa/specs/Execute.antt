-- What an instruction comes to, from the registers that it reads (Book I, fixed-point, storage access and branch
-- instructions).
use Rattle.std.specs.Prelude.{ℕ, zero, suc, ◌+◌, ◌-◌, ◌%◌, ◌^◌, ◌==◌, Bool, true, false, not, ◌&&◌, nat_le, if◌then◌else◌, List, [], ◌∷◌, ◌++◌, Option, Some, None, option_map, slice_get}
use Rattle.std.specs.Option.{option_map_or}
use Rattle.mw_alu.specs.declared.op.AluOut.{AluOut}
use Rattle.mw_alu.specs.Alu.{alu_of}
use Rattle.mw_alu.specs.Bits.{rotl32_of}
use Rattle.mw_bits.specs.Fields.{mask_of, rotl_of}
use Rattle.mw_decode.specs.declared.insn.Insn.{Insn}
use Rattle.mw_muldiv.specs.Division.{Division}
use Rattle.mw_muldiv.specs.Multiplication.{Multiplication}
use Rattle.mw_tables.specs.Matching.{has_prefix}
use Rattle.mw_isa.specs.declared.operation.Operation.{Operation}
use Rattle.mw_isa.specs.declared.operation.Operation.TheVariants.{Alu, Product, Quotient, Branch, Field, Fields, Pick, Trap, Storage, Hint, Call, System}
use Rattle.mw_isa.specs.declared.operation.AluRow.{AluRow}
use Rattle.mw_isa.specs.declared.operation.Carry.{Carry}
use Rattle.mw_isa.specs.declared.operation.Carry.TheVariants.{NoCarry, Ca, Ov}
use Rattle.mw_isa.specs.declared.operation.Ending.{Ending}
use Rattle.mw_isa.specs.declared.operation.Inputs.{Inputs}
use Rattle.mw_isa.specs.declared.operation.Inputs.TheVariants.{Next, WordShift, Shift, WordMask, WordMaskBy, WordInsert, Left, Right, Middle, Insert, LeftBy, RightBy}
use Rattle.mw_isa.specs.declared.long.LongOp.{LongOp}
use Rattle.mw_isa.specs.declared.long.LongOp.TheVariants.{Mul, Div}
use Rattle.mw_isa.specs.declared.operation.ProductRow.{ProductRow}
use Rattle.mw_isa.specs.declared.operation.QuotientRow.{QuotientRow}
use Rattle.mw_isa.specs.declared.operation.Privilege.{Privilege}
use Rattle.mw_isa.specs.declared.operation.Privilege.TheVariants.{Never, Always, Heavy}
use Rattle.mw_isa.specs.declared.operation.StorageRow.{StorageRow}
use Rattle.mw_isa.specs.declared.operation.SystemRow.{SystemRow}
use Rattle.mw_isa.specs.declared.operation.SystemWhat.{SystemWhat}
use Rattle.mw_isa.specs.declared.operation.SystemWhat.TheVariants.{Return, Isync, Sync, Order, ReadMsr, WriteMsr, Tlbie, ReadSpr, WriteSpr, Random}
use Rattle.mw_isa.specs.declared.system.SysOp.TheVariants.{ReadSpr as ReadByNumber, WriteSpr as WriteByNumber, WriteMsr as MsrWritten, Return as Returning, Tlbie as GivingUp, Sync as Synchronizing, Isync as FetchingAnew}
use Rattle.mw_isa.specs.declared.operation.BranchRow.{BranchRow}
use Rattle.mw_isa.specs.declared.operation.BranchRow.TheVariants.{B, Bc, Bclr, Bcctr, Bctar}
use Rattle.mw_isa.specs.declared.operation.BitLogic.{BitLogic}
use Rattle.mw_isa.specs.declared.operation.FieldRow.{FieldRow}
use Rattle.mw_isa.specs.declared.operation.FieldRow.TheVariants.{CompareNumber, Compare, InRange, EqualsByte, FromXer, FromField, Logic}
use Rattle.mw_isa.specs.declared.operation.PickRow.{PickRow}
use Rattle.mw_isa.specs.declared.operation.PickRow.TheVariants.{Select, All, Chosen, Sign, Bit}
use Rattle.mw_isa.specs.declared.operation.TrapRow.{TrapRow}
use Rattle.mw_isa.specs.declared.operation.TrapRow.TheVariants.{TrapNumber, TrapRegister}
use Rattle.mw_isa.specs.declared.memory.MemOp.{MemOp}
use Rattle.mw_isa.specs.declared.memory.MemWhat.{MemWhat}
use Rattle.mw_isa.specs.declared.memory.MemWhat.TheVariants.{Store, Conditional, Zero, Icbi}
use Rattle.mw_isa.specs.declared.outcome.Operands.{Operands}
use Rattle.mw_isa.specs.declared.outcome.Outcome.{Outcome}
use Rattle.mw_isa.specs.declared.outcome.Outcome.TheVariants.{Done, Long, Memory, System as Asked, Trap as Trapped}
use Rattle.mw_isa.specs.declared.outcome.Target.{Target}
use Rattle.mw_isa.specs.declared.place.Places.{Places}
use Rattle.mw_isa.specs.declared.slot.Slot.{Slot}
use Rattle.mw_isa.specs.declared.slot.Slot.TheVariants.{CrField, Xer, Lr, Ctr}
use Rattle.mw_isa.specs.declared.vector.Vector.TheVariants.{Program, SystemCall}
use Rattle.mw_isa.specs.declared.xer.XerBits.{XerBits}
use Rattle.mw_isa.specs.Fetch.{behind}
use Rattle.mw_isa.specs.Long.{added_by, dividend_by, divides_words, factor_in}
use Rattle.mw_isa.specs.Msr.{bit_at, pr_place, privileged_place, trap_place}
use Rattle.mw_isa.specs.Operations.{operations}
use Rattle.mw_isa.specs.Places.{places_of, operand_of}
use Rattle.mw_isa.specs.Reads.{register_at}
use Rattle.mw_isa.specs.Slots.{known}
use Rattle.mw_isa.specs.Special.{bi_of, bo_of}
use Rattle.mw_isa.specs.Scopes.{scope_of}
use Rattle.mw_isa.specs.Branches.{count_of, falls, is_taken, word_address}
use Rattle.mw_isa.specs.Condition.{compare_field, cr_bit, cr_field, field_of_bit, flags_field, has_byte, is_chosen, is_in_range, is_trapping, logic_of, match_field, with_bit}
use Rattle.mw_isa.specs.Endings.{writes_field, writes_xer}
use Rattle.mw_isa.specs.Xer.{bits_after, has_bit, result_field, xer_bits, xer_of}

-- the address behind an instruction: behind its word, or behind its prefix and its suffix
abbrev pub behind_insn : Insn → ℕ → ℕ
behind_insn insn at = if has_prefix insn.row then behind (behind at) else behind at

-- no register is written, and the instruction at this address follows
abbrev pub branch_to : ℕ → Outcome
branch_to next = Done (record { items = [] }) next

-- the operand at a place, if there is one, is this number
abbrev pub is_operand : Insn → Option ℕ → ℕ → Bool
is_operand insn place n = option_map_or (λ at. operand_of insn at == n) place false

-- a: the instruction's own address where R is 1; of (RA|0) 0 where that is register 0; else the content that was read
abbrev pub a_of : Places → Insn → Operands → ℕ → ℕ
a_of places insn o cia = if is_operand insn places.own 1 then cia else if is_operand insn places.base 0 then 0 else o.a

-- b: the number among the operands, or the content that was read
abbrev pub b_of : Places → Insn → Operands → ℕ
b_of places insn o = option_map_or (operand_of insn) places.number o.b

-- the operand at a place as a number; 0 where there is none
abbrev pub number_at : Insn → Option ℕ → ℕ
number_at insn place = option_map_or (operand_of insn) place 0

-- MASK(MB+32, ME+32)
abbrev pub word_mask : Places → Insn → ℕ
word_mask places insn = mask_of (number_at insn places.start + 32) (number_at insn places.end + 32)

-- MASK(MB, 63)
abbrev pub left_mask : Places → Insn → ℕ
left_mask places insn = mask_of (number_at insn places.start) 63

-- MASK(0, ME)
abbrev pub right_mask : Places → Insn → ℕ
right_mask places insn = mask_of 0 (number_at insn places.end)

-- MASK(MB, 63-SH)
abbrev pub middle_mask : Places → Insn → ℕ
middle_mask places insn = mask_of (number_at insn places.start) (63 - number_at insn places.number)

-- a of an arithmetic row: of addpcis the address behind it, of rlwimi and rldimi the content of RS, rotated
abbrev pub a_by : Inputs → Places → Insn → Operands → ℕ → ℕ
a_by Next places insn o cia = behind cia
a_by WordInsert places insn o cia = rotl32_of o.a (number_at insn places.number)
a_by Insert places insn o cia = rotl_of o.a (number_at insn places.number)
a_by inputs places insn o cia = a_of places insn o cia

-- b of an arithmetic row: of rlwimi and rldimi the mask
abbrev pub b_by : Inputs → Places → Insn → Operands → ℕ
b_by WordInsert places insn o = word_mask places insn
b_by Insert places insn o = middle_mask places insn
b_by inputs places insn o = b_of places insn o

-- c of an arithmetic row: the mask, the number of places, or the content that was read
abbrev pub c_by : Inputs → Places → Insn → Operands → ℕ
c_by WordShift places insn o = number_at insn places.amount
c_by Shift places insn o = number_at insn places.amount
c_by WordMask places insn o = word_mask places insn
c_by WordMaskBy places insn o = word_mask places insn
c_by Left places insn o = left_mask places insn
c_by Right places insn o = right_mask places insn
c_by Middle places insn o = middle_mask places insn
c_by LeftBy places insn o = left_mask places insn
c_by RightBy places insn o = right_mask places insn
c_by inputs places insn o = o.c

-- the carry that the unit takes: none, CA, or OV
abbrev pub carry_of : Carry → Operands → Bool
carry_of NoCarry o = false
carry_of Ca o = (xer_bits o.xer).ca
carry_of Ov o = (xer_bits o.xer).ov

-- the register that gets the result, with the result
abbrev pub result_at : Option Slot → ℕ → List Target
result_at None value = []
result_at (Some slot) value = known slot value ∷ []

-- XER with its bits, where it is written
abbrev pub xer_target : Bool → XerBits → List Target
xer_target written bits = if written then known Xer (xer_of bits) ∷ [] else []

-- CR field 0 with a result's sign and SO, where it is written
abbrev pub field_target : Bool → ℕ → Bool → List Target
field_target written value so = if written then known (CrField 0) (result_field value so) ∷ [] else []

-- what is written at the end of an instruction with a result, in order: the result, XER and CR field 0, where these are,
-- with the bits of XER as they stand after it
abbrev pub end_with : Option Slot → ℕ → Bool → Bool → XerBits → List Target
end_with slot value xer field bits = result_at slot value ++ xer_target xer bits ++ field_target field value bits.so

-- what is written at the end of an arithmetic row
abbrev pub ended_with : Ending → Places → Insn → AluOut → XerBits → List Target
ended_with ending places insn out bits = end_with (register_at insn places.written) out.value (writes_xer ending insn) (writes_field ending insn) bits

-- what is written at the end of an arithmetic row, from XER as it is before
abbrev pub ended : Ending → Places → Insn → AluOut → ℕ → List Target
ended ending places insn out xer = ended_with ending places insn out (bits_after ending insn out (xer_bits xer))

-- what the unit gives for an arithmetic row whose operands stand at these places
abbrev pub out_at : AluRow → Places → Insn → Operands → ℕ → AluOut
out_at row places insn o cia =
    alu_of row.op (a_by row.inputs places insn o cia) (b_by row.inputs places insn o) (c_by row.inputs places insn o) (carry_of row.carry o)

-- what the unit gives for an arithmetic row
abbrev pub out_of : AluRow → Insn → Operands → ℕ → AluOut
out_of row insn o cia = out_at row (places_of (Alu row)) insn o cia

-- the rows whose result is there in one cycle
abbrev pub arithmetic_of : AluRow → Insn → Operands → ℕ → Outcome
arithmetic_of row insn o cia =
    Done (record { items = ended row.ending (places_of (Alu row)) insn (out_of row insn o cia) o.xer }) (behind_insn insn cia)

-- the register that is written, or 0 where none is
abbrev pub written_of : Places → Insn → ℕ
written_of places insn = option_map_or (operand_of insn) places.written 0

-- the multiplication of a row whose operands stand at these places, with no tick done
abbrev pub multiplication_of : ProductRow → Places → Insn → Operands → Multiplication
multiplication_of row places insn o = record {
  kind = row.kind;
  a = factor_in row.kind row.word o.a;
  b = factor_in row.kind row.word (b_of places insn o);
  add = added_by row.addend o.c;
  ticks = 0;
}

-- the division of a row, with no tick done
abbrev pub division_of : QuotientRow → Operands → Division
division_of row o = record { kind = row.kind; dividend = dividend_by row.kind row.extended o.a; divisor = o.b; ticks = 0 }

-- the rows that multiply: RT ← a half of a * b + c
abbrev pub product_by : ProductRow → Insn → Operands → LongOp
product_by row insn o = Mul (multiplication_of row (places_of (Product row)) insn o) row.high row.word (written_of (places_of (Product row)) insn) insn.oe insn.rc

-- the rows that divide: RT ← a / b, or the rest
abbrev pub quotient_by : QuotientRow → Insn → Operands → LongOp
quotient_by row insn o = Div (division_of row o) row.rest (divides_words row.kind) (written_of (places_of (Quotient row)) insn) insn.oe insn.rc

-- a sum in 64 bits
abbrev pub wrapped_sum : ℕ → ℕ → ℕ
wrapped_sum x y = (x + y) % 2 ^ 64

-- the target of a branch: the displacement from 0 where AA is 1, and from the branch where it is 0
abbrev pub target_of : ℕ → Insn → ℕ → ℕ
target_of displacement insn cia = if insn.aa then displacement else wrapped_sum cia displacement

-- where a branch goes if it is taken
abbrev pub goal_of : BranchRow → Insn → Operands → ℕ → ℕ
-- NIA ← EXTS(LI || 00), or CIA + EXTS(LI || 00); of bc by BD
goal_of B insn o cia = target_of (b_of (places_of (Branch B)) insn o) insn cia
goal_of Bc insn o cia = target_of (b_of (places_of (Branch Bc)) insn o) insn cia
-- NIA ← LR, CTR or TAR, its low two bits 0; LR as it is before
goal_of Bclr insn o cia = word_address o.lr
goal_of Bcctr insn o cia = word_address o.ctr
goal_of Bctar insn o cia = word_address o.tar

-- CTR, where it falls
abbrev pub count_target : ℕ → ℕ → List Target
count_target bo ctr = if falls bo then known Ctr (count_of bo ctr) ∷ [] else []

-- LR with LK, whether the branch is taken or not: the address behind it
abbrev pub link_target : Bool → ℕ → List Target
link_target lk cia = if lk then known Lr (behind cia) ∷ [] else []

-- a branch on BO and a bit of the condition register
abbrev pub branch_by : ℕ → Bool → ℕ → Bool → ℕ → ℕ → Outcome
branch_by bo bit goal lk ctr cia =
    Done (record { items = count_target bo ctr ++ link_target lk cia }) (if is_taken bo (count_of bo ctr) bit then goal else behind cia)

-- the rows that branch
abbrev pub branch_of : BranchRow → Insn → Operands → ℕ → Outcome
branch_of row insn o cia = branch_by (bo_of row insn) (cr_bit o.cr (bi_of row insn)) (goal_of row insn o cia) insn.lk o.ctr cia

-- the bit BT of its field, made of the bits BA and BB
abbrev pub logic_field : BitLogic → ℕ → ℕ → ℕ → ℕ → ℕ
logic_field logic cr bt ba bb = with_bit (cr_field cr (field_of_bit bt)) (bt % 4) (logic_of logic (cr_bit cr ba) (cr_bit cr bb))

-- whether whole registers are compared: L
abbrev pub is_long : Insn → Bool
is_long insn = operand_of insn 1 == 1

-- what a row gives the field that it sets
abbrev pub digit_of : FieldRow → Insn → Operands → ℕ
digit_of (CompareNumber signed) insn o = compare_field signed (is_long insn) o.a (b_of (places_of (Field (CompareNumber signed))) insn o) (xer_bits o.xer).so
digit_of (Compare signed) insn o = compare_field signed (is_long insn) o.a o.b (xer_bits o.xer).so
digit_of InRange insn o = match_field (is_in_range (is_long insn) o.a o.b)
digit_of EqualsByte insn o = match_field (has_byte o.a o.b 8)
digit_of FromXer insn o = flags_field (xer_bits o.xer)
digit_of FromField insn o = cr_field o.cr (operand_of insn 1)
digit_of (Logic logic) insn o = logic_field logic o.cr (operand_of insn 0) (operand_of insn 1) (operand_of insn 2)

-- the field that a row sets: BF, or that of BT
abbrev pub field_written : FieldRow → Insn → ℕ
field_written (CompareNumber signed) insn = operand_of insn 0
field_written (Compare signed) insn = operand_of insn 0
field_written InRange insn = operand_of insn 0
field_written EqualsByte insn = operand_of insn 0
field_written FromXer insn = operand_of insn 0
field_written FromField insn = operand_of insn 0
field_written (Logic logic) insn = field_of_bit (operand_of insn 0)

-- the rows that set a field of the condition register
abbrev pub field_of : FieldRow → Insn → Operands → ℕ → Outcome
field_of row insn o cia = Done (record { items = known (CrField (field_written row insn)) (digit_of row insn o) ∷ [] }) (behind_insn insn cia)

-- of the first fields of the condition register those that a mask chooses, lowest number first, from a low word
abbrev pub field_targets : ℕ → ℕ → ℕ → List Target
field_targets mask value zero = []
field_targets mask value (suc n) = field_targets mask value n ++ (if is_chosen mask n then known (CrField n) (cr_field value n) ∷ [] else [])

-- the rows that set the fields of FXM
abbrev pub fields_of : Insn → Operands → ℕ → Outcome
fields_of insn o cia = Done (record { items = field_targets (operand_of insn 0) o.a 8 }) (behind_insn insn cia)

-- a number where a bit is 1, or where it is 0, and else 0
abbrev pub number_if : Bool → Bool → Bool → ℕ
number_if negative reversed bit = if (if reversed then not bit else bit) then (if negative then 2 ^ 64 - 1 else 1) else 0

-- the sign that a field tells: LT, GT or neither
abbrev pub sign_of : ℕ → ℕ
sign_of digit = if nat_le 8 digit then 2 ^ 64 - 1 else if nat_le 4 digit then 1 else 0

-- what a row gives the register that it sets
abbrev pub picked_of : PickRow → Insn → Operands → ℕ → ℕ
picked_of Select insn o cia = if cr_bit o.cr (operand_of insn 3) then a_of (places_of (Pick Select)) insn o cia else o.b
-- all fields, or those of FXM: the operands have no others
picked_of All insn o cia = o.cr
picked_of Chosen insn o cia = o.cr
picked_of Sign insn o cia = sign_of (cr_field o.cr (operand_of insn 1))
picked_of (Bit negative reversed) insn o cia = number_if negative reversed (cr_bit o.cr (operand_of insn 1))

-- the rows that set a register by the condition register
abbrev pub pick_of : PickRow → Insn → Operands → ℕ → Outcome
pick_of row insn o cia = Done (record { items = result_at (register_at insn (places_of (Pick row)).written) (picked_of row insn o cia) }) (behind_insn insn cia)

-- the trap condition holds
abbrev pub traps : TrapRow → Insn → Operands → Bool
traps (TrapNumber long) insn o = is_trapping (operand_of insn 0) long o.a (b_of (places_of (Trap (TrapNumber long))) insn o)
traps (TrapRegister long) insn o = is_trapping (operand_of insn 0) long o.a o.b

-- the rows that trap
abbrev pub trap_of : TrapRow → Insn → Operands → ℕ → Outcome
trap_of row insn o cia = if traps row insn o then Trapped Program (bit_at trap_place) else branch_to (behind_insn insn cia)

-- EA ← (RA|0) + EXTS(D), or (RA|0) + (RB), or CIA + EXTS(D)
abbrev pub effective_of : Places → Insn → Operands → ℕ → ℕ
effective_of places insn o cia = wrapped_sum (a_of places insn o cia) (b_of places insn o)

-- the register that gets the effective address: RA with update
abbrev pub updated_of : StorageRow → Places → Insn → Option ℕ
updated_of row places insn = if row.update then option_map (operand_of insn) places.base else None

-- the access of a row
abbrev pub access_of : StorageRow → Insn → Operands → ℕ → MemOp
access_of row insn o cia = record {
  what = row.what;
  ea = effective_of (places_of (Storage row)) insn o cia;
  len = row.len;
  value = o.c;
  to = written_of (places_of (Storage row)) insn;
  update = updated_of row (places_of (Storage row)) insn;
}

-- an instruction is privileged
abbrev pub is_privileged : Privilege → Insn → Bool
is_privileged Never insn = false
is_privileged Always insn = true
is_privileged Heavy insn = operand_of insn 0 == 2

-- some instruction of the row is privileged
abbrev pub is_ever : Privilege → Bool
is_ever Never = false
is_ever privilege = true

-- a privileged instruction is refused under MSR: in problem state
abbrev pub is_refused : Privilege → Insn → ℕ → Bool
is_refused privilege insn msr = is_privileged privilege insn && has_bit msr pr_place

-- the interrupt of a privileged instruction in problem state
abbrev pub refusal : Outcome
refusal = Trapped Program (bit_at privileged_place)

-- the rows that access storage: RT ← MEM(EA), MEM(EA) ← (RS), and their kin; with update RA ← EA
abbrev pub storage_of : StorageRow → Insn → Operands → ℕ → Outcome
storage_of row insn o cia = if is_refused row.privilege insn o.msr then refusal else Memory (access_of row insn o cia)

-- a register gets a number at once
abbrev pub gives : Places → Insn → ℕ → ℕ → Outcome
gives places insn value cia = Done (record { items = result_at (register_at insn places.written) value }) (behind_insn insn cia)

-- what a row of the system asks for, where its operands stand at these places: of mfmsr MSR, and of darn the number that
-- says that there is none, at once
abbrev pub system_effect : SystemWhat → Places → Insn → Operands → ℕ → Outcome
system_effect (Return hypervisor) places insn o cia = Asked (Returning hypervisor)
system_effect Isync places insn o cia = Asked FetchingAnew
system_effect Sync places insn o cia = Asked (Synchronizing (operand_of insn 0))
system_effect Order places insn o cia = branch_to (behind_insn insn cia)
system_effect ReadMsr places insn o cia = gives places insn o.msr cia
system_effect WriteMsr places insn o cia = Asked (MsrWritten o.a (operand_of insn 1 == 1))
system_effect Tlbie places insn o cia = Asked (GivingUp (scope_of (operand_of insn 2) o.b o.a))
system_effect ReadSpr places insn o cia = Asked (ReadByNumber (written_of places insn) (operand_of insn 1))
system_effect WriteSpr places insn o cia = Asked (WriteByNumber (operand_of insn 0) o.a)
system_effect Random places insn o cia = gives places insn (2 ^ 64 - 1) cia

-- the rows of the system
abbrev pub system_of : SystemRow → Insn → Operands → ℕ → Outcome
system_of row insn o cia = if is_refused row.privilege insn o.msr then refusal else system_effect row.what (places_of (System row)) insn o cia

-- a system call
abbrev pub call : Outcome
call = Trapped SystemCall 0

-- what an operation comes to
abbrev pub effect_of : Operation → Insn → Operands → ℕ → Outcome
effect_of (Alu row) insn o cia = arithmetic_of row insn o cia
effect_of (Product row) insn o cia = Long (product_by row insn o)
effect_of (Quotient row) insn o cia = Long (quotient_by row insn o)
effect_of (Branch row) insn o cia = branch_of row insn o cia
effect_of (Field row) insn o cia = field_of row insn o cia
effect_of Fields insn o cia = fields_of insn o cia
effect_of (Pick row) insn o cia = pick_of row insn o cia
effect_of (Trap row) insn o cia = trap_of row insn o cia
effect_of (Storage row) insn o cia = storage_of row insn o cia
effect_of Hint insn o cia = branch_to (behind_insn insn cia)
effect_of Call insn o cia = call
effect_of (System row) insn o cia = system_of row insn o cia

-- what an instruction at an address comes to; none where the table has no such row
unfoldable pub exec_of : Insn → Operands → ℕ → Option Outcome
exec_of insn operands cia = option_map (λ operation. effect_of operation insn operands cia) (slice_get operations insn.row)

-- an operation can raise an interrupt by itself
abbrev pub can_raise : Operation → Bool
can_raise (Trap row) = true
can_raise (Storage row) = is_ever row.privilege
can_raise Call = true
can_raise (System row) = is_ever row.privilege
can_raise operation = false

-- what a row of the system does goes for all that is behind it: nothing behind is begun before it is done
abbrev pub is_serializing_by : SystemWhat → Bool
is_serializing_by (Return hypervisor) = true
is_serializing_by Isync = true
is_serializing_by Sync = true
is_serializing_by Order = false
is_serializing_by ReadMsr = false
is_serializing_by WriteMsr = true
is_serializing_by Tlbie = true
is_serializing_by ReadSpr = false
is_serializing_by WriteSpr = true
is_serializing_by Random = false

-- an access gives up a copy among the instructions
abbrev pub is_icbi : MemWhat → Bool
is_icbi Icbi = true
is_icbi what = false

-- an operation is one behind which nothing is begun before it is done
abbrev pub is_serializing : Operation → Bool
is_serializing (Storage row) = is_icbi row.what
is_serializing (System row) = is_serializing_by row.what
is_serializing operation = false

-- an access can store
abbrev pub can_store : MemWhat → Bool
can_store (Store reversed) = true
can_store (Conditional reversed) = true
can_store Zero = true
can_store what = false

-- an operation can store
abbrev pub is_storing : Operation → Bool
is_storing (Storage row) = can_store row.what
is_storing operation = false
