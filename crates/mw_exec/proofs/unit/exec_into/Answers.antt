use Rattle.mw_decode.proofs.Ranges.{IsInsn-row}
use Rattle.mw_isa.proofs.StorageLaws.{storage-sized}
use Rattle.mw_isa.proofs.RowLaws.{limited, registers}
use Rattle.mw_isa.specs.declared.operation.Operation.TheVariants.{Alu, Product, Quotient, Branch, Field, Fields, Pick, Trap, Storage, System}
use Rattle.mw_exec.proofs.unit.exec_into.Goals as goal

pub operation_at-requires : goal.operation_at-requires
operation_at-requires c = IsInsn-row c.args.insn.now c.requires

pub arithmetic_of-requires-clause-row : goal.arithmetic_of-requires-clause-row
arithmetic_of-requires-clause-row c = IsInsn-row c.args.insn.now c.requires

pub behind_insn-requires : goal.behind_insn-requires
behind_insn-requires c = IsInsn-row c.args.insn.now c.requires

pub arithmetic_of-requires-clause-registers : goal.arithmetic_of-requires-clause-registers
arithmetic_of-requires-clause-registers c = registers c.args.insn.now (Alu c.in-Alu.row) c.requires c.in-Alu.ensures

pub arithmetic_of-requires-clause-limits : goal.arithmetic_of-requires-clause-limits
arithmetic_of-requires-clause-limits c = limited c.args.insn.now (Alu c.in-Alu.row) c.requires c.in-Alu.ensures

pub product_by-requires : goal.product_by-requires
product_by-requires c = registers c.args.insn.now (Product c.in-Product.row) c.requires c.in-Product.ensures

pub quotient_by-requires : goal.quotient_by-requires
quotient_by-requires c = registers c.args.insn.now (Quotient c.in-Quotient.row) c.requires c.in-Quotient.ensures

pub storage_of-requires-clause-registers : goal.storage_of-requires-clause-registers
storage_of-requires-clause-registers c = registers c.args.insn.now (Storage c.in-Storage.row) c.requires c.in-Storage.ensures

pub storage_of-requires-clause-sized : goal.storage_of-requires-clause-sized
storage_of-requires-clause-sized c = storage-sized c.args.insn.now.row c.in-Storage.row c.in-Storage.ensures

pub branch_of-requires : goal.branch_of-requires
branch_of-requires c = limited c.args.insn.now (Branch c.in-Branch.row) c.requires c.in-Branch.ensures

pub field_of-requires-clause-row : goal.field_of-requires-clause-row
field_of-requires-clause-row c = IsInsn-row c.args.insn.now c.requires

pub field_of-requires-clause-limits : goal.field_of-requires-clause-limits
field_of-requires-clause-limits c = limited c.args.insn.now (Field c.in-Field.row) c.requires c.in-Field.ensures

pub fields_of-requires-clause-row : goal.fields_of-requires-clause-row
fields_of-requires-clause-row c = IsInsn-row c.args.insn.now c.requires

pub fields_of-requires-clause-limits : goal.fields_of-requires-clause-limits
fields_of-requires-clause-limits c = limited c.args.insn.now Fields c.requires c.in-Fields.ensures

pub pick_of-requires-clause-row : goal.pick_of-requires-clause-row
pick_of-requires-clause-row c = IsInsn-row c.args.insn.now c.requires

pub pick_of-requires-clause-registers : goal.pick_of-requires-clause-registers
pick_of-requires-clause-registers c = registers c.args.insn.now (Pick c.in-Pick.row) c.requires c.in-Pick.ensures

pub pick_of-requires-clause-limits : goal.pick_of-requires-clause-limits
pick_of-requires-clause-limits c = limited c.args.insn.now (Pick c.in-Pick.row) c.requires c.in-Pick.ensures

pub trap_of-requires-clause-row : goal.trap_of-requires-clause-row
trap_of-requires-clause-row c = IsInsn-row c.args.insn.now c.requires

pub trap_of-requires-clause-limits : goal.trap_of-requires-clause-limits
trap_of-requires-clause-limits c = limited c.args.insn.now (Trap c.in-Trap.row) c.requires c.in-Trap.ensures

pub system_of-requires-clause-row : goal.system_of-requires-clause-row
system_of-requires-clause-row c = IsInsn-row c.args.insn.now c.requires

pub system_of-requires-clause-registers : goal.system_of-requires-clause-registers
system_of-requires-clause-registers c = registers c.args.insn.now (System c.in-System.row) c.requires c.in-System.ensures

pub system_of-requires-clause-limits : goal.system_of-requires-clause-limits
system_of-requires-clause-limits c = limited c.args.insn.now (System c.in-System.row) c.requires c.in-System.ensures
