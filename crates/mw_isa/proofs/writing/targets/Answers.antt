use Rattle.mw_decode.proofs.Ranges.{IsInsn-row}
use Rattle.mw_isa.proofs.RowLaws.{limited, registers}
use Rattle.mw_isa.proofs.writing.targets.Goals as goal

pub operation_at-requires : goal.operation_at-requires
operation_at-requires c = IsInsn-row c.args.insn.now c.requires

pub operation_set-requires-clause-registers : goal.operation_set-requires-clause-registers
operation_set-requires-clause-registers c = registers c.args.insn.now c.operation_at.result c.requires c.operation_at.ensures

pub operation_set-requires-clause-limits : goal.operation_set-requires-clause-limits
operation_set-requires-clause-limits c = limited c.args.insn.now c.operation_at.result c.requires c.operation_at.ensures
