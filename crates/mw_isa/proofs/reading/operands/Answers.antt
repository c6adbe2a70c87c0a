use Rattle.std.proofs.Common.{sym, subst}
use Rattle.mw_decode.proofs.Ranges.{IsInsn-row}
use Rattle.mw_isa.specs.Places.{HasRegisters}
use Rattle.mw_isa.proofs.RowLaws.{limited, registers}
use Rattle.mw_isa.proofs.reading.operands.Goals as goal

pub operation_at-operation-requires : goal.operation_at-operation-requires
operation_at-operation-requires g c = IsInsn-row c.args.insn.now c.requires

pub sources_at-requires : goal.sources_at-requires
sources_at-requires g c =
    subst (HasRegisters c.args.insn.now) (sym c.places_of.ensures) (registers c.args.insn.now c.operation_at-operation.result c.requires c.operation_at-operation.ensures)

pub special_of-requires : goal.special_of-requires
special_of-requires g c = limited c.args.insn.now c.operation_at-operation.result c.requires c.operation_at-operation.ensures
