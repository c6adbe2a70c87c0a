use Rattle.std.proofs.Common.{sym, ap, ◌∙◌, subst}
use Rattle.mw_decode.proofs.Ranges.{IsInsn-row}
use Rattle.mw_isa.specs.declared.place.Places.{Places}
use Rattle.mw_isa.specs.declared.sources.Special.{Special}
use Rattle.mw_isa.specs.Places.{HasRegisters}
use Rattle.mw_isa.specs.Reads.{sources_at}
use Rattle.mw_isa.specs.Slots.{bits_of, bits_with}
use Rattle.mw_isa.specs.Special.{special_slots}
use Rattle.mw_isa.proofs.ReadLaws.{reads_of-bits}
use Rattle.mw_isa.proofs.RowLaws.{limited, registers}
use Rattle.mw_isa.proofs.reading.reads.Goals as goal

pub operation_at-operation-requires : goal.operation_at-operation-requires
operation_at-operation-requires c = IsInsn-row c.args.insn.now c.requires

pub sources_at-sources-requires : goal.sources_at-sources-requires
sources_at-sources-requires c =
    subst (HasRegisters c.args.insn.now) (sym c.places_of.ensures) (registers c.args.insn.now c.operation_at-operation.result c.requires c.operation_at-operation.ensures)

pub special_of-requires : goal.special_of-requires
special_of-requires c = limited c.args.insn.now c.operation_at-operation.result c.requires c.operation_at-operation.ensures

pub returns : goal.returns
returns c =
    c.with-3.ensures
    ∙ ap (bits_with c.sources_at-sources.result.a) (c.with-2.ensures ∙ ap (bits_with c.sources_at-sources.result.b) (c.with.ensures ∙ ap (bits_with c.sources_at-sources.result.c) (c.special_set.ensures ∙ ap (λ (s : Special). bits_of (special_slots s)) c.special_of.ensures)))
    ∙ sym (reads_of-bits c.args.insn.now c.operation_at-operation.result c.sources_at-sources.result c.operation_at-operation.ensures (c.sources_at-sources.ensures.value ∙ ap (λ (places : Places). sources_at places c.args.insn.now) c.places_of.ensures))
