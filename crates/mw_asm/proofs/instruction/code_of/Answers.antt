use Rattle.std.proofs.Common.{length, sym, ap, ◌∙◌}
use Rattle.mw_asm.specs.Values.{written_fields}
use Rattle.mw_decode.specs.Rules.{is_illegal_form}
use Rattle.mw_syntax.specs.Lines.{shape_at}
use Rattle.mw_asm.proofs.MeaningLemmas.{mnemonic_of-MeansRow}
use Rattle.mw_asm.proofs.InstructionLemmas.{kinds-IsWritten, read-HasOperands, read-count, insn_of-IsInsn}
use Rattle.mw_asm.proofs.instruction.code_of.Goals as goal

pub fields_at-fields-requires : goal.fields_at-fields-requires
fields_at-fields-requires c = (mnemonic_of-MeansRow c.requires.is.text c.args.mnemonic c.requires.is.known).below

pub written_operands-requires-clause-fields : goal.written_operands-requires-clause-fields
written_operands-requires-clause-fields c =
    ap length (c.as_slice.ensures.value ∙ c.kinds_for-kinds.ensures)
    ∙ (mnemonic_of-MeansRow c.requires.is.text c.args.mnemonic c.requires.is.known).count
    ∙ ap (λ fs. length (written_fields c.args.mnemonic.pattern fs)) (sym c.fields_at-fields.ensures.value)

pub insn_of-insn-requires : goal.insn_of-insn-requires
insn_of-insn-requires c =
    let means = mnemonic_of-MeansRow c.requires.is.text c.args.mnemonic c.requires.is.known in
    let has = read-HasOperands c.args.labels.now c.args.at c.args.line.now c.args.mnemonic c.args.expressions.now c.as_slice.result.now c.fields_at-fields.result.now c.in_ok-written.written.items means c.requires.is.count (c.as_slice.ensures.value ∙ c.kinds_for-kinds.ensures) c.fields_at-fields.ensures.value c.in_ok-written.ensures.ok in
    kinds-IsWritten c.args.mnemonic.pattern (shape_at c.args.mnemonic.row) (length c.in_ok-written.written.items) (read-count c.args.mnemonic c.in_ok-written.written.items means has)

pub encode-requires : goal.encode-requires
encode-requires c =
    let means = mnemonic_of-MeansRow c.requires.is.text c.args.mnemonic c.requires.is.known in
    let has = read-HasOperands c.args.labels.now c.args.at c.args.line.now c.args.mnemonic c.args.expressions.now c.as_slice.result.now c.fields_at-fields.result.now c.in_ok-written.written.items means c.requires.is.count (c.as_slice.ensures.value ∙ c.kinds_for-kinds.ensures) c.fields_at-fields.ensures.value c.in_ok-written.ensures.ok in
    insn_of-IsInsn c.args.mnemonic c.in_ok-written.written.items c.insn_of-insn.result means has c.insn_of-insn.ensures (ap (is_illegal_form c.insn_of-insn.result.row) (sym c.as_slice-2.ensures.value) ∙ sym c.if-is_illegal_form.ensures)
