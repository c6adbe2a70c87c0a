use Rattle.std.proofs.Common.{◌≡◌, ◌<◌, ◌^◌, ◌∙◌, sym, ap, subst, length, bit_or, refl}
use Rattle.std.specs.Prelude.{is_some}
use Rattle.mw_tables.specs.Row.{row_of}
use Rattle.mw_tables.specs.Sound.{code_of, bits_of_kind}
use Rattle.mw_tables.proofs.FieldLaws.{HasOperands-length}
use Rattle.mw_decode.specs.declared.insn.Code.{Code}
use Rattle.mw_decode.specs.declared.insn.Decoded.TheVariants.{Insn as Is}
use Rattle.mw_decode.specs.Decode.{decode_of, is_prefix}
use Rattle.mw_decode.specs.Encode.{all_operands, words_of, HasNoReserved}
use Rattle.mw_decode.proofs.Ranges.{IsInsn-row, IsInsn-operands}
use Rattle.mw_decode.proofs.EncodeRows.{IsInsn-at, code_of-written, code_of-room, encode_of-at}
use Rattle.mw_decode.proofs.EncodeLemmas.{encode_of-decodes, encode_of-prefix, encode_of-reserved}
use Rattle.mw_decode.proofs.encoder.encode.Goals as goal

pub row_at-row-requires : goal.row_at-row-requires
row_at-row-requires c = IsInsn-row c.args.insn.now c.requires

pub layout_at-requires : goal.layout_at-requires
layout_at-requires c = IsInsn-row c.args.insn.now c.requires

pub code_with_all-operands-requires-clause-each : goal.code_with_all-operands-requires-clause-each
code_with_all-operands-requires-clause-each c =
    let insn = c.args.insn.now in
    ap length c.as_slice.ensures.value
    ∙ HasOperands-length _ _ (IsInsn-operands insn insn.row c.layout_at.result c.requires refl c.layout_at.ensures)
    ∙ ap length (sym c.fields_of.ensures.value)

-- what is written is the code of the row
written_code : (c : goal.After-fixed_value) → bit_or c.fixed_value.result (bit_or c.code_with_all-operands.result c.code_with_all-forms.result) ≡ code_of (row_of c.row_at-row.result.now) c.layout_at.result (all_operands c.args.insn.now)
written_code c =
    let insn = c.args.insn.now in
    let row = row_of c.row_at-row.result.now in
    let layout = c.layout_at.result in
    code_of-written insn row layout c.fields_of.result.now c.flags_of.result c.as_slice.result.now c.flag_operands.result c.fixed_value.result c.code_with_all-operands.result c.code_with_all-forms.result
    (IsInsn-at insn row layout c.requires c.row_at-row.ensures c.layout_at.ensures)
    c.fixed_value.ensures c.code_with_all-operands.ensures c.code_with_all-forms.ensures c.fields_of.ensures.value c.flags_of.ensures.value c.as_slice.ensures.value c.flag_operands.ensures

pub words_of-requires : goal.words_of-requires
words_of-requires c =
    let insn = c.args.insn.now in
    let row = row_of c.row_at-row.result.now in
    let layout = c.layout_at.result in
    subst (λ n. n < 2 ^ bits_of_kind row.prefix) (sym (written_code c))
    (code_of-room insn row layout (IsInsn-at insn row layout c.requires c.row_at-row.ensures c.layout_at.ensures))

pub returns-clause-value : goal.returns-clause-value
returns-clause-value c =
    let row = row_of c.row_at-row.result.now in
    c.words_of.ensures
    ∙ ap (words_of row.prefix) (written_code c.before)
    ∙ sym (encode_of-at c.args.insn.now row c.layout_at.result c.row_at-row.ensures c.layout_at.ensures)

pub returns-clause-decodes : goal.returns-clause-decodes
returns-clause-decodes c =
    let insn = c.args.insn.now in
    subst (λ (w : Code). decode_of w.word w.suffix ≡ Is insn) (sym (returns-clause-value c)) (encode_of-decodes insn c.requires)

pub returns-clause-prefix : goal.returns-clause-prefix
returns-clause-prefix c = subst (λ (w : Code). is_some w.suffix ≡ is_prefix w.word) (sym (returns-clause-value c)) (encode_of-prefix c.args.insn.now c.requires)

pub returns-clause-reserved : goal.returns-clause-reserved
returns-clause-reserved c =
    let insn = c.args.insn.now in
    subst (λ (w : Code). HasNoReserved insn w) (sym (returns-clause-value c)) (encode_of-reserved insn c.requires)
