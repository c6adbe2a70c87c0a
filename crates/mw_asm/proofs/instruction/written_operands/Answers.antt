use Rattle.std.proofs.Common.{◌<◌, length, sym, FitsSigned, arith, rules}
use Rattle.std.specs.Int.{w64}
use Rattle.std.proofs.lemmas.Int.{to_z-of_z}
use Rattle.std.proofs.lemmas.Option.{slice_get-get_or}
use Rattle.std.proofs.lemmas.Result.{err_from_is_err_and}
use Rattle.mw_asm.specs.Values.{written_fields}
use Rattle.mw_asm.proofs.InstructionLemmas.{operands-refused, operands-more, operands-end, written-readable}
use Rattle.mw_asm.proofs.instruction.written_operands.Goals as goal

pub operand_by-requires-clause-readable : goal.operand_by-requires-clause-readable
operand_by-requires-clause-readable c =
    written-readable c.args.pattern c.args.fields.now c.loop-place.place c.written_field-field.result.now c.requires.readable c.written_field-field.ensures

pub returns-in_err-operand-clause-err : goal.returns-in_err-operand-clause-err
returns-in_err-operand-clause-err c =
    let p = err_from_is_err_and c.from_residual.result c.from_residual.ensures.1 in
    let within : c.loop-place.place < length c.args.kinds.now = omega (arith, c.requires.kinds) in
    rw (p.1, p.2)
    (operands-refused c.args.labels.now c.args.at c.args.line.now c.args.absolute c.args.expressions.now c.args.kinds.now (written_fields c.args.pattern c.args.fields.now) c.loop-place.place _ _ c.written_field-field.result.now c.loop-place.operands.items c.in_err-operand.field-0.0 _
    (slice_get-get_or c.args.expressions.now c.loop-place.place _ c.loop-place-test.true)
    (slice_get-get_or c.args.kinds.now c.loop-place.place _ within)
    c.written_field-field.ensures
    (sym c.in_err-operand.ensures)
    c.loop-place.invariant.same)

pub loop-place-preserved : goal.loop-place-preserved
loop-place-preserved c =
    let within : c.loop-place.place < length c.args.kinds.now = omega (arith, c.requires.kinds) in
    let range : FitsSigned w64 c.in_ok-operand.operand = search rules in
    record {
      count = omega (arith, c.push.ensures.len, c.loop-place.invariant.count);
      same = rw (c.push.ensures.items, to_z-of_z w64 c.in_ok-operand.operand range)
          (operands-more c.args.labels.now c.args.at c.args.line.now c.args.absolute c.args.expressions.now c.args.kinds.now (written_fields c.args.pattern c.args.fields.now) c.loop-place.place _ _ c.written_field-field.result.now c.loop-place.operands.items c.in_ok-operand.operand _
          (slice_get-get_or c.args.expressions.now c.loop-place.place _ c.loop-place-test.true)
          (slice_get-get_or c.args.kinds.now c.loop-place.place _ within)
          c.written_field-field.ensures
          (sym c.in_ok-operand.ensures)
          c.loop-place.invariant.same);
    }

pub returns-clause-ok : goal.returns-clause-ok
returns-clause-ok c =
    operands-end c.args.labels.now c.args.at c.args.line.now c.args.absolute c.args.expressions.now c.args.kinds.now (written_fields c.args.pattern c.args.fields.now) c.loop-place.place c.loop-place.operands.items _ c.loop-place-test.false c.loop-place.invariant.same
