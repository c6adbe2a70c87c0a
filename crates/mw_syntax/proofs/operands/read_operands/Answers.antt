use Rattle.std.proofs.Common.{◌<◌, length, refl, sym, arith}
use Rattle.std.proofs.lemmas.Result.{err_from_is_err_and}
use Rattle.mw_syntax.specs.declared.item.Kind.TheVariants.{Register}
use Rattle.mw_syntax.specs.declared.item.Item.TheVariants.{Operand}
use Rattle.mw_syntax.proofs.ReadingLemmas.{operand-refused, operand-read, mark-refused, mark-read, operands-end, operands-more, kinds-operand, kinds-mark}
use Rattle.mw_syntax.proofs.operands.read_operands.Goals as goal
use Rattle.mw_syntax.proofs.operands.read_operands.Goals.{in-Operand+in_ok-read-in-Operand, in-Comma+else-not-is_mark}

pub returns-in_err-read-in-Operand-clause-err : goal.returns-in_err-read-in-Operand-clause-err
returns-in_err-read-in-Operand-clause-err c =
    let p = err_from_is_err_and c.from_residual.result c.from_residual.ensures.1 in
    rw (p.1, p.2)
    (operand-refused c.args.items.now c.loop-item.item-index (Operand Register) c.in-Operand.kind c.args.line.now c.args.tokens.now c.loop-item.place c.in_err-read-in-Operand.field-0.0 c.loop-item.operands.items _ c.loop-item-test.true c.in-Operand.is (sym c.in_err-read-in-Operand.ensures.value) c.loop-item.invariant.same)

pub returns-then-not-is_mark-clause-err : goal.returns-then-not-is_mark-clause-err
returns-then-not-is_mark-clause-err c =
    mark-refused c.args.items.now c.loop-item.item-index (Operand Register) c.args.line.now c.args.tokens.now c.loop-item.place c.loop-item.operands.items _ c.loop-item-test.true c.in-Comma.is (cc) c.loop-item.invariant.same

pub loop-item-preserved : goal.loop-item-preserved
loop-item-preserved c =
    elim c.match-item.branch [
      | in-Operand+in_ok-read-in-Operand w ↦
          (let same = operand-read c.args.items.now c.loop-item.item-index (Operand Register) w.in-Operand.kind c.args.line.now c.args.tokens.now c.loop-item.place w.in_ok-read-in-Operand.read c.loop-item.operands.items _ c.loop-item-test.true w.in-Operand.is (sym w.in_ok-read-in-Operand.ensures.value) c.loop-item.invariant.same in
          let count = kinds-operand c.args.items.now c.loop-item.item-index (Operand Register) w.in-Operand.kind c.loop-item-test.true w.in-Operand.is in
          record { inside = rw w.place-is w.in_ok-read-in-Operand.ensures.next; same = rw (w.operands-is, w.place-is, w.push.ensures.items) same; count = rw w.operands-is (omega (arith, w.push.ensures.len, count, c.loop-item.invariant.count)) })
      | in-Comma+else-not-is_mark w ↦
          (let same = mark-read c.args.items.now c.loop-item.item-index (Operand Register) c.args.line.now c.args.tokens.now c.loop-item.place c.loop-item.operands.items _ c.loop-item-test.true w.in-Comma.is (cc) c.loop-item.invariant.same in
          let count = kinds-mark c.args.items.now c.loop-item.item-index (Operand Register) c.loop-item-test.true w.in-Comma.is in
          record { inside = rw w.place-is (let lt : c.loop-item.place < length c.args.tokens.now = w.if-not-is_mark.ensures.inside refl in omega arith); same = rw (w.operands-is, w.place-is) same; count = rw w.operands-is (omega (arith, count, c.loop-item.invariant.count)) })
    ]

pub returns-then-place-tokens-clause-ok : goal.returns-then-place-tokens-clause-ok
returns-then-place-tokens-clause-ok c =
    operands-end c.args.items.now c.loop-item.item-index c.args.line.now c.args.tokens.now c.loop-item.place c.loop-item.operands.items _ c.loop-item-test.false c.if-place-tokens.true c.loop-item.invariant.same

pub returns-else-place-tokens-clause-err : goal.returns-else-place-tokens-clause-err
returns-else-place-tokens-clause-err c =
    operands-more c.args.items.now c.loop-item.item-index c.args.line.now c.args.tokens.now c.loop-item.place c.loop-item.operands.items _ c.loop-item-test.false c.if-place-tokens.false c.loop-item.invariant.same
