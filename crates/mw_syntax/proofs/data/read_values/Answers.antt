use Rattle.std.proofs.Common.{◌-◌, ◌<◌, length, refl, sym, arith}
use Rattle.mw_syntax.proofs.ValuesLemmas.{left-suc, value-refused, value-last, value-alone, value-more, values-end}
use Rattle.mw_syntax.proofs.data.read_values.Goals as goal

pub returns-in-Err-clause-err : goal.returns-in-Err-clause-err
returns-in-Err-clause-err c =
    value-refused _ _ c.args.line.now c.args.tokens.now c.loop.place c.in-Err.place c.loop.values _ (left-suc (length c.args.tokens.now) c.loop.counter c.loop-test.true) (sym c.in-Err.ensures.value) c.loop.invariant.same

pub returns-then-read-tokens-clause-ok : goal.returns-then-read-tokens-clause-ok
returns-then-read-tokens-clause-ok c =
    rw c.in_ok-push.ensures
    (value-last _ _ c.args.line.now c.args.tokens.now c.loop.place c.in-Ok.read c.loop.values _ (left-suc (length c.args.tokens.now) c.loop.counter c.loop-test.true) (sym c.in-Ok.ensures.value) c.if-read-tokens.true c.loop.invariant.same)

pub returns-then-not-is_mark-clause-err : goal.returns-then-not-is_mark-clause-err
returns-then-not-is_mark-clause-err c =
    value-alone _ _ c.args.line.now c.args.tokens.now c.loop.place c.in-Ok.read c.loop.values _ (left-suc (length c.args.tokens.now) c.loop.counter c.loop-test.true) (sym c.in-Ok.ensures.value) c.if-read-tokens.false (sym c.if-not-is_mark.ensures.value) c.loop.invariant.same

pub loop-preserved : goal.loop-preserved
loop-preserved c =
    record {
      inside = (let lt : c.in-Ok.read.next < length c.args.tokens.now = c.if-not-is_mark.ensures.inside refl in omega arith);
      end = refl;
      same = rw c.in_ok-push.ensures
          (value-more _ _ c.args.line.now c.args.tokens.now c.loop.place c.in-Ok.read c.loop.values _ (left-suc (length c.args.tokens.now) c.loop.counter c.loop-test.true) (sym c.in-Ok.ensures.value) c.if-read-tokens.false (sym c.if-not-is_mark.ensures.value) c.loop.invariant.same);
    }

pub returns-clause-err : goal.returns-clause-err
returns-clause-err c = values-end (length c.args.tokens.now - c.loop.counter) c.args.line.now c.args.tokens.now c.loop.place c.loop.values _ (omega (arith, c.loop-test.false)) c.loop.invariant.same
