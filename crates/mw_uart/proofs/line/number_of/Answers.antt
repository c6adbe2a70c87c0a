use Rattle.std.proofs.Common.{◌≡◌, arith}
use Rattle.std.specs.Str.Parse.{digits_value}
use Rattle.mw_uart.proofs.NumberLemmas.{value-more, value-end}
use Rattle.mw_uart.proofs.line.number_of.Goals as goal

pub returns-then-longer-gt-LAST_CYCLE : goal.returns-then-longer-gt-LAST_CYCLE
returns-then-longer-gt-LAST_CYCLE c = λ small.
    let more = value-more c.loop-digit.value c.args.digits.now c.loop-digit.digit-index 0 (digits_value 10 c.args.digits.now) c.loop-digit-test.true c.loop-digit.invariant.same in
    omega (arith, more, c.digit_value.ensures.value, c.if-longer-gt-LAST_CYCLE.true)

pub returns : goal.returns
returns c =
    let whole : c.loop-digit.value ≡ digits_value 10 c.args.digits.now = value-end _ _ _ _ c.loop-digit-test.false c.loop-digit.invariant.same in
    (omega (arith, c.loop-digit.invariant.fits), whole)
