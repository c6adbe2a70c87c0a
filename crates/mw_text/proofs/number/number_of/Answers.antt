use Rattle.std.proofs.Common.{◌≡◌, arith}
use Rattle.std.specs.Str.Parse.{digits_value}
use Rattle.mw_text.proofs.NumberLemmas.{value-more, value-end}
use Rattle.mw_text.proofs.number.number_of.Goals as goal

pub returns-in-None : goal.returns-in-None
returns-in-None c = λ small.
    let more = value-more c.args.base c.loop-digit.value c.args.digits.now c.loop-digit.digit-index 0 (digits_value c.args.base c.args.digits.now) c.requires c.loop-digit-test.true c.loop-digit.invariant.same in
    c.in-None.ensures {u = tt} (omega (arith, more, c.digit_value.ensures.value))

pub returns : goal.returns
returns c =
    let whole : c.loop-digit.value ≡ digits_value c.args.base c.args.digits.now = value-end _ _ _ _ _ c.loop-digit-test.false c.loop-digit.invariant.same in
    (omega arith, whole)
