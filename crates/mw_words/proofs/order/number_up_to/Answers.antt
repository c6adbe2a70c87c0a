use Rattle.std.proofs.Common.{sym, arith}
use Rattle.mw_words.proofs.NumberLemmas.{number-is, number-unread, number-other, number-great}
use Rattle.mw_words.proofs.order.number_up_to.Goals as goal

pub returns-in_default-clause-value : goal.returns-in_default-clause-value
returns-in_default-clause-value c = sym (number-unread c.args.most c.args.word.now c.parse.result c.in_default.field-0 (omega arith) c.parse.ensures.value.0 c.in_default.is)

pub returns-then-not-is_decimal-clause-value : goal.returns-then-not-is_decimal-clause-value
returns-then-not-is_decimal-clause-value c = sym (number-other c.args.most c.in-Ok.number c.args.word.now c.parse.result (omega arith) c.parse.ensures.value.0 c.in-Ok.is (sym c.if-not-is_decimal.ensures))

pub returns-then-number-most-clause-value : goal.returns-then-number-most-clause-value
returns-then-number-most-clause-value c = sym (number-great c.args.most c.in-Ok.number c.args.word.now c.parse.result (omega arith) c.parse.ensures.value.0 c.in-Ok.is c.if-number-most.true)

pub returns-clause-value : goal.returns-clause-value
returns-clause-value c = sym (number-is c.args.most c.in-Ok.number c.args.word.now (omega arith) (sym c.if-not-is_decimal.ensures) c.if-number-most.false)
