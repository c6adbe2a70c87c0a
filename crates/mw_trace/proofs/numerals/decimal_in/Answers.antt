use Rattle.std.proofs.Common.{◌^◌, decimal, sym, ◌∙◌, arith}
use Rattle.mw_trace.proofs.WordLemmas.{decimals, number-is, number-unread, number-other}
use Rattle.mw_trace.proofs.numerals.decimal_in.Goals as goal

pub returns-in_err-number : goal.returns-in_err-number
returns-in_err-number c =
    c.from_residual.ensures
    ∙ sym
    (number-unread decimal 10 (2 ^ 64) c.args.word.now c.number_in.result decimals c.number_in.ensures
    c.in_err-number.was)

pub returns-then-is_decimal : goal.returns-then-is_decimal
returns-then-is_decimal c =
    sym
    (number-is decimal 10 (2 ^ 64) c.in_ok-number.number c.args.word.now c.number_in.result decimals c.number_in.ensures
    (omega arith) c.in_ok-number.was (sym c.if-is_decimal.ensures))

pub returns-else-is_decimal : goal.returns-else-is_decimal
returns-else-is_decimal c =
    sym
    (number-other decimal 10 (2 ^ 64) c.in_ok-number.number c.args.word.now c.number_in.result decimals
    c.number_in.ensures c.in_ok-number.was (sym c.if-is_decimal.ensures))
