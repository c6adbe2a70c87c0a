use Rattle.std.proofs.Common.{◌^◌, sym, ◌∙◌, arith}
use Rattle.mw_digits.specs.Digits.{hex}
use Rattle.mw_trace.proofs.WordLemmas.{hexadecimals, number-is, number-small, number-unread, number-other}
use Rattle.mw_trace.proofs.numerals.hex_in.Goals as goal

pub returns-in_err-number-clause-value : goal.returns-in_err-number-clause-value
returns-in_err-number-clause-value c =
    let are = hexadecimals c.args.digits c.requires.some c.requires.few in
    c.from_residual.ensures
    ∙ sym
    (number-unread (hex c.args.digits) 16 (16 ^ c.args.digits) c.args.word.now c.number_in.result are
    c.number_in.ensures c.in_err-number.was)

pub returns-then-is_hex-clause-value : goal.returns-then-is_hex-clause-value
returns-then-is_hex-clause-value c =
    let are = hexadecimals c.args.digits c.requires.some c.requires.few in
    sym
    (number-is (hex c.args.digits) 16 (16 ^ c.args.digits) c.in_ok-number.number c.args.word.now c.number_in.result are
    c.number_in.ensures (omega arith) c.in_ok-number.was (sym c.if-is_hex.ensures))

pub returns-then-is_hex-clause-small : goal.returns-then-is_hex-clause-small
returns-then-is_hex-clause-small c =
    let are = hexadecimals c.args.digits c.requires.some c.requires.few in
    number-small (hex c.args.digits) 16 (16 ^ c.args.digits) c.in_ok-number.number c.args.word.now
    (number-is (hex c.args.digits) 16 (16 ^ c.args.digits) c.in_ok-number.number c.args.word.now c.number_in.result are
    c.number_in.ensures (omega arith) c.in_ok-number.was (sym c.if-is_hex.ensures))

pub returns-else-is_hex-clause-value : goal.returns-else-is_hex-clause-value
returns-else-is_hex-clause-value c =
    let are = hexadecimals c.args.digits c.requires.some c.requires.few in
    sym
    (number-other (hex c.args.digits) 16 (16 ^ c.args.digits) c.in_ok-number.number c.args.word.now c.number_in.result
    are c.number_in.ensures c.in_ok-number.was (sym c.if-is_hex.ensures))
