use Rattle.std.proofs.Common.{◌≡◌, rules, true}
use Rattle.std.specs.Prelude.{slice_index}
use Rattle.std.specs.Char.{is_ascii_digit}
use Rattle.mw_text.specs.Pieces.{begins_word, begins_hexadecimal}
use Rattle.mw_text.proofs.PieceLemmas.{word-fits, decimal-fits, hexadecimal-fits, mark-fits}
use Rattle.mw_text.proofs.piece.piece_at.Goals as goal

pub returns-then-begins_word-clause-fits : goal.returns-then-begins_word-clause-fits
returns-then-begins_word-clause-fits c =
    let begins : begins_word c.args.rest.now ≡ true = cc (c.if-begins_word.ensures) in
    rw c.word_length.ensures (word-fits _ begins)

pub returns-then-begins_hexadecimal-clause-fits : goal.returns-then-begins_hexadecimal-clause-fits
returns-then-begins_hexadecimal-clause-fits c =
    let begins : begins_hexadecimal c.args.rest.now ≡ true = cc (c.if-begins_hexadecimal.ensures) in
    rw c.hexadecimal_piece.ensures (hexadecimal-fits _ begins)

pub returns-then-is_ascii_digit-clause-fits : goal.returns-then-is_ascii_digit-clause-fits
returns-then-is_ascii_digit-clause-fits c =
    let begins : is_ascii_digit (slice_index c.args.rest.now 0) ≡ true = search rules in
    rw c.decimal_piece.ensures (decimal-fits _ begins)

pub returns-else-is_ascii_digit-clause-fits : goal.returns-else-is_ascii_digit-clause-fits
returns-else-is_ascii_digit-clause-fits c = rw (c.mark_piece.ensures, c.byte_at-first.ensures) (mark-fits c.args.rest.now)
