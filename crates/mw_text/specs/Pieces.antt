-- What stands at the front of the rest of a line. Bytes are ASCII codes; past the end of the rest a byte reads as 0, which begins no token.
use Rattle.std.specs.Prelude.{ℕ, ⊤, ◌+◌, ◌^◌, ◌≤◌, ◌==◌, nat_lt, Bool, ◌&&◌, ◌||◌, if◌then◌else◌, List, take, drop, slice_index}
use Rattle.std.specs.List.{prefix_len}
use Rattle.std.specs.Char.{is_ascii_alphabetic, is_ascii_alphanumeric, is_ascii_digit, is_ascii_hexdigit}
use Rattle.std.specs.Str.Parse.{digits_value}
use Rattle.mw_text.specs.declared.token.TokenKind.TheVariants.{Word, Number, Comma, Colon, Open, Close, Plus, Minus, Here}
use Rattle.mw_text.specs.declared.piece.Piece.{Piece}
use Rattle.mw_text.specs.declared.piece.Piece.TheVariants.{Blank, Comment, Found, Bad}

-- a space or a tab
abbrev pub is_blank : ℕ → Bool
is_blank byte = byte == 32 || byte == 9

-- a byte that may stand in a word: a letter, a digit, `_` or `.`
abbrev pub is_of_word : ℕ → Bool
is_of_word byte = is_ascii_alphanumeric byte || byte == 95 || byte == 46

-- a word begins: by a letter, `_`, or a `.` that a letter follows
abbrev pub begins_word : List ℕ → Bool
begins_word rest = is_ascii_alphabetic (slice_index rest 0) || slice_index rest 0 == 95 || slice_index rest 0 == 46 && is_ascii_alphabetic (slice_index rest 1)

-- a hexadecimal number begins: by `0x` and a digit
abbrev pub begins_hexadecimal : List ℕ → Bool
begins_hexadecimal rest = slice_index rest 0 == 48 && slice_index rest 1 == 120 && is_ascii_hexdigit (slice_index rest 2)

-- a number in so many bytes, where it has at most 64 bits
abbrev pub number_piece : ℕ → ℕ → Piece
number_piece length value = if nat_lt value (2 ^ 64) then Found (Number value) length else Bad

-- the decimal number of all the digits at the front
unfoldable pub decimal_piece : List ℕ → Piece
decimal_piece rest = number_piece (prefix_len is_ascii_digit rest) (digits_value 10 (take (prefix_len is_ascii_digit rest) rest))

-- the hexadecimal number of `0x` and all the digits behind it
unfoldable pub hexadecimal_piece : List ℕ → Piece
hexadecimal_piece rest = number_piece (2 + prefix_len is_ascii_hexdigit (drop 2 rest)) (digits_value 16 (take (prefix_len is_ascii_hexdigit (drop 2 rest)) (drop 2 rest)))

-- the token of one byte: `,` `:` `(` `)` `+` `-` or `.`
abbrev pub mark_piece : ℕ → Piece
mark_piece byte =
    if byte == 44 then Found Comma 1
    else if byte == 58 then Found Colon 1
    else if byte == 40 then Found Open 1
    else if byte == 41 then Found Close 1
    else if byte == 43 then Found Plus 1
    else if byte == 45 then Found Minus 1
    else if byte == 46 then Found Here 1
    else Bad

-- what stands at the front of the rest of a line; a comment begins with `#`
unfoldable pub piece_at : List ℕ → Piece
piece_at rest =
    if is_blank (slice_index rest 0) then Blank
    else if slice_index rest 0 == 35 then Comment
    else if begins_word rest then Found Word (prefix_len is_of_word rest)
    else if begins_hexadecimal rest then hexadecimal_piece rest
    else if is_ascii_digit (slice_index rest 0) then decimal_piece rest
    else mark_piece (slice_index rest 0)

-- a token has at least one byte, and at most those of the rest
abbrev pub FitsPiece : ℕ → Piece → Type 0
FitsPiece most (Found kind length) = (1 ≤ length) × (length ≤ most)
FitsPiece most Blank = ⊤
FitsPiece most Comment = ⊤
FitsPiece most Bad = ⊤
