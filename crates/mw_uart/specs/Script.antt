-- The text of a script (this board's own): which bytes arrive at the UART, and at which cycles.
use Rattle.std.specs.Prelude.{ℕ, ◌+◌, ◌==◌, nat_lt, nat_le, ◌&&◌, ◌||◌, Bool, not, if◌then◌else◌, List, [], ◌∷◌, ◌++◌, length, map, take, drop, slice_index, Option, Some, None, Result, Ok, Err}
use Rattle.std.specs.List.{prefix_len, slice_split}
use Rattle.std.specs.Char.{is_ascii_digit}
use Rattle.std.specs.Str.Parse.{digits_value}
use Rattle.hex.specs.declared.error.FromHexError.{FromHexError}
use Rattle.hex.specs.Hex.{decode_of, is_hex_digit}

-- a text has at most so many bytes
abbrev pub text_limit : ℕ
text_limit = 1048576

-- no byte arrives after this cycle
abbrev pub last_cycle : ℕ
last_cycle = 4000000

-- what a line gives: its cycle, or that of the line before where it is skipped, and the bytes that arrive then
pub record Given : Type 0 where
  pub cycle : ℕ
  pub bytes : List ℕ

-- a refused place; lines and columns count from 1
pub record Place : Type 0 where
  pub line : ℕ
  pub column : ℕ

-- a line is skipped: it is empty, or its first byte is `#`
abbrev pub is_skipped : List ℕ → Bool
is_skipped line = length line == 0 || slice_index line 0 == 35

-- there are digits, and the first of several isn't 0
abbrev pub is_numeral : List ℕ → Bool
is_numeral digits = nat_lt 0 (length digits) && (length digits == 1 || not (slice_index digits 0 == 48))

-- the cycle that the digits write, where it isn't too large and doesn't fall
abbrev pub cycle_of : ℕ → List ℕ → Option ℕ
cycle_of before digits =
    if is_numeral digits && nat_le (digits_value 10 digits) last_cycle && nat_le before (digits_value 10 digits)
    then Some (digits_value 10 digits)
    else None

-- what the hexadecimal digits behind a place give, which are all that is left of the line; where they aren't an even, positive number of them,
-- the first byte that is none is refused, or else the place behind the line
abbrev pub bytes_behind : ℕ → ℕ → List ℕ → Result (List ℕ) FromHexError → Result Given ℕ
bytes_behind cycle place rest (Ok (byte ∷ bytes)) = Ok (record { cycle = cycle; bytes = byte ∷ bytes })
bytes_behind cycle place rest (Ok []) = Err (place + prefix_len is_hex_digit rest + 1)
bytes_behind cycle place rest (Err error) = Err (place + prefix_len is_hex_digit rest + 1)

-- what a line gives that has so many digits in front, which write this cycle or none: a space and bytes stand behind them
abbrev pub line_behind : List ℕ → ℕ → Option ℕ → Result Given ℕ
line_behind line count None = Err 1
line_behind line count (Some cycle) =
    if slice_index line count == 32
    then bytes_behind cycle (count + 1) (drop (count + 1) line) (decode_of (drop (count + 1) line))
    else Err (count + 1)

-- what a line gives behind a cycle, or its refused column
unfoldable pub line_of : ℕ → List ℕ → Result Given ℕ
line_of before line =
    if is_skipped line then Ok (record { cycle = before; bytes = [] })
    else line_behind line (prefix_len is_ascii_digit line) (cycle_of before (take (prefix_len is_ascii_digit line) line))

-- each byte behind its cycle
abbrev pub pairs_of : ℕ → List ℕ → List (ℕ × ℕ)
pairs_of cycle bytes = map (λ byte. (cycle, byte)) bytes

-- what a line gives is used, or else its place is refused
abbrev pub and_then : {A : Type 0} → ℕ → Result Given ℕ → (Given → Result A Place) → Result A Place
and_then number (Ok given) rest = rest given
and_then number (Err column) rest = Err (record { line = number; column = column })

-- the bytes of these lines, from the one of this number on, behind a cycle and the bytes before them
unfoldable pub read_from : ℕ → ℕ → List (ℕ × ℕ) → List (List ℕ) → Result (List (ℕ × ℕ)) Place
read_from number before pairs [] = Ok pairs
read_from number before pairs (line ∷ lines) = and_then number (line_of before line) (λ given. read_from (number + 1) given.cycle (pairs ++ pairs_of given.cycle given.bytes) lines)

-- the lines of a text, which line feeds part
abbrev pub lines_of : List ℕ → List (List ℕ)
lines_of text = slice_split (λ byte. byte == 10) text

-- the last of lines
abbrev pub last_of : List (List ℕ) → List ℕ
last_of [] = []
last_of (line ∷ []) = line
last_of (line ∷ next ∷ lines) = last_of (next ∷ lines)

-- the place behind a text
abbrev pub place_behind : List ℕ → Place
place_behind text = record { line = length (lines_of text); column = length (last_of (lines_of text)) + 1 }

-- the bytes of a script, each behind its cycle, or the first refused place of its text
unfoldable pub script_of : List ℕ → Result (List (ℕ × ℕ)) Place
script_of text = if nat_lt text_limit (length text) then Err (place_behind (take text_limit text)) else read_from 1 0 [] (lines_of text)
