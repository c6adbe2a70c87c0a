-- Expressions: a number, a label or `.`, with an optional `-` before a number, and behind it optionally `+` or `-` and a number. The tokens of a line are counted from 0.
use Rattle.std.specs.Prelude.{ℕ, ◌+◌, List, Option, Some, Result, Ok, Err, length, slice_get, option_map}
use Rattle.std.specs.Option.{option_map_or}
use Rattle.mw_text.specs.declared.token.Token.{Token}
use Rattle.mw_text.specs.declared.token.TokenKind.{TokenKind}
use Rattle.mw_text.specs.declared.token.TokenKind.TheVariants.{Word, Number, Plus, Minus, Here}
use Rattle.mw_syntax.specs.declared.expression.Base.{Base}
use Rattle.mw_syntax.specs.declared.expression.Base.TheVariants.{Number as BaseNumber, Negative, Name, Here as BaseHere}
use Rattle.mw_syntax.specs.declared.expression.Addend.{Addend}
use Rattle.mw_syntax.specs.declared.expression.Addend.TheVariants.{Nothing, Plus as PlusNumber, Minus as MinusNumber}
use Rattle.mw_syntax.specs.declared.expression.Read.{Read}

-- what the token at a place is, if there is one
abbrev pub kind_at : List Token → ℕ → Option TokenKind
kind_at tokens place = option_map (λ (token : Token). token.kind) (slice_get tokens place)

-- the column of the token at a place, or the place behind the line
abbrev pub column_at : List ℕ → List Token → ℕ → ℕ
column_at line tokens place = option_map_or (λ (token : Token). token.from + 1) (slice_get tokens place) (length line + 1)

-- the label that a token names
abbrev pub name_at : List Token → ℕ → Base
name_at tokens place = option_map_or (λ (token : Token). Name token.from token.to) (slice_get tokens place) BaseHere

-- an expression of these parts, which ends before a place
abbrev pub read_of : ℕ → Base → Addend → ℕ → Read
read_of column base addend next = record { expression = record { column = column; base = base; addend = addend }; next = next }

-- behind a base: `+` or `-` and a number, or nothing; a sign without a number is refused at what stands behind it
abbrev pub with_addend : ℕ → Base → ℕ → Option TokenKind → Option TokenKind → Result Read ℕ
with_addend column base place (Some Plus) (Some (Number n)) = Ok (read_of column base (PlusNumber n) (place + 2))
with_addend column base place (Some Plus) other = Err (place + 1)
with_addend column base place (Some Minus) (Some (Number n)) = Ok (read_of column base (MinusNumber n) (place + 2))
with_addend column base place (Some Minus) other = Err (place + 1)
with_addend column base place other behind = Ok (read_of column base Nothing place)

-- an expression whose base ends before a place
abbrev pub behind_base : List Token → ℕ → Base → ℕ → Result Read ℕ
behind_base tokens column base place = with_addend column base place (kind_at tokens place) (kind_at tokens (place + 1))

-- an expression, by its first token and the one behind it
abbrev pub expression_by : List Token → ℕ → ℕ → Option TokenKind → Option TokenKind → Result Read ℕ
expression_by tokens column place (Some (Number n)) second = behind_base tokens column (BaseNumber n) (place + 1)
expression_by tokens column place (Some Minus) (Some (Number n)) = behind_base tokens column (Negative n) (place + 2)
expression_by tokens column place (Some Minus) other = Err (place + 1)
expression_by tokens column place (Some Word) second = behind_base tokens column (name_at tokens place) (place + 1)
expression_by tokens column place (Some Here) second = behind_base tokens column BaseHere (place + 1)
expression_by tokens column place other second = Err place

-- the expression at a place and the place behind it, or the place of the token that can't stand there
unfoldable pub expression_at : List ℕ → List Token → ℕ → Result Read ℕ
expression_at line tokens place = expression_by tokens (column_at line tokens place) place (kind_at tokens place) (kind_at tokens (place + 1))
