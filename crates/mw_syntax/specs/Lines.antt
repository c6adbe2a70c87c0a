-- A line by itself: an optional label `name:`, then an optional statement, which is a directive or a mnemonic with its operands; or the first thing that can't stand there.
use Rattle.std.specs.Prelude.{ℕ, zero, suc, ◌+◌, ◌==◌, if◌then◌else◌, List, [], ◌∷◌, Option, Some, None, Result, Ok, Err, length, slice_get, option_map, codes, bytes_eq}
use Rattle.std.specs.Option.{option_map_or}
use Rattle.mw_text.specs.declared.token.Token.{Token}
use Rattle.mw_text.specs.declared.token.TokenKind.{TokenKind}
use Rattle.mw_text.specs.declared.token.TokenKind.TheVariants.{Word, Colon}
use Rattle.mw_text.specs.Lines.{tokens_of}
use Rattle.mw_tables.specs.declared.row.Shape.{Shape}
use Rattle.mw_tables.specs.declared.row.Shape.TheVariants.{Empty}
use Rattle.mw_tables.specs.Row.{TableRow}
use Rattle.mw_tables.specs.Rows.{table}
use Rattle.mw_syntax.specs.declared.expression.Expression.{Expression}
use Rattle.mw_syntax.specs.declared.expression.Read.{Read}
use Rattle.mw_syntax.specs.declared.fault.What.{What}
use Rattle.mw_syntax.specs.declared.fault.What.TheVariants.{Token as TokenFault, Name, Operand}
use Rattle.mw_syntax.specs.declared.fault.Refusal.{Refusal}
use Rattle.mw_syntax.specs.declared.mnemonic.Mnemonic.{Mnemonic}
use Rattle.mw_syntax.specs.declared.statement.Unit.{Unit as DataUnit}
use Rattle.mw_syntax.specs.declared.statement.Unit.TheVariants.{Byte, Long, Quad, BigQuad}
use Rattle.mw_syntax.specs.declared.statement.Label.{Label}
use Rattle.mw_syntax.specs.declared.statement.Statement.{Statement}
use Rattle.mw_syntax.specs.declared.statement.Statement.TheVariants.{Nothing, Org, Data, Instruction}
use Rattle.mw_syntax.specs.declared.statement.Line.{Line}
use Rattle.mw_syntax.specs.Expressions.{kind_at, column_at, expression_at}
use Rattle.mw_syntax.specs.declared.item.Item.TheVariants.{Comma}
use Rattle.mw_syntax.specs.Items.{pattern_items, text_of, is_mark, operands_at, with_first}
use Rattle.mw_syntax.specs.Mnemonics.{mnemonic_of}

-- a refusal at a column
abbrev pub refusal : What → ℕ → Refusal
refusal what column = record { column = column; what = what }

-- a value that stands for itself, or a refusal of what stands at a place
abbrev pub or_operand : {A B : Type 0} → List ℕ → List Token → (A → B) → Result A ℕ → Result B Refusal
or_operand line tokens make (Ok value) = Ok (make value)
or_operand line tokens make (Err place) = Err (refusal Operand (column_at line tokens place))

-- an expression alone up to the line's end
abbrev pub only : List Token → Result Read ℕ → Result Expression ℕ
only tokens (Ok read) = if read.next == length tokens then Ok read.expression else Err read.next
only tokens (Err place) = Err place

-- a value that was read, in front of the others where a comma follows
abbrev pub and_values : List Token → Result Read ℕ → (ℕ → Result (List Expression) ℕ) → Result (List Expression) ℕ
and_values tokens (Ok read) others =
    if read.next == length tokens then Ok (read.expression ∷ [])
    else if is_mark Comma (kind_at tokens read.next) then with_first read.expression (others (read.next + 1))
    else Err read.next
and_values tokens (Err place) others = Err place

-- one value or more, joined by commas, from a place on; there are at most so many
unfoldable pub values_at : ℕ → List ℕ → List Token → ℕ → Result (List Expression) ℕ
values_at zero line tokens place = Err place
values_at (suc most) line tokens place = and_values tokens (expression_at line tokens place) (values_at most line tokens)

-- the directives of data
abbrev pub unit_of : List ℕ → Option DataUnit
unit_of name =
    if bytes_eq name (codes ".byte") then Some Byte
    else if bytes_eq name (codes ".long") then Some Long
    else if bytes_eq name (codes ".quad") then Some Quad
    else if bytes_eq name (codes ".be64") then Some BigQuad
    else None

-- the list of operands of a mnemonic's row
abbrev pub shape_at : ℕ → Shape
shape_at place = option_map_or (λ (row : TableRow). row.shape) (slice_get table place) Empty

-- an instruction, by what its name means; a name that means nothing is refused
abbrev pub instruction_by : List ℕ → List Token → ℕ → ℕ → Option Mnemonic → Result Statement Refusal
instruction_by line tokens name place None = Err (refusal Name name)
instruction_by line tokens name place (Some mnemonic) =
    or_operand line tokens (λ operands. Instruction name mnemonic (record { items = operands })) (operands_at (pattern_items mnemonic.pattern (shape_at mnemonic.row)) line tokens place)

-- data, where the name is such a directive, and else an instruction
abbrev pub data_or : List ℕ → List Token → ℕ → ℕ → List ℕ → Option DataUnit → Result Statement Refusal
data_or line tokens name place text (Some unit) = or_operand line tokens (Data name unit) (values_at (length tokens) line tokens place)
data_or line tokens name place text None = instruction_by line tokens name place (mnemonic_of text)

-- the statement of a name at this column, whose operands begin at a place
abbrev pub statement_by : List ℕ → List Token → ℕ → ℕ → List ℕ → Result Statement Refusal
statement_by line tokens name place text =
    if bytes_eq text (codes ".org") then or_operand line tokens (Org name) (only tokens (expression_at line tokens place))
    else data_or line tokens name place text (unit_of text)

-- a token that a statement begins with is a word, and else refused as a name
abbrev pub statement_from : List ℕ → List Token → ℕ → Token → TokenKind → Result Statement Refusal
statement_from line tokens place token Word = statement_by line tokens (token.from + 1) (place + 1) (text_of line token)
statement_from line tokens place token other = Err (refusal Name (token.from + 1))

-- the statement at a place, where there are tokens
abbrev pub statement_at : List ℕ → List Token → ℕ → Option Token → Result Statement Refusal
statement_at line tokens place None = Ok Nothing
statement_at line tokens place (Some token) = statement_from line tokens place token token.kind

-- a statement with a label, unless it is refused
abbrev pub labelled : Option Label → Result Statement Refusal → Result Line Refusal
labelled label (Ok statement) = Ok (record { label = label; statement = statement })
labelled label (Err refused) = Err refused

-- the label of a word that `:` follows
abbrev pub label_by : List Token → Option TokenKind → Option TokenKind → Option Label
label_by tokens (Some Word) (Some Colon) = option_map (λ (token : Token). record { from = token.from; to = token.to }) (slice_get tokens 0)
label_by tokens first second = None

-- the label of a line
abbrev pub label_of : List Token → Option Label
label_of tokens = label_by tokens (kind_at tokens 0) (kind_at tokens 1)

-- the place of a line's statement
abbrev pub statement_place : Option Label → ℕ
statement_place None = 0
statement_place (Some label) = 2

-- a line of these tokens
abbrev pub line_by : List ℕ → List Token → Result Line Refusal
line_by line tokens = labelled (label_of tokens) (statement_at line tokens (statement_place (label_of tokens)) (slice_get tokens (statement_place (label_of tokens))))

-- a line whose tokens are these, or is refused at a column
abbrev pub line_in : List ℕ → Result (List Token) ℕ → Result Line Refusal
line_in line (Ok tokens) = line_by line tokens
line_in line (Err column) = Err (refusal TokenFault column)

-- what a line is by itself, or what is refused of it
unfoldable pub line_of : List ℕ → Result Line Refusal
line_of line = line_in line (tokens_of line)
