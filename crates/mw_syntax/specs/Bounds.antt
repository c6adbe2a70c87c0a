-- Where the parts of a line stand, and what is known of its instruction.
use Rattle.std.specs.Prelude.{◌≡◌, ⊤, ℕ, ◌<◌, ◌≤◌, List, Some, IfSome, All, length}
use Rattle.mw_syntax.specs.declared.expression.Base.{Base}
use Rattle.mw_syntax.specs.declared.expression.Base.TheVariants.{Number, Negative, Name, Here}
use Rattle.mw_syntax.specs.declared.expression.Expression.{Expression}
use Rattle.mw_syntax.specs.declared.mnemonic.Mnemonic.{Mnemonic}
use Rattle.mw_syntax.specs.declared.statement.Label.{Label}
use Rattle.mw_syntax.specs.declared.statement.Statement.{Statement}
use Rattle.mw_syntax.specs.declared.statement.Statement.TheVariants.{Nothing, Org, Data, Instruction}
use Rattle.mw_syntax.specs.declared.statement.Line.{Line}
use Rattle.mw_syntax.specs.Items.{kinds_of, pattern_items}
use Rattle.mw_syntax.specs.Mnemonics.{mnemonic_of}
use Rattle.mw_syntax.specs.Lines.{shape_at}

-- a column of the line's bytes
pub record IsColumn (line : List ℕ) (column : ℕ) : Type 0 where
  pub above : 1 ≤ column
  pub within : column ≤ length line

-- a part of the line that isn't empty
pub record IsPart (line : List ℕ) (from to : ℕ) : Type 0 where
  pub some : from < to
  pub within : to ≤ length line

-- the label that an expression begins with is a part of the line
abbrev pub IsBase : List ℕ → Base → Type 0
IsBase line (Number n) = ⊤
IsBase line (Negative n) = ⊤
IsBase line (Name from to) = IsPart line from to
IsBase line Here = ⊤

-- an expression that stands in the line
pub record IsExpression (line : List ℕ) (expression : Expression) : Type 0 where
  pub column : IsColumn line expression.column
  pub base : IsBase line expression.base

-- an instruction of the line: its name is a mnemonic, with as many operands as are written for it
pub record IsInstruction (line : List ℕ) (name : ℕ) (mnemonic : Mnemonic) (operands : List Expression) : Type 0 where
  pub column : IsColumn line name
  pub text : List ℕ
  pub known : mnemonic_of text ≡ Some mnemonic
  pub count : length operands ≡ length (kinds_of (pattern_items mnemonic.pattern (shape_at mnemonic.row)))
  pub each : All (IsExpression line) operands

-- a statement of the line
abbrev pub IsStatement : List ℕ → Statement → Type 0
IsStatement line Nothing = ⊤
IsStatement line (Org name to) = IsColumn line name × IsExpression line to
IsStatement line (Data name unit values) = IsColumn line name × All (IsExpression line) values
IsStatement line (Instruction name mnemonic operands) = IsInstruction line name mnemonic operands.items

-- the label and the statement stand in the line
pub record IsLine (line : List ℕ) (read : Line) : Type 0 where
  pub label : IfSome read.label (λ (label : Label). IsPart line label.from label.to)
  pub statement : IsStatement line read.statement
