-- Operand lists: what is written for each list of operands, and how it is read.
use Rattle.std.specs.Prelude.{ℕ, ◌+◌, ◌-◌, ◌*◌, ◌==◌, nat_lt, Bool, true, false, ◌&&◌, if◌then◌else◌, List, [], ◌∷◌, ◌++◌, Option, Some, None, Result, Ok, Err, length, slice_get, slice_index, take, drop}
use Rattle.std.specs.Char.{is_ascii_digit}
use Rattle.mw_text.specs.declared.token.Token.{Token}
use Rattle.mw_text.specs.declared.token.TokenKind.{TokenKind}
use Rattle.mw_text.specs.declared.token.TokenKind.TheVariants.{Word, Comma as CommaToken, Open as OpenToken, Close as CloseToken}
use Rattle.mw_tables.specs.declared.row.Shape.{Shape}
use Rattle.mw_tables.specs.declared.row.Shape.TheVariants.{RtRaSi, BfLRaSi, BfLRaUi, ToRaSi, RaRsUi, RtD, Target as TargetShape, BoBiTarget, BoBiBh, BtBaBb, BfBfa, RaRsShMbMe, RaRsRbMbMe, RaRsShMb, RaRsShMe, RaRsRbMb, RaRsRbMe, RtRaRbRc, RtRaRb, RtRa, RtRaRbCy, RaRsRb, RaRsSh, RaRs, BfLRaRb, ToRaRb, RtRaRbBc, Rt, RtFxm, FxmRs, RtBfa, RtBi, BfRaRb, Bf, RtDRa, RaRb, Empty, L, RsL, RbRsRicPrsR, RtSpr, SprRs, RtTbr, RtL, RtRaSiR, RtDRaR}
use Rattle.mw_syntax.specs.declared.expression.Base.TheVariants.{Number}
use Rattle.mw_syntax.specs.declared.expression.Addend.TheVariants.{Nothing}
use Rattle.mw_syntax.specs.declared.expression.Expression.{Expression}
use Rattle.mw_syntax.specs.declared.expression.Read.{Read}
use Rattle.mw_syntax.specs.declared.item.Kind.{Kind}
use Rattle.mw_syntax.specs.declared.item.Kind.TheVariants.{Register, Value, Target, Upper}
use Rattle.mw_syntax.specs.declared.item.Item.{Item}
use Rattle.mw_syntax.specs.declared.item.Item.TheVariants.{Operand, Comma, Open, Close}
use Rattle.mw_syntax.specs.declared.mnemonic.Pattern.{Pattern}
use Rattle.mw_syntax.specs.declared.mnemonic.Pattern.TheVariants.{Row, Li, Lis, Mr}
use Rattle.mw_syntax.specs.Expressions.{kind_at, column_at, read_of, expression_at}

-- operands joined by commas
abbrev pub joined : List Kind → List Item
joined [] = []
joined (kind ∷ []) = Operand kind ∷ []
joined (kind ∷ more ∷ kinds) = Operand kind ∷ Comma ∷ joined (more ∷ kinds)

-- D(RA) behind RT
abbrev pub displaced : List Item
displaced = Operand Register ∷ Comma ∷ Operand Value ∷ Open ∷ Operand Register ∷ Close ∷ []

-- what is written for each list of operands
abbrev pub items_of : Shape → List Item
items_of RtRaSi = joined (Register ∷ Register ∷ Value ∷ [])
items_of BfLRaSi = joined (Value ∷ Value ∷ Register ∷ Value ∷ [])
items_of BfLRaUi = joined (Value ∷ Value ∷ Register ∷ Value ∷ [])
items_of ToRaSi = joined (Value ∷ Register ∷ Value ∷ [])
items_of RaRsUi = joined (Register ∷ Register ∷ Value ∷ [])
items_of RtD = joined (Register ∷ Value ∷ [])
items_of TargetShape = joined (Target ∷ [])
items_of BoBiTarget = joined (Value ∷ Value ∷ Target ∷ [])
items_of BoBiBh = joined (Value ∷ Value ∷ Value ∷ [])
items_of BtBaBb = joined (Value ∷ Value ∷ Value ∷ [])
items_of BfBfa = joined (Value ∷ Value ∷ [])
items_of RaRsShMbMe = joined (Register ∷ Register ∷ Value ∷ Value ∷ Value ∷ [])
items_of RaRsRbMbMe = joined (Register ∷ Register ∷ Register ∷ Value ∷ Value ∷ [])
items_of RaRsShMb = joined (Register ∷ Register ∷ Value ∷ Value ∷ [])
items_of RaRsShMe = joined (Register ∷ Register ∷ Value ∷ Value ∷ [])
items_of RaRsRbMb = joined (Register ∷ Register ∷ Register ∷ Value ∷ [])
items_of RaRsRbMe = joined (Register ∷ Register ∷ Register ∷ Value ∷ [])
items_of RtRaRbRc = joined (Register ∷ Register ∷ Register ∷ Register ∷ [])
items_of RtRaRb = joined (Register ∷ Register ∷ Register ∷ [])
items_of RtRa = joined (Register ∷ Register ∷ [])
items_of RtRaRbCy = joined (Register ∷ Register ∷ Register ∷ Value ∷ [])
items_of RaRsRb = joined (Register ∷ Register ∷ Register ∷ [])
items_of RaRsSh = joined (Register ∷ Register ∷ Value ∷ [])
items_of RaRs = joined (Register ∷ Register ∷ [])
items_of BfLRaRb = joined (Value ∷ Value ∷ Register ∷ Register ∷ [])
items_of ToRaRb = joined (Value ∷ Register ∷ Register ∷ [])
items_of RtRaRbBc = joined (Register ∷ Register ∷ Register ∷ Value ∷ [])
items_of Rt = joined (Register ∷ [])
items_of RtFxm = joined (Register ∷ Value ∷ [])
items_of FxmRs = joined (Value ∷ Register ∷ [])
items_of RtBfa = joined (Register ∷ Value ∷ [])
items_of RtBi = joined (Register ∷ Value ∷ [])
items_of BfRaRb = joined (Value ∷ Register ∷ Register ∷ [])
items_of Bf = joined (Value ∷ [])
items_of RtDRa = displaced
items_of RaRb = joined (Register ∷ Register ∷ [])
items_of Empty = []
items_of L = joined (Value ∷ [])
items_of RsL = joined (Register ∷ Value ∷ [])
items_of RbRsRicPrsR = joined (Register ∷ Register ∷ Value ∷ Value ∷ Value ∷ [])
items_of RtSpr = joined (Register ∷ Value ∷ [])
items_of SprRs = joined (Value ∷ Register ∷ [])
items_of RtTbr = joined (Register ∷ Value ∷ [])
items_of RtL = joined (Register ∷ Value ∷ [])
items_of RtRaSiR = joined (Register ∷ Register ∷ Value ∷ Value ∷ [])
items_of RtDRaR = displaced ++ (Comma ∷ Operand Value ∷ [])

-- what is written for a mnemonic of a row with this list of operands
abbrev pub pattern_items : Pattern → Shape → List Item
pattern_items Row shape = items_of shape
pattern_items Li shape = joined (Register ∷ Value ∷ [])
pattern_items Lis shape = joined (Register ∷ Upper ∷ [])
pattern_items Mr shape = joined (Register ∷ Register ∷ [])
pattern_items other shape = []

-- the kinds of the operands among items
abbrev pub kinds_of : List Item → List Kind
kinds_of [] = []
kinds_of (Operand kind ∷ items) = kind ∷ kinds_of items
kinds_of (other ∷ items) = kinds_of items

-- the register that a word names: `r0` to `r9`, or `r10` to `r31`
abbrev pub register_of : List ℕ → Option ℕ
register_of word =
    if (length word == 2) && (slice_index word 0 == 114) && is_ascii_digit (slice_index word 1)
    then Some (slice_index word 1 - 48)
    else if (length word == 3) && (slice_index word 0 == 114) && nat_lt 48 (slice_index word 1) && is_ascii_digit (slice_index word 1) && is_ascii_digit (slice_index word 2)
    && nat_lt ((slice_index word 1 - 48) * 10 + (slice_index word 2 - 48)) 32
    then Some ((slice_index word 1 - 48) * 10 + (slice_index word 2 - 48))
    else None

-- the bytes of a token
abbrev pub text_of : List ℕ → Token → List ℕ
text_of line token = take (token.to - token.from) (drop token.from line)

-- the register that a token of a kind names, where it is a word that does
abbrev pub register_by : List ℕ → Token → TokenKind → Option ℕ
register_by line token Word = register_of (text_of line token)
register_by line token other = None

-- the register that the token at a place names
abbrev pub register_in : List ℕ → Option Token → Option ℕ
register_in line None = None
register_in line (Some token) = register_by line token token.kind

-- a register or an expression at a place
abbrev pub register_or : List ℕ → List Token → ℕ → Option ℕ → Result Read ℕ
register_or line tokens place (Some number) = Ok (read_of (column_at line tokens place) (Number number) Nothing (place + 1))
register_or line tokens place None = expression_at line tokens place

-- an operand of a kind at a place
abbrev pub operand_at : Kind → List ℕ → List Token → ℕ → Result Read ℕ
operand_at Register line tokens place = register_or line tokens place (register_in line (slice_get tokens place))
operand_at other line tokens place = expression_at line tokens place

-- a token that may be there is this mark
abbrev pub is_mark : Item → Option TokenKind → Bool
is_mark Comma (Some CommaToken) = true
is_mark Open (Some OpenToken) = true
is_mark Close (Some CloseToken) = true
is_mark other kind = false

-- an expression in front of others, unless those are refused
abbrev pub with_first : Expression → Result (List Expression) ℕ → Result (List Expression) ℕ
with_first expression (Ok others) = Ok (expression ∷ others)
with_first expression (Err place) = Err place

-- an operand that was read, in front of those behind it
abbrev pub and_behind : Result Read ℕ → (ℕ → Result (List Expression) ℕ) → Result (List Expression) ℕ
and_behind (Ok read) others = with_first read.expression (others read.next)
and_behind (Err place) others = Err place

-- the operands that are written from a place on, or the place of the token that can't stand there
unfoldable pub operands_at : List Item → List ℕ → List Token → ℕ → Result (List Expression) ℕ
operands_at [] line tokens place = if place == length tokens then Ok [] else Err place
operands_at (Operand kind ∷ items) line tokens place = and_behind (operand_at kind line tokens place) (operands_at items line tokens)
operands_at (mark ∷ items) line tokens place = if is_mark mark (kind_at tokens place) then operands_at items line tokens (place + 1) else Err place
