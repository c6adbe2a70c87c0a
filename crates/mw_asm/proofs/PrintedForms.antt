-- How a printed statement is read: its tokens, its expressions, and what a line of it gives.
use Rattle.std.proofs.Common.{◌≡◌, ℕ, ◌+◌, ◌≤◌, ◌==◌, Bool, true, false, not, ◌&&◌, List, [], ◌∷◌, ◌++◌, Ok, length}
use Rattle.std.specs.Prelude.{⊤, ℤ, pos, int_lt, unsigned_abs, slice_index, decimal, nat_lt, if◌then◌else◌, ◌+ℤ◌, FitsSigned}
use Rattle.std.specs.Int.{w64, cast_unsigned}
use Rattle.std.specs.List.{list_all}
use Rattle.mw_text.specs.declared.token.Token.{Token}
use Rattle.mw_text.specs.declared.token.TokenKind.{TokenKind}
use Rattle.mw_text.specs.declared.token.TokenKind.TheVariants.{Word, Number, Comma as CommaToken, Open as OpenToken, Close as CloseToken, Minus}
use Rattle.mw_text.specs.Pieces.{is_of_word}
use Rattle.mw_tables.specs.declared.layout.Field.{Field}
use Rattle.mw_tables.specs.Layouts.{width_of, is_readable, IsRegister}
use Rattle.mw_syntax.specs.declared.expression.Base.{Base}
use Rattle.mw_syntax.specs.declared.expression.Base.TheVariants.{Number as BaseNumber, Negative}
use Rattle.mw_syntax.specs.declared.expression.Addend.TheVariants.{Nothing}
use Rattle.mw_syntax.specs.declared.expression.Expression.{Expression}
use Rattle.mw_syntax.specs.declared.item.Kind.{Kind}
use Rattle.mw_syntax.specs.declared.item.Kind.TheVariants.{Register, Value, Target, Upper}
use Rattle.mw_syntax.specs.declared.item.Item.{Item}
use Rattle.mw_syntax.specs.declared.item.Item.TheVariants.{Operand, Comma, Open, Close}
use Rattle.mw_asm.specs.Assembled.{first_line, second_line}
use Rattle.mw_asm.specs.Disassembly.{operand_text}

-- what stands before these bytes ends there: the bytes don't begin with one that may stand in a word
abbrev pub IsClosed : List ℕ → Type 0
IsClosed rest = is_of_word (slice_index rest 0) ≡ false

-- no byte is a line feed
abbrev pub has_no_feed : List ℕ → Bool
has_no_feed text = list_all (λ byte. not (byte == 10)) text

-- a token of this kind in so many bytes from a place on
abbrev pub token_of : TokenKind → ℕ → ℕ → Token
token_of kind place size = record { kind = kind; from = place; to = place + size }

-- the tokens of a number with its sign
abbrev pub number_tokens : ℤ → ℕ → List Token
number_tokens z place =
    if int_lt z (pos 0) then token_of Minus place 1 ∷ token_of (Number (unsigned_abs z)) (place + 1) (length (decimal (unsigned_abs z))) ∷ []
    else token_of (Number (unsigned_abs z)) place (length (decimal (unsigned_abs z))) ∷ []

-- the address of a target
abbrev pub address_of_target : Bool → ℕ → ℤ → ℕ
address_of_target aa at z = cast_unsigned w64 (z +ℤ pos (if aa then 0 else at))

-- the tokens of an operand from a place on
abbrev pub operand_tokens : Kind → Bool → ℕ → ℤ → ℕ → List Token
operand_tokens Register aa at z place = token_of Word place (length (operand_text Register aa at z)) ∷ []
operand_tokens Target aa at z place = token_of (Number (address_of_target aa at z)) place (length (operand_text Target aa at z)) ∷ []
operand_tokens other aa at z place = number_tokens z place

-- what an operand is read as
abbrev pub operand_base : Kind → Bool → ℕ → ℤ → Base
operand_base Register aa at z = BaseNumber (unsigned_abs z)
operand_base Target aa at z = BaseNumber (address_of_target aa at z)
operand_base other aa at z = if int_lt z (pos 0) then Negative (unsigned_abs z) else BaseNumber (unsigned_abs z)

-- the expression of an operand that stands at a place
abbrev pub operand_expression : Kind → Bool → ℕ → ℤ → ℕ → Expression
operand_expression kind aa at z place = record { column = place + 1; base = operand_base kind aa at z; addend = Nothing }

-- the tokens of operands as an operand list writes them, from a place on
unfoldable pub operands_tokens : List Item → Bool → ℕ → List ℤ → ℕ → List Token
operands_tokens [] aa at zs place = []
operands_tokens (Operand kind ∷ items) aa at [] place = []
operands_tokens (Operand kind ∷ items) aa at (z ∷ zs) place = operand_tokens kind aa at z place ++ operands_tokens items aa at zs (place + length (operand_text kind aa at z))
operands_tokens (Comma ∷ items) aa at zs place = token_of CommaToken place 1 ∷ operands_tokens items aa at zs (place + 1)
operands_tokens (Open ∷ items) aa at zs place = token_of OpenToken place 1 ∷ operands_tokens items aa at zs (place + 1)
operands_tokens (Close ∷ items) aa at zs place = token_of CloseToken place 1 ∷ operands_tokens items aa at zs (place + 1)

-- the expressions of operands as an operand list writes them, from a place on
unfoldable pub operands_expressions : List Item → Bool → ℕ → List ℤ → ℕ → List Expression
operands_expressions [] aa at zs place = []
operands_expressions (Operand kind ∷ items) aa at [] place = []
operands_expressions (Operand kind ∷ items) aa at (z ∷ zs) place = operand_expression kind aa at z place ∷ operands_expressions items aa at zs (place + length (operand_text kind aa at z))
operands_expressions (mark ∷ items) aa at zs place = operands_expressions items aa at zs (place + 1)

-- behind each operand of a list stands a mark or nothing
abbrev pub is_separated : List Item → Bool
is_separated [] = true
is_separated (Operand kind ∷ []) = true
is_separated (Operand kind ∷ Operand other ∷ items) = false
is_separated (Operand kind ∷ mark ∷ items) = is_separated items
is_separated (mark ∷ items) = is_separated items

-- an operand that can be written and is read again
abbrev pub IsWritable : Kind → ℤ → Type 0
IsWritable Register z = IsRegister z
IsWritable Target z = FitsSigned w64 z
IsWritable Value z = FitsSigned w64 z
IsWritable Upper z = ⊥

-- as many operands as kinds, and each can be written
abbrev pub AreWritable : List Kind → List ℤ → Type 0
AreWritable [] [] = ⊤
AreWritable [] (z ∷ zs) = ⊥
AreWritable (kind ∷ kinds) [] = ⊥
AreWritable (kind ∷ kinds) (z ∷ zs) = IsWritable kind z × AreWritable kinds zs

-- a field of five bits that holds a register
abbrev pub is_register_field : Field → Bool
is_register_field f = not f.signed && (f.shift == 0 && nat_lt (width_of f) 6)

-- a field whose operands are of this kind
abbrev pub holds_kind : Kind → Field → Bool
holds_kind Register f = is_readable f && is_register_field f
holds_kind Target f = is_readable f
holds_kind Value f = is_readable f
holds_kind Upper f = false

-- one kind for each field, and each field holds its kind
abbrev pub hold_kinds : List Kind → List Field → Bool
hold_kinds [] [] = true
hold_kinds [] (f ∷ fields) = false
hold_kinds (kind ∷ kinds) [] = false
hold_kinds (kind ∷ kinds) (f ∷ fields) = holds_kind kind f && hold_kinds kinds fields

-- a line that has no label and gives these bytes at an address, whatever stands around it
pub record GivesBytes (at : ℕ) (line bytes : List ℕ) : Type 0 where
  pub short : length line ≤ 1000
  pub one : has_no_feed line ≡ true
  pub first : first_line (record { at = at; known = [] }) line ≡ Ok (record { at = at + length bytes; known = [] })
  pub second : second_line [] at line ≡ Ok bytes
