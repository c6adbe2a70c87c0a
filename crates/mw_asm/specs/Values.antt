-- What expressions are worth, and the bytes of a statement at an address; or the first value that can't be had.
use Rattle.std.specs.Prelude.{ℕ, ◌+◌, ◌-◌, ◌*◌, ◌%◌, ◌^◌, Bool, not, ◌&&◌, if◌then◌else◌, List, [], ◌∷◌, ◌++◌, ℤ, pos, neg_ℤ, ◌+ℤ◌, ◌-ℤ◌, int_lt, Option, Some, None, Result, Ok, Err, take, drop, slice_get, option_map, bytes_eq, reverse}
use Rattle.std.specs.Option.{option_map_or}
use Rattle.std.specs.Ordering.{int_eq}
use Rattle.std.specs.Int.{w64, cast_signed, cast_unsigned}
use Rattle.std.specs.Hash.{le_bytes}
use Rattle.mw_tables.specs.declared.layout.Field.{Field}
use Rattle.mw_tables.specs.Rows.{layouts}
use Rattle.mw_tables.specs.Layouts.{fields_of, operand_from, bits_from}
use Rattle.mw_decode.specs.declared.insn.Insn.{Insn}
use Rattle.mw_decode.specs.declared.insn.Code.{Code}
use Rattle.mw_decode.specs.Rules.{is_illegal_form}
use Rattle.mw_decode.specs.Encode.{encode_of}
use Rattle.mw_syntax.specs.declared.expression.Base.{Base}
use Rattle.mw_syntax.specs.declared.expression.Base.TheVariants.{Number, Negative, Name, Here}
use Rattle.mw_syntax.specs.declared.expression.Addend.{Addend}
use Rattle.mw_syntax.specs.declared.expression.Addend.TheVariants.{Nothing, Plus, Minus}
use Rattle.mw_syntax.specs.declared.expression.Expression.{Expression}
use Rattle.mw_syntax.specs.declared.fault.What.TheVariants.{Range, Label as LabelFault}
use Rattle.mw_syntax.specs.declared.fault.Refusal.{Refusal}
use Rattle.mw_syntax.specs.declared.item.Kind.{Kind}
use Rattle.mw_syntax.specs.declared.item.Kind.TheVariants.{Target, Upper}
use Rattle.mw_syntax.specs.declared.mnemonic.Mnemonic.{Mnemonic}
use Rattle.mw_syntax.specs.declared.mnemonic.Pattern.{Pattern}
use Rattle.mw_syntax.specs.declared.mnemonic.Pattern.TheVariants.{Row, Li, Lis, Mr, Nop, Always, Light, Tables}
use Rattle.mw_syntax.specs.declared.statement.Unit.{Unit as DataUnit}
use Rattle.mw_syntax.specs.declared.statement.Unit.TheVariants.{Byte, Long, Quad, BigQuad}
use Rattle.mw_syntax.specs.Items.{kinds_of, pattern_items}
use Rattle.mw_syntax.specs.Lines.{refusal, shape_at}

-- a label with its address
pub record Placed : Type 0 where
  pub name : List ℕ
  pub address : ℕ

-- the address of a name among labels, the first with that name
abbrev pub address_of : List Placed → List ℕ → Option ℕ
address_of [] name = None
address_of (label ∷ labels) name = if bytes_eq label.name name then Some label.address else address_of labels name

-- the bytes of a line from a place to another
abbrev pub part_of : List ℕ → ℕ → ℕ → List ℕ
part_of line from to = take (to - from) (drop from line)

-- what a base is worth at an address; nothing where its label isn't known
abbrev pub base_value : List Placed → ℕ → List ℕ → Base → Option ℤ
base_value labels at line (Number n) = Some (pos n)
base_value labels at line (Negative n) = Some (neg_ℤ (pos n))
base_value labels at line (Name from to) = option_map pos (address_of labels (part_of line from to))
base_value labels at line Here = Some (pos at)

-- the value of an expression, from its base's value and the addend behind the base; sums are exact
abbrev pub sum_value : Addend → ℤ → ℤ
sum_value Nothing value = value
sum_value (Plus n) value = value +ℤ pos n
sum_value (Minus n) value = value -ℤ pos n

-- what an expression is worth
abbrev pub value_of : List Placed → ℕ → List ℕ → Expression → Option ℤ
value_of labels at line expression = option_map (sum_value expression.addend) (base_value labels at line expression.base)

-- the column of the label that an expression begins with
abbrev pub label_column : Base → ℕ
label_column (Name from to) = from + 1
label_column other = 0

-- a number from low on and below high
abbrev pub is_between : ℤ → ℤ → ℤ → Bool
is_between low high value = not (int_lt value low) && int_lt value high

-- a target as a displacement, which wraps at 2^64: from the statement's address, or from 0 with AA
abbrev pub displacement_of : Bool → ℕ → ℤ → ℤ
displacement_of aa at value = cast_signed w64 (cast_unsigned w64 (value -ℤ pos (if aa then 0 else at)))

-- what an operand's value becomes; nothing where it is out of range by itself
abbrev pub converted : Kind → Bool → ℕ → ℤ → Option ℤ
converted Target aa at value = if is_between (neg_ℤ (pos (2 ^ 63))) (pos (2 ^ 64)) value then Some (displacement_of aa at value) else None
converted Upper aa at value = Some (if is_between (pos 32768) (pos 65536) value then value -ℤ pos 65536 else value)
converted other aa at value = Some value

-- the field can hold the operand
abbrev pub fits_field : Field → ℤ → Bool
fits_field f operand = int_eq (operand_from f (bits_from f operand)) operand

-- an operand that its field can hold, or nothing
abbrev pub if_fits : Field → Option ℤ → Option ℤ
if_fits f (Some operand) = if fits_field f operand then Some operand else None
if_fits f None = None

-- an operand in range, or a refusal at the expression's first token
abbrev pub in_range : Expression → Option ℤ → Result ℤ Refusal
in_range expression (Some operand) = Ok operand
in_range expression None = Err (refusal Range expression.column)

-- an operand, or a refusal: of its label first, then of its range, at its first token
abbrev pub operand_by : Expression → Kind → Field → Bool → ℕ → Option ℤ → Result ℤ Refusal
operand_by expression kind f aa at (Some value) = in_range expression (if_fits f (converted kind aa at value))
operand_by expression kind f aa at None = Err (refusal LabelFault (label_column expression.base))

-- an operand in front of others, which are tried only behind it
abbrev pub and_operands : Result ℤ Refusal → Result (List ℤ) Refusal → Result (List ℤ) Refusal
and_operands (Ok operand) (Ok others) = Ok (operand ∷ others)
and_operands (Ok operand) (Err refused) = Err refused
and_operands (Err refused) others = Err refused

-- the operands that are written, from left to right
unfoldable pub operands_of : List Placed → ℕ → List ℕ → Bool → List Expression → List Kind → List Field → Result (List ℤ) Refusal
operands_of labels at line aa (e ∷ es) (k ∷ ks) (f ∷ fs) = and_operands (operand_by e k f aa at (value_of labels at line e)) (operands_of labels at line aa es ks fs)
operands_of labels at line aa es ks fs = Ok []

-- the fields of the operands that are written
abbrev pub written_fields : Pattern → List Field → List Field
written_fields Row fs = fs
written_fields Li fs = take 1 fs ++ drop 2 fs
written_fields Lis fs = take 1 fs ++ drop 2 fs
written_fields Mr fs = take 2 fs
written_fields other fs = []

-- the operands of the row, from those that are written
abbrev pub filled : Pattern → List ℤ → List ℤ
filled Row zs = zs
filled Li zs = take 1 zs ++ pos 0 ∷ drop 1 zs
filled Lis zs = take 1 zs ++ pos 0 ∷ drop 1 zs
filled Mr zs = zs ++ drop 1 zs
filled Nop zs = pos 0 ∷ pos 0 ∷ pos 0 ∷ []
filled Always zs = pos 20 ∷ pos 0 ∷ pos 0 ∷ []
filled Light zs = pos 1 ∷ []
filled Tables zs = pos 2 ∷ []

-- the instruction of a mnemonic with these operands
abbrev pub insn_of : Mnemonic → List ℤ → Insn
insn_of mnemonic operands = record { row = mnemonic.row; ops = record { items = filled mnemonic.pattern operands }; oe = mnemonic.oe; rc = mnemonic.rc; aa = mnemonic.aa; lk = mnemonic.lk }

-- the 4 bytes of a word, the least significant first
abbrev pub word_bytes : ℕ → List ℕ
word_bytes word = le_bytes 4 word

-- the bytes of an instruction's words
abbrev pub code_bytes : Code → List ℕ
code_bytes code = word_bytes code.word ++ option_map_or word_bytes code.suffix []

-- the bytes of an instruction, unless it is an illegal form, which is refused at its name
abbrev pub if_legal : ℕ → Insn → Result (List ℕ) Refusal
if_legal name insn = if is_illegal_form insn.row insn.ops.items then Err (refusal Range name) else Ok (code_bytes (encode_of insn))

-- the bytes of an instruction of these operands, unless they are refused
abbrev pub instruction_of : ℕ → Mnemonic → Result (List ℤ) Refusal → Result (List ℕ) Refusal
instruction_of name mnemonic (Ok operands) = if_legal name (insn_of mnemonic operands)
instruction_of name mnemonic (Err refused) = Err refused

-- where the operands of the row at a place stand
abbrev pub fields_at : ℕ → List Field
fields_at place = option_map_or fields_of (slice_get layouts place) []

-- the bytes of an instruction at an address
abbrev pub instruction_bytes : List Placed → ℕ → List ℕ → ℕ → Mnemonic → List Expression → Result (List ℕ) Refusal
instruction_bytes labels at line name mnemonic operands =
    instruction_of name mnemonic (operands_of labels at line mnemonic.aa operands (kinds_of (pattern_items mnemonic.pattern (shape_at mnemonic.row))) (written_fields mnemonic.pattern (fields_at mnemonic.row)))

-- how many bytes a unit of data has
abbrev pub unit_size : DataUnit → ℕ
unit_size Byte = 1
unit_size Long = 4
unit_size Quad = 8
unit_size BigQuad = 8

-- a value that a unit can hold, signed or unsigned
abbrev pub fits_unit : DataUnit → ℤ → Bool
fits_unit unit value = is_between (neg_ℤ (pos (2 ^ (8 * unit_size unit - 1)))) (pos (2 ^ (8 * unit_size unit))) value

-- the bytes of a number in a unit
abbrev pub unit_bytes : DataUnit → ℕ → List ℕ
unit_bytes BigQuad number = reverse (le_bytes 8 number)
unit_bytes unit number = le_bytes (unit_size unit) number

-- the bytes of a value of data, or a refusal: of its label first, then of its range
abbrev pub value_by : DataUnit → Expression → Option ℤ → Result (List ℕ) Refusal
value_by unit expression (Some value) = if fits_unit unit value then Ok (unit_bytes unit (cast_unsigned w64 value % 2 ^ (8 * unit_size unit))) else Err (refusal Range expression.column)
value_by unit expression None = Err (refusal LabelFault (label_column expression.base))

-- bytes in front of others, which are tried only behind them
abbrev pub and_bytes : Result (List ℕ) Refusal → Result (List ℕ) Refusal → Result (List ℕ) Refusal
and_bytes (Ok bytes) (Ok others) = Ok (bytes ++ others)
and_bytes (Ok bytes) (Err refused) = Err refused
and_bytes (Err refused) others = Err refused

-- the bytes of data, from left to right
unfoldable pub data_bytes : List Placed → ℕ → List ℕ → DataUnit → List Expression → Result (List ℕ) Refusal
data_bytes labels at line unit [] = Ok []
data_bytes labels at line unit (e ∷ es) = and_bytes (value_by unit e (value_of labels at line e)) (data_bytes labels at line unit es)
