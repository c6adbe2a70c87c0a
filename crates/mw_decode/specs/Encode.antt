-- The word, or the prefix and the suffix, of an instruction: the fixed bits of its row, its operands and its forms, and zeros elsewhere (Book I, instruction formats).
use Rattle.std.specs.Prelude.{ℕ, ◌/◌, ◌%◌, ◌^◌, ◌≡◌, Bool, List, [], ◌∷◌, ◌++◌, ℤ, pos, Option, Some, None, IsSomeAnd, slice_get, if◌then◌else◌, bit_and}
use Rattle.mw_tables.specs.declared.row.PrefixKind.{PrefixKind}
use Rattle.mw_tables.specs.declared.row.PrefixKind.TheVariants.{Plain}
use Rattle.mw_tables.specs.declared.layout.Layout.{Layout}
use Rattle.mw_tables.specs.Row.{TableRow}
use Rattle.mw_tables.specs.Rows.{table, layouts}
use Rattle.mw_tables.specs.Sound.{used_bits, code_of}
use Rattle.mw_decode.specs.declared.insn.Insn.{Insn}
use Rattle.mw_decode.specs.declared.insn.Code.{Code}
use Rattle.mw_decode.specs.Decode.{code_of as joined}

-- a form as an operand: 1 where it is chosen
abbrev pub flag_operand : Bool → ℤ
flag_operand chosen = if chosen then pos 1 else pos 0

-- the forms OE, Rc, AA and LK as operands
abbrev pub flag_operands : Insn → List ℤ
flag_operands insn = flag_operand insn.oe ∷ flag_operand insn.rc ∷ flag_operand insn.aa ∷ flag_operand insn.lk ∷ []

-- the operands and behind them the forms
abbrev pub all_operands : Insn → List ℤ
all_operands insn = insn.ops.items ++ flag_operands insn

-- a code as a word, or as a prefix and a suffix
abbrev pub words_of : PrefixKind → ℕ → Code
words_of Plain code = record { word = code; suffix = None }
words_of other code = record { word = code / 2 ^ 32; suffix = Some (code % 2 ^ 32) }

-- the words of an instruction of a row and its layout; the cases without them are never met
abbrev pub encoded_by : Insn → Option TableRow → Option Layout → Code
encoded_by insn (Some row) (Some layout) = words_of row.prefix (code_of row layout (all_operands insn))
encoded_by insn (Some row) None = record { word = 0; suffix = None }
encoded_by insn None layout = record { word = 0; suffix = None }

-- the words of an instruction
unfoldable pub encode_of : Insn → Code
encode_of insn = encoded_by insn (slice_get table insn.row) (slice_get layouts insn.row)

-- the words as one number
abbrev pub number_of : Code → ℕ
number_of code = joined code.word code.suffix

-- the bits that are neither fixed by the instruction's row nor an operand or a form of it are 0
abbrev pub HasNoReserved : Insn → Code → Type 0
HasNoReserved insn code = IsSomeAnd (slice_get table insn.row) (λ row. IsSomeAnd (slice_get layouts insn.row) (λ layout. bit_and (number_of code) (used_bits row layout) ≡ number_of code))
