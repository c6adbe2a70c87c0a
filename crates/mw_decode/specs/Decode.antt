-- What a word, or a prefix with its suffix, is: the row that matches, with its operands, unless they are an illegal form (Book I, instruction formats).
use Rattle.std.specs.Prelude.{ℕ, ◌+◌, ◌-◌, ◌*◌, ◌/◌, ◌%◌, ◌^◌, ◌≡◌, ◌==◌, Bool, true, false, ◌&&◌, if◌then◌else◌, Option, Some, None, IsSomeAnd, slice_get, Result, Ok, Err}
use Rattle.mw_prefix.specs.declared.wide.Wide.{Wide}
use Rattle.mw_prefix.specs.declared.wide.Wide.TheVariants.{Mls as MlsForm, Eight as EightForm, Nop as NopForm}
use Rattle.mw_prefix.specs.declared.wide.NotWide.{NotWide}
use Rattle.mw_prefix.specs.Wide.{split_of}
use Rattle.mw_tables.specs.declared.row.PrefixKind.{PrefixKind}
use Rattle.mw_tables.specs.declared.row.PrefixKind.TheVariants.{Plain, Mls, Eight, Nop}
use Rattle.mw_tables.specs.declared.layout.Layout.{Layout}
use Rattle.mw_tables.specs.Row.{TableRow}
use Rattle.mw_tables.specs.Rows.{table, layouts}
use Rattle.mw_tables.specs.Matching.{row_place}
use Rattle.mw_tables.specs.Layouts.{fields_of, operands_in, HasOperands}
use Rattle.mw_decode.specs.declared.insn.Insn.{Insn}
use Rattle.mw_decode.specs.declared.insn.Decoded.{Decoded}
use Rattle.mw_decode.specs.declared.insn.Decoded.TheVariants.{Insn as Is, Unavailable, Alignment, Illegal}
use Rattle.mw_decode.specs.Rules.{is_illegal_form}
use Rattle.mw_decode.specs.Unavailable.{opcode_of, without_row, without_row_prefixed}

-- the word is a prefix: it has a suffix behind it
abbrev pub is_prefix : ℕ → Bool
is_prefix word = opcode_of word == 1

-- the code of an instruction: its word, or its prefix and behind it its suffix
abbrev pub code_of : ℕ → Option ℕ → ℕ
code_of word None = word
code_of word (Some suffix) = word * 2 ^ 32 + suffix

-- a bit of the word, or of the suffix, numbered from the left of its 32
abbrev pub is_set : ℕ → ℕ → Bool
is_set code bit = code / 2 ^ (31 - bit) % 2 == 1

-- the kind of a prefixed form
abbrev pub kind_of : Wide → PrefixKind
kind_of (MlsForm pcrel disp suffix) = Mls
kind_of (EightForm pcrel disp suffix) = Eight
kind_of (NopForm suffix) = Nop

-- the place of the row that matches a suffix behind a prefix of this form
abbrev pub place_behind : Result Wide NotWide → ℕ → Option ℕ
place_behind (Ok wide) suffix = row_place (kind_of wide) suffix
place_behind (Err none) suffix = None

-- the place in the table of the row that matches
abbrev pub place_of : ℕ → Option ℕ → Option ℕ
place_of word None = row_place Plain word
place_of word (Some suffix) = place_behind (split_of word suffix) suffix

-- a code as an instruction of this row and layout
abbrev pub insn_of : ℕ → ℕ → TableRow → Layout → Insn
insn_of code place row layout = record {
  row = place;
  ops = record { items = operands_in code (fields_of layout) };
  oe = row.oe && is_set code 21;
  rc = row.rc && is_set code 31;
  aa = row.absolute && is_set code 30;
  lk = row.links && is_set code 31;
}

-- the instruction, where its operands are no illegal form
abbrev pub if_legal : Insn → Option Insn
if_legal insn = if is_illegal_form insn.row insn.ops.items then None else Some insn

-- the instruction of a row and its layout; the cases without them are never met
abbrev pub insn_by : ℕ → ℕ → Option TableRow → Option Layout → Option Insn
insn_by code place (Some row) (Some layout) = if_legal (insn_of code place row layout)
insn_by code place (Some row) None = None
insn_by code place None layout = None

-- the instruction at a place of the table
abbrev pub insn_at : ℕ → Option ℕ → Option Insn
insn_at code None = None
insn_at code (Some place) = insn_by code place (slice_get table place) (slice_get layouts place)

-- the instruction that a word is, with its suffix where it is a prefix
abbrev pub found_of : ℕ → Option ℕ → Option Insn
found_of word suffix = insn_at (code_of word suffix) (place_of word suffix)

-- what is told of an instruction that may be there: that it is this one, or that it isn't there
abbrev pub Finds : Bool → Insn → Option Insn → Type 0
Finds true insn found = found ≡ Some insn
Finds false insn found = found ≡ None

-- what a word is where it isn't an instruction
abbrev pub otherwise : ℕ → Option ℕ → Decoded
otherwise word None = without_row word
otherwise word (Some suffix) = without_row_prefixed word suffix

-- an instruction, or where there is none what the word is otherwise
abbrev pub insn_or : Option Insn → Decoded → Decoded
insn_or (Some insn) other = Is insn
insn_or None other = other

-- what a word is, with its suffix where it is a prefix
unfoldable pub decode_of : ℕ → Option ℕ → Decoded
decode_of word suffix = insn_or (found_of word suffix) (otherwise word suffix)

-- what a word is, is an instruction
abbrev pub is_insn : Decoded → Bool
is_insn (Is insn) = true
is_insn (Unavailable facility) = false
is_insn (Alignment ra rb disp) = false
is_insn Illegal = false

-- what is told of what a word is: that it is this instruction, or that it is none
abbrev pub Decodes : Bool → Insn → Decoded → Type 0
Decodes true insn decoded = decoded ≡ Is insn
Decodes false insn decoded = is_insn decoded ≡ false

-- a form is there only where the row has it
abbrev pub HasForms : TableRow → Insn → Type 0
HasForms row insn = (insn.oe ≡ true → row.oe ≡ true) × (insn.rc ≡ true → row.rc ≡ true) × (insn.aa ≡ true → row.absolute ≡ true) × (insn.lk ≡ true → row.links ≡ true)

-- an instruction of the table: its row has its forms, its operands are in range, and they are no illegal form
pub record IsInsn (insn : Insn) : Type 0 where
  pub forms : IsSomeAnd (slice_get table insn.row) (λ row. HasForms row insn)
  pub operands : IsSomeAnd (slice_get layouts insn.row) (λ layout. HasOperands (fields_of layout) insn.ops.items)
  pub legal : is_illegal_form insn.row insn.ops.items ≡ false

-- a fact on the instruction, where a word is one
abbrev pub OnInsn : (Insn → Type 0) → Decoded → Type 0
OnInsn P (Is insn) = P insn
OnInsn P (Unavailable facility) = Unit {0}
OnInsn P (Alignment ra rb disp) = Unit {0}
OnInsn P Illegal = Unit {0}
