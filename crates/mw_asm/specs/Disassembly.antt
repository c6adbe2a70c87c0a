-- The disassembly of an image: a line for each instruction, with its address, its word or its two words, and its statement as the assembler reads it; and a `.long` line for each word that is none.
use Rattle.std.specs.Prelude.{ℕ, zero, suc, ◌+◌, ◌*◌, ◌/◌, ◌%◌, ◌==◌, nat_lt, Bool, true, false, not, ◌&&◌, if◌then◌else◌, List, [], ◌∷◌, ◌++◌, ℤ, pos, ◌+ℤ◌, Option, Some, None, is_some, length, slice_get, slice_index_or, codes, flat_map}
use Rattle.std.specs.Option.{option_map_or}
use Rattle.std.specs.Int.{w64, cast_unsigned}
use Rattle.mw_digits.specs.Digits.{hex, short_hex, signed_decimal}
use Rattle.mw_tables.specs.Row.{TableRow}
use Rattle.mw_tables.specs.Rows.{table}
use Rattle.mw_decode.specs.declared.insn.Insn.{Insn}
use Rattle.mw_decode.specs.declared.insn.Decoded.{Decoded}
use Rattle.mw_decode.specs.declared.insn.Decoded.TheVariants.{Insn as Is, Unavailable, Alignment, Illegal}
use Rattle.mw_decode.specs.Decode.{decode_of, is_prefix}
use Rattle.mw_syntax.specs.declared.item.Kind.{Kind}
use Rattle.mw_syntax.specs.declared.item.Kind.TheVariants.{Register, Target}
use Rattle.mw_syntax.specs.declared.item.Item.{Item}
use Rattle.mw_syntax.specs.declared.item.Item.TheVariants.{Operand, Comma, Open, Close}
use Rattle.mw_syntax.specs.Items.{items_of}
use Rattle.mw_syntax.specs.Mnemonics.{spelled}
use Rattle.mw_syntax.specs.Lines.{shape_at}

-- an operand: a register as `rN`, a target as its address, anything else as a decimal number
abbrev pub operand_text : Kind → Bool → ℕ → ℤ → List ℕ
operand_text Register aa at z = 114 ∷ signed_decimal z
operand_text Target aa at z = short_hex (cast_unsigned w64 (z +ℤ pos (if aa then 0 else at)))
operand_text other aa at z = signed_decimal z

-- a mark of an operand list
abbrev pub mark_text : Item → List ℕ
mark_text Comma = codes ","
mark_text Open = codes "("
mark_text Close = codes ")"
mark_text (Operand kind) = []

-- operands as an operand list writes them
unfoldable pub operands_text : List Item → Bool → ℕ → List ℤ → List ℕ
operands_text [] aa at zs = []
operands_text (Operand kind ∷ items) aa at [] = []
operands_text (Operand kind ∷ items) aa at (z ∷ zs) = operand_text kind aa at z ++ operands_text items aa at zs
operands_text (mark ∷ items) aa at zs = mark_text mark ++ operands_text items aa at zs

-- a blank and the operands, where there are any
abbrev pub behind_name : List ℕ → List ℕ
behind_name [] = []
behind_name (byte ∷ bytes) = 32 ∷ byte ∷ bytes

-- the name of a row
abbrev pub name_at : ℕ → List ℕ
name_at place = option_map_or (λ (row : TableRow). row.name) (slice_get table place) []

-- the statement of an instruction at an address: its name with the endings of its forms, and its operands
abbrev pub statement_text : Insn → ℕ → List ℕ
statement_text insn at = (spelled (name_at insn.row) insn.row insn.oe insn.lk insn.aa insn.rc).name ++ behind_name (operands_text (items_of (shape_at insn.row)) insn.aa at insn.ops.items)

-- a byte of an image, or zero behind its end
abbrev pub image_byte : List ℕ → ℕ → ℕ
image_byte image at = slice_index_or image at 0

-- the word at an address of an image, the least significant byte first; a byte that isn't there is zero
abbrev pub image_word : List ℕ → ℕ → ℕ
image_word image at = image_byte image at + 256 * (image_byte image (at + 1) + 256 * (image_byte image (at + 2) + 256 * image_byte image (at + 3)))

-- the suffix of the word at an address, if it is a prefix that has one: in the image, and in its block of 64 bytes
abbrev pub suffix_in : List ℕ → ℕ → Option ℕ
suffix_in image at = if is_prefix (image_word image at) && not (at % 64 == 60) && nat_lt (at + 4) (length image) then Some (image_word image (at + 4)) else None

-- a word or two as they are printed
abbrev pub words_text : ℕ → Option ℕ → List ℕ
words_text word None = hex 8 word
words_text word (Some suffix) = hex 8 word ++ 32 ∷ hex 8 suffix

-- a line: the address, the words, the statement
abbrev pub line_text : ℕ → ℕ → Option ℕ → List ℕ → List ℕ
line_text at word suffix statement = hex 16 at ++ 32 ∷ words_text word suffix ++ 32 ∷ statement ++ 10 ∷ []

-- an entry: a word at an address, the suffix that belongs to it, and the instruction that they are
pub record Entry : Type 0 where
  pub at : ℕ
  pub word : ℕ
  pub suffix : Option ℕ
  pub insn : Option Insn

-- the statement of a word that is no instruction
abbrev pub long_statement : ℕ → List ℕ
long_statement word = codes ".long 0x" ++ hex 8 word

-- the statement of an instruction at an address, or of a word that is none
abbrev pub statement_or_long : ℕ → ℕ → Option Insn → List ℕ
statement_or_long at word (Some insn) = statement_text insn at
statement_or_long at word None = long_statement word

-- the statement of an entry
abbrev pub statement_of : Entry → List ℕ
statement_of entry = statement_or_long entry.at entry.word entry.insn

-- the line of an entry
abbrev pub entry_text : Entry → List ℕ
entry_text entry = line_text entry.at entry.word entry.suffix (statement_of entry)

-- a word that is no instruction stands alone
abbrev pub long_entry : ℕ → ℕ → Entry
long_entry at word = record { at = at; word = word; suffix = None; insn = None }

-- the entry of a word with its suffix, by what they are
abbrev pub entry_by : ℕ → ℕ → Option ℕ → Decoded → Entry
entry_by at word suffix (Is insn) = record { at = at; word = word; suffix = suffix; insn = Some insn }
entry_by at word suffix (Unavailable facility) = long_entry at word
entry_by at word suffix (Alignment ra rb disp) = long_entry at word
entry_by at word suffix Illegal = long_entry at word

-- a prefix without a suffix is no instruction
abbrev pub entry_with : ℕ → ℕ → Option ℕ → Entry
entry_with at word None = if is_prefix word then long_entry at word else entry_by at word None (decode_of word None)
entry_with at word (Some suffix) = entry_by at word (Some suffix) (decode_of word (Some suffix))

-- the entry at an address
unfoldable pub entry_at : List ℕ → ℕ → Entry
entry_at image at = entry_with at (image_word image at) (suffix_in image at)

-- the entries of so many words from an address on; the first word has none where it is the suffix of the one before
unfoldable pub entries_from : ℕ → Bool → List ℕ → ℕ → List Entry
entries_from zero suffix image at = []
entries_from (suc left) true image at = entries_from left false image (at + 4)
entries_from (suc left) false image at = entry_at image at ∷ entries_from left (is_some (entry_at image at).suffix) image (at + 4)

-- how many words an image has, the last one filled with zeros
abbrev pub word_count : List ℕ → ℕ
word_count image = (length image + 3) / 4

-- the entries of an image
abbrev pub entries_of : List ℕ → List Entry
entries_of image = entries_from (word_count image) false image 0

-- the disassembly of an image
unfoldable pub disassembly : List ℕ → List ℕ
disassembly image = flat_map entry_text (entries_of image)
