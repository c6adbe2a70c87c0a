-- The words of no row that are known all the same: of facilities that aren't there, and accesses that raise an alignment interrupt. They go by opcode; which they are is this project's choice where the architecture names another facility or calls the word illegal.
use Rattle.std.specs.Prelude.{ℕ, ◌==◌, Bool, ◌&&◌, ◌||◌, if◌then◌else◌, List, [], ◌∷◌, Some, None, pos}
use Rattle.std.specs.List.{list_any}
use Rattle.mw_bits.specs.Fields.{field_of}
use Rattle.mw_prefix.specs.Wide.{is_mls}
use Rattle.mw_tables.specs.Layouts.{operand_in, d}
use Rattle.mw_decode.specs.declared.insn.Facility.TheVariants.{Fp, Vector, Vsx}
use Rattle.mw_decode.specs.declared.insn.Decoded.{Decoded}
use Rattle.mw_decode.specs.declared.insn.Decoded.TheVariants.{Unavailable, Alignment, Illegal}

-- the primary opcode of a word, bits 0 to 5
abbrev pub opcode_of : ℕ → ℕ
opcode_of word = field_of word 32 37

-- the extended code of the format X, bits 21 to 30
abbrev pub extended_of : ℕ → ℕ
extended_of word = field_of word 53 62

-- the field of RA, bits 11 to 15
abbrev pub ra_of : ℕ → ℕ
ra_of word = field_of word 43 47

-- the field of RB, bits 16 to 20
abbrev pub rb_of : ℕ → ℕ
rb_of word = field_of word 48 52

-- the number is one of these
abbrev pub is_in : List ℕ → ℕ → Bool
is_in numbers number = list_any (λ n. n == number) numbers

-- opcode 31 with one of these extended codes
abbrev pub is_extended : List ℕ → ℕ → Bool
is_extended numbers word = opcode_of word == 31 && is_in numbers (extended_of word)

-- floating-point: loads and stores, arithmetic
abbrev pub float_opcodes : List ℕ
float_opcodes = 48 ∷ 49 ∷ 50 ∷ 51 ∷ 52 ∷ 53 ∷ 54 ∷ 55 ∷ 59 ∷ 63 ∷ []

-- floating-point loads and stores of the format X
abbrev pub float_codes : List ℕ
float_codes = 535 ∷ 567 ∷ 599 ∷ 631 ∷ 663 ∷ 695 ∷ 727 ∷ 759 ∷ 855 ∷ 887 ∷ 983 ∷ []

-- the suffixes of prefixed floating-point loads and stores
abbrev pub float_suffixes : List ℕ
float_suffixes = 48 ∷ 50 ∷ 52 ∷ 54 ∷ []

-- vector loads and stores of the format X
abbrev pub vector_codes : List ℕ
vector_codes = 6 ∷ 7 ∷ 38 ∷ 39 ∷ 71 ∷ 103 ∷ 135 ∷ 167 ∷ 199 ∷ 231 ∷ 359 ∷ 487 ∷ []

-- vector-scalar words
abbrev pub vsx_opcodes : List ℕ
vsx_opcodes = 6 ∷ 57 ∷ 60 ∷ 61 ∷ []

-- load and store multiple, which have a displacement
abbrev pub multiple_opcodes : List ℕ
multiple_opcodes = 46 ∷ 47 ∷ []

-- moves of strings with their length in XER, at RA|0 and RB
abbrev pub indexed_string_codes : List ℕ
indexed_string_codes = 533 ∷ 661 ∷ []

-- moves of strings with their length in the word, at RA|0
abbrev pub string_codes : List ℕ
string_codes = 597 ∷ 725 ∷ []

-- a word of the floating-point facility
abbrev pub is_float : ℕ → Bool
is_float word = is_in float_opcodes (opcode_of word) || is_extended float_codes word

-- a word of the vector facility; those of opcode 4 that have a row aren't asked
abbrev pub is_vector : ℕ → Bool
is_vector word = opcode_of word == 4 || is_extended vector_codes word

-- a word of the vector-scalar facility
abbrev pub is_vsx : ℕ → Bool
is_vsx word = is_in vsx_opcodes (opcode_of word)

-- what a word is that has no row, or an illegal form of one: of a facility that isn't there, an access that raises alignment, or illegal
abbrev pub without_row : ℕ → Decoded
without_row word =
    if is_float word then Unavailable Fp
    else if is_vector word then Unavailable Vector
    else if is_vsx word then Unavailable Vsx
    else if is_in multiple_opcodes (opcode_of word) then Alignment (ra_of word) None (operand_in word d)
    else if is_extended indexed_string_codes word then Alignment (ra_of word) (Some (rb_of word)) (pos 0)
    else if is_extended string_codes word then Alignment (ra_of word) None (pos 0)
    else Illegal

-- what a prefix and its suffix are that have no row, or an illegal form of one: of a facility that isn't there, or illegal
abbrev pub without_row_prefixed : ℕ → ℕ → Decoded
without_row_prefixed prefix suffix = if is_mls prefix && is_in float_suffixes (opcode_of suffix) then Unavailable Fp else Illegal
