-- A printed statement, assembled again: what it stands for at its address, and what the statements of a whole image give.
use Rattle.std.specs.Prelude.{⊤, ℕ, ◌-◌, ◌*◌, ◌^◌, ◌<◌, ◌≡◌, List, ◌∷◌, [], ◌++◌, Option, Some, None, IfSome, Ok, codes, decimal, replicate, length, flat_map}
use Rattle.mw_decode.specs.declared.insn.Insn.{Insn}
use Rattle.mw_decode.specs.declared.insn.Code.{Code}
use Rattle.mw_decode.specs.declared.insn.Decoded.TheVariants.{Insn as Is}
use Rattle.mw_decode.specs.Decode.{decode_of}
use Rattle.mw_decode.specs.Encode.{encode_of, HasNoReserved}
use Rattle.mw_asm.specs.Values.{word_bytes, code_bytes}
use Rattle.mw_asm.specs.Assembled.{assembled}
use Rattle.mw_asm.specs.Disassembly.{Entry, statement_of, entries_of, word_count}

-- a source with a statement at an address
abbrev pub source_at : ℕ → List ℕ → List ℕ
source_at at statement = codes ".org " ++ decimal at ++ 10 ∷ statement ++ 10 ∷ []

-- an image with bytes at an address, and zeros before them
abbrev pub image_at : ℕ → List ℕ → List ℕ
image_at at bytes = replicate at 0 ++ bytes

-- a statement at an address assembles to these bytes
abbrev pub AssemblesTo : List ℕ → ℕ → List ℕ → Type 0
AssemblesTo statement at bytes = assembled (source_at at statement) ≡ Ok (image_at at bytes)

-- words that are this instruction, with no reserved bit set
abbrev pub IsClearCode : Code → Insn → Type 0
IsClearCode code insn = IfSome code.suffix (λ n. n < 2 ^ 32) × (decode_of code.word code.suffix ≡ Is insn) × HasNoReserved insn code

-- the words that an instruction has as a statement, or the word that is none
abbrev pub encoded_or_word : ℕ → Option Insn → List ℕ
encoded_or_word word (Some insn) = code_bytes (encode_of insn)
encoded_or_word word None = word_bytes word

-- what an entry's statement stands for
abbrev pub encoded_entry : Entry → List ℕ
encoded_entry entry = encoded_or_word entry.word entry.insn

-- an entry's statement assembles, at its address, to what it stands for
abbrev pub AssemblesAgain : Entry → Type 0
AssemblesAgain entry = AssemblesTo (statement_of entry) entry.at (encoded_entry entry)

-- the words of an entry, in bytes
abbrev pub entry_bytes : Entry → List ℕ
entry_bytes entry = code_bytes (record { word = entry.word; suffix = entry.suffix })

-- no reserved bit of an instruction's words is set; a word that is no instruction has none
abbrev pub ClearBy : ℕ → Option ℕ → Option Insn → Type 0
ClearBy word suffix (Some insn) = HasNoReserved insn (record { word = word; suffix = suffix })
ClearBy word suffix None = ⊤

-- no reserved bit of an entry's words is set
abbrev pub IsClear : Entry → Type 0
IsClear entry = ClearBy entry.word entry.suffix entry.insn

-- an entry's statement stands for the entry's own words, if no reserved bit of them is set
abbrev pub IsExactIfClear : Entry → Type 0
IsExactIfClear entry = IsClear entry → encoded_entry entry ≡ entry_bytes entry

-- the statements of an image, a line each
abbrev pub statements_of : List ℕ → List ℕ
statements_of image = flat_map (λ entry. statement_of entry ++ 10 ∷ []) (entries_of image)

-- what the statements of an image stand for, one behind the other
abbrev pub encoded_image : List ℕ → List ℕ
encoded_image image = flat_map encoded_entry (entries_of image)

-- an image, its last word filled with zeros
abbrev pub filled_image : List ℕ → List ℕ
filled_image image = image ++ replicate (4 * word_count image - length image) 0
