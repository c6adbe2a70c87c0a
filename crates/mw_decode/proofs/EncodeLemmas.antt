-- Encoding and decoding undo each other.
use Rattle.std.proofs.Common.{◌≡◌, ℕ, ◌^◌, ◌<◌, Option, bit_and, refl, sym, ap, ◌∙◌, subst}
use Rattle.std.specs.Prelude.{is_some, IfSome}
use Rattle.mw_tables.specs.Sound.{used_bits, code_of}
use Rattle.mw_tables.proofs.OperandLaws.{code_of-suffix, code_of-prefix, code_of-used, code_of-lt, row-sound}
use Rattle.mw_decode.specs.declared.insn.Insn.{Insn}
use Rattle.mw_decode.specs.declared.insn.Code.{Code}
use Rattle.mw_decode.specs.declared.insn.Decoded.TheVariants.{Insn as Is}
use Rattle.mw_decode.specs.Decode.{IsInsn, is_prefix, place_of, decode_of}
use Rattle.mw_decode.specs.Encode.{all_operands, words_of, encode_of, number_of, HasNoReserved}
use Rattle.mw_decode.proofs.EncodeParts.{number_of-words_of}
use Rattle.mw_decode.proofs.EncodeRows.{IsInsn-IsAt, encode_of-at, encode_of-place, insn_at-code, decode_of-from, no_reserved-at, prefix_of-code}
use Rattle.mw_decode.proofs.EncodeBack.{decode_of-found, insn_at-Stands, encoded_again}

-- decoding an instruction's words gives the instruction again
pub encode_of-decodes : (insn : Insn) → IsInsn insn → decode_of (encode_of insn).word (encode_of insn).suffix ≡ Is insn
encode_of-decodes insn is =
    let found = IsInsn-IsAt insn is in
    let row = found.0 in
    let layout = found.1 in
    let at = found.2 in
    let code = code_of row layout (all_operands insn) in
    let words = words_of row.prefix code in
    subst (λ (w : Code). decode_of w.word w.suffix ≡ Is insn) (sym (encode_of-at insn row layout at.row_there at.layout_there))
    (decode_of-from words.word words.suffix code insn.row insn (number_of-words_of row.prefix code) (encode_of-place insn row layout at) (insn_at-code insn row layout at is.legal))

-- an instruction has a suffix exactly where its word is a prefix
pub encode_of-prefix : (insn : Insn) → IsInsn insn → is_some (encode_of insn).suffix ≡ is_prefix (encode_of insn).word
encode_of-prefix insn is =
    let found = IsInsn-IsAt insn is in
    let row = found.0 in
    let layout = found.1 in
    let at = found.2 in
    let zs = all_operands insn in
    let sound = row-sound insn.row row layout at.row_there at.layout_there in
    subst (λ (w : Code). is_some w.suffix ≡ is_prefix w.word) (sym (encode_of-at insn row layout at.row_there at.layout_there))
    (prefix_of-code row.prefix (code_of row layout zs) insn.row row at.row_there refl (code_of-lt row layout zs sound) (code_of-suffix row layout zs sound) (code_of-prefix row layout zs sound))

-- the reserved bits of an instruction's words are 0
pub encode_of-reserved : (insn : Insn) → IsInsn insn → HasNoReserved insn (encode_of insn)
encode_of-reserved insn is =
    let found = IsInsn-IsAt insn is in
    let row = found.0 in
    let layout = found.1 in
    let at = found.2 in
    let code = code_of row layout (all_operands insn) in
    let sound = row-sound insn.row row layout at.row_there at.layout_there in
    let used = code_of-used row layout (all_operands insn) sound in
    subst (λ (w : Code). HasNoReserved insn w) (sym (encode_of-at insn row layout at.row_there at.layout_there))
    (no_reserved-at insn row layout (words_of row.prefix code) at.row_there at.layout_there
    (subst (λ n. bit_and n (used_bits row layout) ≡ n) (sym (number_of-words_of row.prefix code)) used))

-- encoding an instruction that a word, or a prefix with its suffix, is gives them again, where their reserved bits are 0
pub encode_of-decoded : (insn : Insn) (word : ℕ) (suffix : Option ℕ) → IfSome suffix (λ n. n < 2 ^ 32) → decode_of word suffix ≡ Is insn → HasNoReserved insn (record { word = word; suffix = suffix }) → encode_of insn ≡ record { word = word; suffix = suffix }
encode_of-decoded insn word suffix below is clear =
    let code = number_of (record { word = word; suffix = suffix }) in
    let found = insn_at-Stands code (place_of word suffix) insn (decode_of-found word suffix insn is) in
    let stands = found.2 in
    ap encode_of (sym stands.same)
    ∙ encoded_again word suffix found.0 stands.row stands.layout below found.1 stands.row_there stands.layout_there
    (subst (λ (i : Insn). HasNoReserved i (record { word = word; suffix = suffix })) (sym stands.same) clear)
