-- One entry: how many bytes its statement stands for, what the statement gives, and that it stands for its words.
use Rattle.std.proofs.Common.{◌≡◌, ℕ, ◌+◌, ◌^◌, ◌<◌, ◌≤◌, Bool, true, false, Option, Some, None, if◌then◌else◌, length, refl, sym, ap, ◌∙◌, subst, arith}
use Rattle.std.specs.Prelude.{IfSome, IsSomeAnd, IsTrue, slice_get, nat_lt}
use Rattle.std.specs.Option.{option_map_or}
use Rattle.std.proofs.lemmas.Bool.{and_parts, eqb-true}
use Rattle.std.proofs.lemmas.List.{append-nil}
use Rattle.mw_tables.specs.declared.row.PrefixKind.{PrefixKind}
use Rattle.mw_tables.specs.declared.row.PrefixKind.TheVariants.{Plain, Mls, Eight, Nop}
use Rattle.mw_tables.specs.Row.{TableRow}
use Rattle.mw_tables.specs.Rows.{table}
use Rattle.mw_tables.specs.Matching.{kind_number, matches, row_place}
use Rattle.mw_tables.proofs.Places.{row_place-MatchesAt}
use Rattle.mw_decode.specs.declared.insn.Insn.{Insn}
use Rattle.mw_decode.specs.declared.insn.Decoded.{Decoded}
use Rattle.mw_decode.specs.declared.insn.Decoded.TheVariants.{Insn as Is, Unavailable, Alignment, Illegal}
use Rattle.mw_decode.specs.Decode.{code_of, is_prefix, place_of, decode_of, insn_at}
use Rattle.mw_decode.proofs.InsnLemmas.{decode_of-Is}
use Rattle.mw_decode.proofs.EncodeBack.{decode_of-found, insn_at-Stands}
use Rattle.mw_decode.proofs.EncodeLemmas.{encode_of-decoded}
use Rattle.mw_asm.specs.Values.{word_bytes, code_bytes}
use Rattle.mw_asm.specs.Assembled.{code_size, image_limit}
use Rattle.mw_asm.specs.Disassembly.{Entry, statement_of, long_entry, entry_by, entry_with}
use Rattle.mw_asm.specs.Again.{encoded_entry, IsExactIfClear}
use Rattle.mw_asm.proofs.PrintedForms.{GivesBytes}
use Rattle.mw_asm.proofs.SourceTextLemmas.{long-gives, long-length}
use Rattle.mw_asm.proofs.AgainLemmas.{insn-length, statement-gives}

-- how many bytes a word has with its suffix
abbrev pub size_by : Option ℕ → ℕ
size_by None = 4
size_by (Some suffix) = 8

-- an instruction that a code is stands at its row
insn_at-row : (code : ℕ) (found : Option ℕ) (insn : Insn) → insn_at code found ≡ Some insn → found ≡ Some insn.row
insn_at-row code found insn e =
    let stands = insn_at-Stands code found insn e in
    stands.1 ∙ ap (λ (i : Insn). Some i.row) stands.2.same

-- how many bytes an instruction has behind a prefix of this kind
abbrev kind_size : PrefixKind → ℕ
kind_size kind = if nat_lt 0 (kind_number kind) then 8 else 4

-- how many bytes an instruction of a row has, by the row's prefix
abbrev row_size : Option TableRow → ℕ
row_size row = if option_map_or (λ (r : TableRow). nat_lt 0 (kind_number r.prefix)) row false then 8 else 4

-- a row that matches has the size of its kind
row-size : (kind : PrefixKind) (word : ℕ) (row : Option TableRow) → IsSomeAnd row (λ r. IsTrue (matches kind word r)) → row_size row ≡ kind_size kind
row-size kind word None there = absurd there
row-size kind word (Some row) there = ap (λ n. if nat_lt 0 n then 8 else 4) (eqb-true _ _ (and_parts _ _ there).0)

-- the row at the place of a word, or of a suffix, has the size of its kind
place-size : (kind : PrefixKind) (word place : ℕ) → row_place kind word ≡ Some place → code_size place ≡ kind_size kind
place-size kind word place e = row-size kind word (slice_get table place) (row_place-MatchesAt kind word place e)

-- behind a prefix no row is plain, so an instruction there has eight bytes
behind-size : (prefix suffix place : ℕ) → place_of prefix (Some suffix) ≡ Some place → code_size place ≡ 8
behind-size prefix suffix place e = grind (arith, place-size Mls, place-size Eight, place-size Nop)

place_of-size : (word : ℕ) (suffix : Option ℕ) (place : ℕ) → place_of word suffix ≡ Some place → code_size place ≡ size_by suffix
place_of-size word None place e = place-size Plain word place e
place_of-size word (Some suffix) place e = behind-size word suffix place e

-- an instruction has eight bytes where it has a suffix, and else four
decoded-size : (word : ℕ) (suffix : Option ℕ) (insn : Insn) → decode_of word suffix ≡ Is insn → code_size insn.row ≡ size_by suffix
decoded-size word suffix insn is = place_of-size word suffix insn.row (insn_at-row (code_of word suffix) (place_of word suffix) insn (decode_of-found word suffix insn is))

-- what an entry for a word at an address, with this suffix or alone, has
pub record IsEntry (at word : ℕ) (suffix : Option ℕ) (entry : Entry) : Type 0 where
  pub place : entry.at ≡ at
  pub word_same : entry.word ≡ word
  pub suffix_same : IfSome entry.suffix (λ s. suffix ≡ Some s)
  pub size : length (encoded_entry entry) ≡ size_by entry.suffix
  pub gives : word < 2 ^ 32 → at + size_by entry.suffix ≤ image_limit → GivesBytes entry.at (statement_of entry) (encoded_entry entry)
  pub exact : IfSome suffix (λ s. s < 2 ^ 32) → IsExactIfClear entry

-- a word alone
long-IsEntry : (at word : ℕ) (suffix : Option ℕ) → IsEntry at word suffix (long_entry at word)
long-IsEntry at word suffix = record {
  place = refl;
  word_same = refl;
  suffix_same = tt;
  size = long-length word;
  gives = λ below room. long-gives at word below room;
  exact = λ below clear. sym (append-nil (word_bytes word));
}

own-suffix : (suffix : Option ℕ) → IfSome suffix (λ s. suffix ≡ Some s)
own-suffix None = tt
own-suffix (Some s) = refl

-- an instruction
insn-IsEntry : (at word : ℕ) (suffix : Option ℕ) (insn : Insn) → decode_of word suffix ≡ Is insn → IsEntry at word suffix (record { at = at; word = word; suffix = suffix; insn = Some insn })
insn-IsEntry at word suffix insn is =
    let found = decode_of-Is word suffix insn is in
    let size = decoded-size word suffix insn is in record {
      place = refl;
      word_same = refl;
      suffix_same = own-suffix suffix;
      size = insn-length insn found ∙ size;
      gives = λ below room. statement-gives insn found at (subst (λ n. at + n ≤ image_limit) (sym size) room);
      exact = λ below clear. ap code_bytes (encode_of-decoded insn word suffix below is clear);
    }

-- the entry of a word with its suffix has what an entry has, by what they decode to
by-IsEntry : (at word : ℕ) (suffix : Option ℕ) (decoded : Decoded) → decode_of word suffix ≡ decoded → IsEntry at word suffix (entry_by at word suffix decoded)
by-IsEntry at word suffix (Is insn) is = insn-IsEntry at word suffix insn is
by-IsEntry at word suffix (Unavailable facility) is = long-IsEntry at word suffix
by-IsEntry at word suffix (Alignment ra rb disp) is = long-IsEntry at word suffix
by-IsEntry at word suffix Illegal is = long-IsEntry at word suffix

-- a prefix without a suffix is taken as a word alone
alone-IsEntry : (at word : ℕ) (prefix : Bool) → IsEntry at word None (if prefix then long_entry at word else entry_by at word None (decode_of word None))
alone-IsEntry at word true = long-IsEntry at word None
alone-IsEntry at word false = by-IsEntry at word None (decode_of word None) refl

-- the entry of a word with its suffix
pub entry_with-IsEntry : (at word : ℕ) (suffix : Option ℕ) → IsEntry at word suffix (entry_with at word suffix)
entry_with-IsEntry at word None = alone-IsEntry at word (is_prefix word)
entry_with-IsEntry at word (Some suffix) = by-IsEntry at word (Some suffix) (decode_of word (Some suffix)) refl
