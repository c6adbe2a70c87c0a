-- What decoding gives is an instruction of the table: its row has its forms, its operands are in range, and they are no illegal form.
use Rattle.std.proofs.Common.{rules, ◌≡◌, ℕ, Bool, Option, Some, None, true, false, refl, ap, ◌∙◌, subst, slice_get}
use Rattle.std.proofs.lemmas.Bool.{and_parts, cond_both}
use Rattle.mw_tables.specs.declared.layout.Layout.{Layout}
use Rattle.mw_tables.specs.Row.{TableRow}
use Rattle.mw_tables.specs.Rows.{table, layouts}
use Rattle.mw_tables.specs.Layouts.{fields_of, operands_in}
use Rattle.mw_tables.proofs.FieldLaws.{operands_in-HasOperands}
use Rattle.mw_decode.specs.declared.insn.Insn.{Insn}
use Rattle.mw_decode.specs.declared.insn.Decoded.{Decoded}
use Rattle.mw_decode.specs.declared.insn.Decoded.TheVariants.{Insn as Is}
use Rattle.mw_decode.specs.Rules.{is_illegal_form}
use Rattle.mw_decode.specs.Unavailable.{without_row, without_row_prefixed}
use Rattle.mw_decode.specs.Decode.{IsInsn, OnInsn, code_of, place_of, if_legal, insn_of, insn_by, insn_at, insn_or, otherwise, found_of, Finds, is_insn, Decodes, decode_of}

-- a fact on the instruction, where there is one
abbrev OnSome : (Insn → Type 0) → Option Insn → Type 0
OnSome P None = Unit {0}
OnSome P (Some insn) = P insn

insn_of-IsInsn : (code place : ℕ) (row : TableRow) (layout : Layout) → slice_get table place ≡ Some row → slice_get layouts place ≡ Some layout → is_illegal_form place (operands_in code (fields_of layout)) ≡ false → IsInsn (insn_of code place row layout)
insn_of-IsInsn code place row layout r l allowed = record {
  forms = rw r ((λ e. (and_parts _ _ e).0), (λ e. (and_parts _ _ e).0), (λ e. (and_parts _ _ e).0), (λ e. (and_parts _ _ e).0));
  operands = rw l (operands_in-HasOperands code (fields_of layout));
  legal = allowed;
}

-- an instruction that is no illegal form is left
if_legal-IsInsn : (insn : Insn) → (is_illegal_form insn.row insn.ops.items ≡ false → IsInsn insn) → OnSome IsInsn (if_legal insn)
if_legal-IsInsn insn is = cond_both (is_illegal_form insn.row insn.ops.items) None (Some insn) (λ (o : Option Insn). OnSome IsInsn o) (λ _. tt) (λ allowed. is allowed)

insn_by-IsInsn : (code place : ℕ) (row : Option TableRow) (layout : Option Layout) → slice_get table place ≡ row → slice_get layouts place ≡ layout → OnSome IsInsn (insn_by code place row layout)
insn_by-IsInsn code place (Some row) (Some layout) r l = if_legal-IsInsn (insn_of code place row layout) (λ allowed. insn_of-IsInsn code place row layout r l allowed)
insn_by-IsInsn code place (Some row) None r l = tt
insn_by-IsInsn code place None (Some layout) r l = tt
insn_by-IsInsn code place None None r l = tt

insn_at-IsInsn : (code : ℕ) (place : Option ℕ) → OnSome IsInsn (insn_at code place)
insn_at-IsInsn code None = tt
insn_at-IsInsn code (Some place) = insn_by-IsInsn code place (slice_get table place) (slice_get layouts place) refl refl

-- what a word without a row is, is no instruction
without_row-OnInsn : (word : ℕ) → OnInsn IsInsn (without_row word)
without_row-OnInsn word = search rules

without_row_prefixed-OnInsn : (prefix suffix : ℕ) → OnInsn IsInsn (without_row_prefixed prefix suffix)
without_row_prefixed-OnInsn prefix suffix = search rules

otherwise-OnInsn : (word : ℕ) (suffix : Option ℕ) → OnInsn IsInsn (otherwise word suffix)
otherwise-OnInsn word None = without_row-OnInsn word
otherwise-OnInsn word (Some suffix) = without_row_prefixed-OnInsn word suffix

insn_or-OnInsn : (insn : Option Insn) (other : Decoded) → OnSome IsInsn insn → OnInsn IsInsn other → OnInsn IsInsn (insn_or insn other)
insn_or-OnInsn (Some insn) other is _ = is
insn_or-OnInsn None other _ is = is

-- what decoding gives is an instruction of the table
pub decode_of-IsInsn : (word : ℕ) (suffix : Option ℕ) → OnInsn IsInsn (decode_of word suffix)
unfolding decode_of
decode_of-IsInsn word suffix =
    insn_or-OnInsn (insn_at (code_of word suffix) (place_of word suffix)) (otherwise word suffix) (insn_at-IsInsn (code_of word suffix) (place_of word suffix)) (otherwise-OnInsn word suffix)

-- an instruction that a word is known to be is of the table
pub decode_of-Is : (word : ℕ) (suffix : Option ℕ) (insn : Insn) → decode_of word suffix ≡ Is insn → IsInsn insn
decode_of-Is word suffix insn is = let moved = subst (λ d. OnInsn IsInsn d) is (decode_of-IsInsn word suffix) in moved

-- what a word without a row is, is no instruction, by the test
without_row-is_insn : (word : ℕ) → is_insn (without_row word) ≡ false
without_row-is_insn word = search rules

without_row_prefixed-is_insn : (prefix suffix : ℕ) → is_insn (without_row_prefixed prefix suffix) ≡ false
without_row_prefixed-is_insn prefix suffix = search rules

otherwise-is_insn : (word : ℕ) (suffix : Option ℕ) → is_insn (otherwise word suffix) ≡ false
otherwise-is_insn word None = without_row-is_insn word
otherwise-is_insn word (Some suffix) = without_row_prefixed-is_insn word suffix

-- what a word is follows from the instruction that was found
pub found-Decodes : (word : ℕ) (suffix : Option ℕ) (there : Bool) (insn : Insn) → Finds there insn (found_of word suffix) → Decodes there insn (decode_of word suffix)
unfolding decode_of
found-Decodes word suffix true insn e = ap (λ (o : Option Insn). insn_or o (otherwise word suffix)) e
found-Decodes word suffix false insn e = ap (λ (o : Option Insn). is_insn (insn_or o (otherwise word suffix))) e ∙ otherwise-is_insn word suffix

-- an instruction that was found is of the table
pub found-IsInsn : (word : ℕ) (suffix : Option ℕ) (there : Bool) (insn : Insn) → Finds there insn (found_of word suffix) → there ≡ true → IsInsn insn
found-IsInsn word suffix true insn e is = subst (λ (d : Decoded). OnInsn IsInsn d) (found-Decodes word suffix true insn e) (decode_of-IsInsn word suffix)
found-IsInsn word suffix false insn e is = cc

-- a word that is no instruction is what the definition says otherwise
insn_or-other : (found : Option Insn) (other : Decoded) → is_insn (insn_or found other) ≡ false → other ≡ insn_or found other
insn_or-other (Some insn) other e = cc
insn_or-other None other e = refl

pub none-otherwise : (word : ℕ) (suffix : Option ℕ) → is_insn (decode_of word suffix) ≡ false → otherwise word suffix ≡ decode_of word suffix
unfolding decode_of
none-otherwise word suffix e = insn_or-other (found_of word suffix) (otherwise word suffix) e
