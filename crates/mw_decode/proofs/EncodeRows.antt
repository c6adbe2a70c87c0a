-- The code of an instruction, at its row and layout.
use Rattle.std.proofs.Common.{◌≡◌, ℕ, ◌/◌, ◌%◌, ◌^◌, ◌<◌, Bool, true, false, ◌&&◌, List, [], ◌∷◌, length, slice_get, Option, Some, None, IsSomeAnd, ℤ, bit_and, bit_or, refl, sym, ap, ◌∙◌, arith, mod-eq_of_lt}
use Rattle.std.specs.Prelude.{is_some}
use Rattle.std.proofs.lemmas.Bool.{and_from, eq-eqb, cond-false}
use Rattle.std.proofs.lemmas.List.{length-map}
use Rattle.mw_tables.specs.declared.row.PrefixKind.{PrefixKind}
use Rattle.mw_tables.specs.declared.row.PrefixKind.TheVariants.{Plain, Mls, Eight, Nop}
use Rattle.mw_tables.specs.declared.layout.Field.{Field}
use Rattle.mw_tables.specs.declared.layout.Layout.{Layout}
use Rattle.mw_tables.specs.Row.{TableRow, prefix_mask, prefix_value}
use Rattle.mw_tables.specs.Rows.{table, layouts}
use Rattle.mw_tables.specs.Layouts.{fields_of, flags_of, all_fields, operand_in, operands_in, code_with_all, HasOperands}
use Rattle.mw_tables.specs.Sound.{used_bits, fixed_value, code_of, bits_of_kind}
use Rattle.mw_tables.specs.Matching.{kind_number, matches}
use Rattle.mw_tables.proofs.FieldLaws.{HasOperands-append, HasOperands-length, operands_in-append}
use Rattle.mw_tables.proofs.OperandLaws.{operands_in-code_of, code_of-suffix, code_of-prefix, code_of-lt, row-sound}
use Rattle.mw_tables.proofs.Places.{row_place-from_row}
use Rattle.mw_decode.specs.declared.insn.Insn.{Insn}
use Rattle.mw_decode.specs.declared.insn.Code.{Code}
use Rattle.mw_decode.specs.declared.insn.Decoded.TheVariants.{Insn as Is}
use Rattle.mw_decode.specs.Rules.{is_illegal_form}
use Rattle.mw_decode.specs.Decode.{IsInsn, HasForms, is_prefix, is_set, place_of, insn_of, if_legal, insn_at, insn_or, otherwise, decode_of}
use Rattle.mw_decode.specs.Encode.{flag_operand, flag_operands, all_operands, words_of, encode_of, number_of, HasNoReserved}
use Rattle.mw_decode.proofs.Ranges.{IsInsn-forms, IsInsn-operands}
use Rattle.mw_decode.proofs.EncodeParts.{form-read, form-InRange, form-same, append-parts, code_with_all-append, prefix-IsPrefixOf, word-no_prefix}

-- an instruction's row and layout, and what is known of them
pub record IsAt (insn : Insn) (row : TableRow) (layout : Layout) : Type 0 where
  pub row_there : slice_get table insn.row ≡ Some row
  pub layout_there : slice_get layouts insn.row ≡ Some layout
  pub forms : HasForms row insn
  pub operands : HasOperands (fields_of layout) insn.ops.items

at_both : (insn : Insn) (row : Option TableRow) (layout : Option Layout) → slice_get table insn.row ≡ row → slice_get layouts insn.row ≡ layout → IsSomeAnd row (λ r. HasForms r insn) → IsSomeAnd layout (λ l. HasOperands (fields_of l) insn.ops.items) → (r : TableRow) × (l : Layout) × IsAt insn r l
at_both insn None layout r l forms operands = absurd forms
at_both insn (Some row) None r l forms operands = absurd operands
at_both insn (Some row) (Some layout) r l forms operands = (row, layout, record { row_there = r; layout_there = l; forms = forms; operands = operands })

-- an instruction of the table has a row and a layout
pub IsInsn-IsAt : (insn : Insn) → IsInsn insn → (row : TableRow) × (layout : Layout) × IsAt insn row layout
IsInsn-IsAt insn is = at_both insn (slice_get table insn.row) (slice_get layouts insn.row) refl refl is.forms is.operands

-- an instruction's words are those of its row's code
pub encode_of-at : (insn : Insn) (row : TableRow) (layout : Layout) → slice_get table insn.row ≡ Some row → slice_get layouts insn.row ≡ Some layout → encode_of insn ≡ words_of row.prefix (code_of row layout (all_operands insn))
unfolding encode_of
encode_of-at insn row layout r l = rw (r, l)

-- an instruction's operands and forms are in range
pub all_operands-HasOperands : (insn : Insn) (row : TableRow) (layout : Layout) → IsAt insn row layout → HasOperands (all_fields row layout) (all_operands insn)
all_operands-HasOperands insn row layout at =
    HasOperands-append (fields_of layout) (flags_of row) insn.ops.items (flag_operands insn) at.operands
    (form-InRange row.oe insn.oe 10 at.forms.0, (form-InRange row.rc insn.rc 0 at.forms.1, (form-InRange row.absolute insn.aa 1 at.forms.2, (form-InRange row.links insn.lk 0 at.forms.3, tt))))

-- the forms that a code has, as operands
abbrev pub forms_in : ℕ → TableRow → List ℤ
forms_in code row = flag_operand (row.oe && is_set code 21) ∷ flag_operand (row.rc && is_set code 31) ∷ flag_operand (row.absolute && is_set code 30) ∷ flag_operand (row.links && is_set code 31) ∷ []

same_four : (a b c d e f g h : ℤ) → a ≡ e → b ≡ f → c ≡ g → d ≡ h → ◌≡◌ {A = List ℤ} (a ∷ b ∷ c ∷ d ∷ []) (e ∷ f ∷ g ∷ h ∷ [])
same_four a b c d e f g h p q r s = cc

-- the forms that a code has, read as operands
pub forms-read : (code : ℕ) (row : TableRow) → operands_in code (flags_of row) ≡ forms_in code row
forms-read code row = same_four _ _ _ _ _ _ _ _ (form-read code row.oe 10) (form-read code row.rc 0) (form-read code row.absolute 1) (form-read code row.links 0)

same_insn : (insn : Insn) (items : List ℤ) (oe rc aa lk : Bool) → items ≡ insn.ops.items → oe ≡ insn.oe → rc ≡ insn.rc → aa ≡ insn.aa → lk ≡ insn.lk → insn ≡ record { row = insn.row; ops = record { items = items }; oe = oe; rc = rc; aa = aa; lk = lk }
same_insn insn items oe rc aa lk p q r s t = rw (p, q, r, s, t)

four_parts : (a b c d e f g h : Bool) → ◌≡◌ {A = List ℤ} (flag_operand a ∷ flag_operand b ∷ flag_operand c ∷ flag_operand d ∷ []) (flag_operand e ∷ flag_operand f ∷ flag_operand g ∷ flag_operand h ∷ []) → (a ≡ e) × (b ≡ f) × (c ≡ g) × (d ≡ h)
four_parts a b c d e f g h same =
    let first : flag_operand a ≡ flag_operand e = cc in
    let second : flag_operand b ≡ flag_operand f = cc in
    let third : flag_operand c ≡ flag_operand g = cc in
    let fourth : flag_operand d ≡ flag_operand h = cc in
    (form-same a e first, form-same b f second, form-same c g third, form-same d h fourth)

-- a code that has an instruction's operands and forms is that instruction
insn_of-same : (insn : Insn) (row : TableRow) (layout : Layout) (code : ℕ) → HasOperands (fields_of layout) insn.ops.items → operands_in code (all_fields row layout) ≡ all_operands insn → insn_of code insn.row row layout ≡ insn
insn_of-same insn row layout code has is =
    let count : length (operands_in code (fields_of layout)) ≡ length insn.ops.items =
    length-map (fields_of layout) (operand_in code) ∙ sym (HasOperands-length (fields_of layout) insn.ops.items has) in
    let parts = append-parts (operands_in code (fields_of layout)) insn.ops.items (operands_in code (flags_of row)) (flag_operands insn) count (sym (operands_in-append code (fields_of layout) (flags_of row)) ∙ is) in
    let forms = four_parts _ _ _ _ _ _ _ _ (sym (forms-read code row) ∙ parts.1) in
    sym (same_insn insn _ _ _ _ _ parts.0 forms.0 forms.1 forms.2 forms.3)

matches_from : (kind : PrefixKind) (word : ℕ) (row : TableRow) → row.prefix ≡ kind → bit_and word row.mask ≡ row.value → matches kind word row ≡ true
matches_from kind word row is bits = and_from _ _ (eq-eqb _ _ (ap kind_number is)) (eq-eqb _ _ bits)

-- the place of a code's words, by the kind of the row
place_of-code : (kind : PrefixKind) (code place : ℕ) (row : TableRow) → slice_get table place ≡ Some row → row.prefix ≡ kind → code < 2 ^ bits_of_kind kind → bit_and (code % 2 ^ 32) row.mask ≡ row.value → bit_and (code / 2 ^ 32) (prefix_mask kind) ≡ prefix_value kind → place_of (words_of kind code).word (words_of kind code).suffix ≡ Some place
place_of-code Plain code place row there is below bits prefix = row_place-from_row Plain code place row there (matches_from Plain code row is (ap (λ n. bit_and n row.mask) (sym (mod-eq_of_lt below)) ∙ bits))
place_of-code Mls code place row there is below bits prefix =
    let known = prefix-IsPrefixOf Mls (code / 2 ^ 32) (omega arith) prefix in
    known.leads (code % 2 ^ 32) ∙ row_place-from_row Mls (code % 2 ^ 32) place row there (matches_from Mls (code % 2 ^ 32) row is bits)
place_of-code Eight code place row there is below bits prefix =
    let known = prefix-IsPrefixOf Eight (code / 2 ^ 32) (omega arith) prefix in
    known.leads (code % 2 ^ 32) ∙ row_place-from_row Eight (code % 2 ^ 32) place row there (matches_from Eight (code % 2 ^ 32) row is bits)
place_of-code Nop code place row there is below bits prefix =
    let known = prefix-IsPrefixOf Nop (code / 2 ^ 32) (omega arith) prefix in
    known.leads (code % 2 ^ 32) ∙ row_place-from_row Nop (code % 2 ^ 32) place row there (matches_from Nop (code % 2 ^ 32) row is bits)

-- the place of an instruction's words is its row
pub encode_of-place : (insn : Insn) (row : TableRow) (layout : Layout) → IsAt insn row layout → place_of (words_of row.prefix (code_of row layout (all_operands insn))).word (words_of row.prefix (code_of row layout (all_operands insn))).suffix ≡ Some insn.row
encode_of-place insn row layout at =
    let zs = all_operands insn in
    let sound = row-sound insn.row row layout at.row_there at.layout_there in
    place_of-code row.prefix (code_of row layout zs) insn.row row at.row_there refl (code_of-lt row layout zs sound) (code_of-suffix row layout zs sound) (code_of-prefix row layout zs sound)

insn_at-there : (code place : ℕ) (row : TableRow) (layout : Layout) → slice_get table place ≡ Some row → slice_get layouts place ≡ Some layout → insn_at code (Some place) ≡ if_legal (insn_of code place row layout)
insn_at-there code place row layout r l = rw (r, l)

-- an instruction's code is the instruction
pub insn_at-code : (insn : Insn) (row : TableRow) (layout : Layout) → IsAt insn row layout → is_illegal_form insn.row insn.ops.items ≡ false → insn_at (code_of row layout (all_operands insn)) (Some insn.row) ≡ Some insn
insn_at-code insn row layout at legal =
    let zs = all_operands insn in
    let code = code_of row layout zs in
    let sound = row-sound insn.row row layout at.row_there at.layout_there in
    insn_at-there code insn.row row layout at.row_there at.layout_there
    ∙ ap if_legal (insn_of-same insn row layout code at.operands (operands_in-code_of row layout zs sound (all_operands-HasOperands insn row layout at)))
    ∙ cond-false (is_illegal_form insn.row insn.ops.items) _ _ legal

-- a word, or a prefix and a suffix, whose code at its place is an instruction is that instruction
pub decode_of-from : (word : ℕ) (suffix : Option ℕ) (code place : ℕ) (insn : Insn) → number_of (record { word = word; suffix = suffix }) ≡ code → place_of word suffix ≡ Some place → insn_at code (Some place) ≡ Some insn → decode_of word suffix ≡ Is insn
unfolding decode_of
decode_of-from word suffix code place insn whole there is =
    ap (λ n. insn_or (insn_at n (place_of word suffix)) (otherwise word suffix)) whole
    ∙ ap (λ p. insn_or (insn_at code p) (otherwise word suffix)) there
    ∙ ap (λ i. insn_or i (otherwise word suffix)) is

-- a code without bits beside those that its row and layout use has none of its reserved ones
pub no_reserved-at : (insn : Insn) (row : TableRow) (layout : Layout) (code : Code) → slice_get table insn.row ≡ Some row → slice_get layouts insn.row ≡ Some layout → bit_and (number_of code) (used_bits row layout) ≡ number_of code → HasNoReserved insn code
no_reserved-at insn row layout code r l clear = rw (r, l) clear

-- what is known of an instruction, at its row and layout
pub IsInsn-at : (insn : Insn) (row : TableRow) (layout : Layout) → IsInsn insn → slice_get table insn.row ≡ Some row → slice_get layouts insn.row ≡ Some layout → IsAt insn row layout
IsInsn-at insn row layout is r l = record {
  row_there = r;
  layout_there = l;
  forms = IsInsn-forms insn insn.row row is refl r;
  operands = IsInsn-operands insn insn.row layout is refl l;
}

-- a code that is written in its parts
pub code_of-written : (insn : Insn) (row : TableRow) (layout : Layout) (fs gs : List Field) (xs ys : List ℤ) (fixed operands forms : ℕ) → IsAt insn row layout → fixed ≡ fixed_value row → operands ≡ code_with_all fs xs → forms ≡ code_with_all gs ys → fs ≡ fields_of layout → gs ≡ flags_of row → xs ≡ insn.ops.items → ys ≡ flag_operands insn → bit_or fixed (bit_or operands forms) ≡ code_of row layout (all_operands insn)
code_of-written insn row layout fs gs xs ys fixed operands forms at p q r fields flags items chosen =
    let first : operands ≡ code_with_all (fields_of layout) insn.ops.items =
    q ∙ ap (λ (ks : List Field). code_with_all ks xs) fields ∙ ap (code_with_all (fields_of layout)) items in
    let second : forms ≡ code_with_all (flags_of row) (flag_operands insn) =
    r ∙ ap (λ (ks : List Field). code_with_all ks ys) flags ∙ ap (code_with_all (flags_of row)) chosen in
    ap (λ n. bit_or n (bit_or operands forms)) p
    ∙ ap (λ n. bit_or (fixed_value row) (bit_or n forms)) first
    ∙ ap (λ n. bit_or (fixed_value row) (bit_or (code_with_all (fields_of layout) insn.ops.items) n)) second
    ∙ ap (bit_or (fixed_value row)) (sym (code_with_all-append (fields_of layout) (flags_of row) insn.ops.items (flag_operands insn) (HasOperands-length (fields_of layout) insn.ops.items at.operands)))

-- an instruction's code has a word's bits, or those of a prefix and a suffix
pub code_of-room : (insn : Insn) (row : TableRow) (layout : Layout) → IsAt insn row layout → code_of row layout (all_operands insn) < 2 ^ bits_of_kind row.prefix
code_of-room insn row layout at = code_of-lt row layout (all_operands insn) (row-sound insn.row row layout at.row_there at.layout_there)

-- where a code has a suffix, its word is a prefix
pub prefix_of-code : (kind : PrefixKind) (code place : ℕ) (row : TableRow) → slice_get table place ≡ Some row → row.prefix ≡ kind → code < 2 ^ bits_of_kind kind → bit_and (code % 2 ^ 32) row.mask ≡ row.value → bit_and (code / 2 ^ 32) (prefix_mask kind) ≡ prefix_value kind → is_some (words_of kind code).suffix ≡ is_prefix (words_of kind code).word
prefix_of-code Plain code place row there is below bits prefix = sym (word-no_prefix code place row there is (ap (λ n. bit_and n row.mask) (sym (mod-eq_of_lt below)) ∙ bits))
prefix_of-code Mls code place row there is below bits prefix = let known = prefix-IsPrefixOf Mls (code / 2 ^ 32) (omega arith) prefix in sym known.opens
prefix_of-code Eight code place row there is below bits prefix = let known = prefix-IsPrefixOf Eight (code / 2 ^ 32) (omega arith) prefix in sym known.opens
prefix_of-code Nop code place row there is below bits prefix = let known = prefix-IsPrefixOf Nop (code / 2 ^ 32) (omega arith) prefix in sym known.opens
