-- What a word that is an instruction has of its row.
use Rattle.std.proofs.Common.{rules, ◌≡◌, ℕ, ◌+◌, ◌*◌, ◌/◌, ◌%◌, ◌^◌, ◌<◌, Bool, true, false, cond, ◌++◌, slice_get, Option, Some, None, Ok, Err, bit_and, refl, sym, ap, ◌∙◌, subst, arith, lit≤}
use Rattle.std.specs.Prelude.{IfSome}
use Rattle.std.proofs.lemmas.Bool.{and_parts, eqb-true}
use Rattle.mw_prefix.specs.declared.wide.Wide.TheVariants.{Mls as MlsForm, Eight as EightForm, Nop as NopForm}
use Rattle.mw_prefix.specs.Wide.{split_of, is_mls, is_eight, is_nop, pcrel_of, disp_of}
use Rattle.mw_tables.specs.declared.row.PrefixKind.{PrefixKind}
use Rattle.mw_tables.specs.declared.row.PrefixKind.TheVariants.{Plain, Mls, Eight, Nop}
use Rattle.mw_tables.specs.declared.layout.Layout.{Layout}
use Rattle.mw_tables.specs.Row.{TableRow, prefix_mask, prefix_value}
use Rattle.mw_tables.specs.Rows.{table, layouts}
use Rattle.mw_tables.specs.Layouts.{fields_of, flags_of, all_fields, operands_in}
use Rattle.mw_tables.specs.Sound.{used_bits, fixed_mask, fixed_value, code_of}
use Rattle.mw_tables.specs.Matching.{kind_number, row_place}
use Rattle.mw_tables.proofs.FieldLaws.{operands_in-append}
use Rattle.mw_tables.proofs.OperandLaws.{code_of-operands_in, fixed-halves, row-sound, is_sound-parts}
use Rattle.mw_tables.proofs.Places.{row_place-MatchesAt, row-MatchesAt}
use Rattle.mw_decode.specs.declared.insn.Insn.{Insn}
use Rattle.mw_decode.specs.declared.insn.Code.{Code}
use Rattle.mw_decode.specs.declared.insn.Decoded.{Decoded}
use Rattle.mw_decode.specs.declared.insn.Decoded.TheVariants.{Insn as Is}
use Rattle.mw_decode.specs.Rules.{is_illegal_form}
use Rattle.mw_decode.specs.Unavailable.{without_row, without_row_prefixed}
use Rattle.mw_decode.specs.Decode.{OnInsn, place_of, place_behind, insn_of, insn_by, insn_at, insn_or, otherwise, decode_of}
use Rattle.mw_decode.specs.Encode.{all_operands, words_of, encode_of, number_of, HasNoReserved}
use Rattle.mw_decode.proofs.EncodeParts.{opening-prefix}
use Rattle.mw_decode.proofs.EncodeRows.{encode_of-at, forms-read}

-- a word that has no row is no instruction
without_row-none : (word : ℕ) → OnInsn (λ insn. ⊥) (without_row word)
without_row-none word = search rules

without_row_prefixed-none : (prefix suffix : ℕ) → OnInsn (λ insn. ⊥) (without_row_prefixed prefix suffix)
without_row_prefixed-none prefix suffix = search rules

otherwise-none : (word : ℕ) (suffix : Option ℕ) → OnInsn (λ insn. ⊥) (otherwise word suffix)
otherwise-none word None = without_row-none word
otherwise-none word (Some suffix) = without_row_prefixed-none word suffix

insn_or-found : (found : Option Insn) (other : Decoded) (insn : Insn) → OnInsn (λ i. ⊥) other → insn_or found other ≡ Is insn → found ≡ Some insn
insn_or-found (Some x) other insn none e = let same : x ≡ insn = cc in ap Some same
insn_or-found None other insn none e = let no_insn = subst (λ d. OnInsn (λ i. ⊥) d) e none in absurd no_insn

-- a word that is an instruction has its code at a place of the table
pub decode_of-found : (word : ℕ) (suffix : Option ℕ) (insn : Insn) → decode_of word suffix ≡ Is insn → insn_at (number_of (record { word = word; suffix = suffix })) (place_of word suffix) ≡ Some insn
unfolding decode_of
decode_of-found word suffix insn e = insn_or-found (insn_at (number_of (record { word = word; suffix = suffix })) (place_of word suffix)) (otherwise word suffix) insn (otherwise-none word suffix) e

-- the instruction of a code, at its place
pub record Stands (code : ℕ) (place : ℕ) (insn : Insn) : Type 0 where
  pub row : TableRow
  pub layout : Layout
  pub row_there : slice_get table place ≡ Some row
  pub layout_there : slice_get layouts place ≡ Some layout
  pub same : insn_of code place row layout ≡ insn

if_legal-same : (illegal : Bool) (made insn : Insn) → cond illegal None (Some made) ≡ Some insn → made ≡ insn
if_legal-same true made insn e = cc
if_legal-same false made insn e = cc

insn_by-Stands : (code place : ℕ) (row : Option TableRow) (layout : Option Layout) (insn : Insn) → slice_get table place ≡ row → slice_get layouts place ≡ layout → insn_by code place row layout ≡ Some insn → Stands code place insn
insn_by-Stands code place None layout insn r l e = cc
insn_by-Stands code place (Some row) None insn r l e = cc
insn_by-Stands code place (Some row) (Some layout) insn r l e = record {
  row = row;
  layout = layout;
  row_there = r;
  layout_there = l;
  same = if_legal-same (is_illegal_form place (operands_in code (fields_of layout))) (insn_of code place row layout) insn e;
}

-- an instruction that a code is stands at a place
pub insn_at-Stands : (code : ℕ) (found : Option ℕ) (insn : Insn) → insn_at code found ≡ Some insn → (place : ℕ) × (found ≡ Some place) × Stands code place insn
insn_at-Stands code None insn e = cc
insn_at-Stands code (Some place) insn e = (place, refl, insn_by-Stands code place (slice_get table place) (slice_get layouts place) insn refl refl e)

kind_same : (a b : PrefixKind) → kind_number a ≡ kind_number b → a ≡ b
kind_same Plain Plain e = refl
kind_same Plain Mls e = absurd (omega arith)
kind_same Plain Eight e = absurd (omega arith)
kind_same Plain Nop e = absurd (omega arith)
kind_same Mls Plain e = absurd (omega arith)
kind_same Mls Mls e = refl
kind_same Mls Eight e = absurd (omega arith)
kind_same Mls Nop e = absurd (omega arith)
kind_same Eight Plain e = absurd (omega arith)
kind_same Eight Mls e = absurd (omega arith)
kind_same Eight Eight e = refl
kind_same Eight Nop e = absurd (omega arith)
kind_same Nop Plain e = absurd (omega arith)
kind_same Nop Mls e = absurd (omega arith)
kind_same Nop Eight e = absurd (omega arith)
kind_same Nop Nop e = refl

-- the row at a word's place has the kind, and the word has its bits
row_place-bits : (kind : PrefixKind) (word place : ℕ) (row : TableRow) → row_place kind word ≡ Some place → slice_get table place ≡ Some row → (row.prefix ≡ kind) × (bit_and word row.mask ≡ row.value)
row_place-bits kind word place row found there =
    let tested = and_parts _ _ (row-MatchesAt kind word place row there (row_place-MatchesAt kind word place found)) in
    (kind_same row.prefix kind (eqb-true _ _ tested.0), eqb-true _ _ tested.1)

-- the kind of a prefix, its bits, and the place of its suffix
record Behind (prefix suffix place : ℕ) : Type 0 where
  kind : PrefixKind
  prefixed : (code : ℕ) → words_of kind code ≡ record { word = code / 2 ^ 32; suffix = Some (code % 2 ^ 32) }
  bits : bit_and prefix (prefix_mask kind) ≡ prefix_value kind
  found : row_place kind suffix ≡ Some place

behind_nop : (prefix suffix place : ℕ) (nop : Bool) → is_nop prefix ≡ nop → place_behind (cond nop (Ok (NopForm suffix)) (Err (record {}))) suffix ≡ Some place → Behind prefix suffix place
behind_nop prefix suffix place true nop e = record {
  kind = Nop;
  prefixed = λ code. refl;
  bits = ap (λ n. bit_and n (prefix_mask Nop)) (eqb-true _ _ nop);
  found = e;
}
behind_nop prefix suffix place false nop e = cc

behind_eight : (prefix suffix place : ℕ) (eight : Bool) → is_eight prefix ≡ eight → place_behind (cond eight (Ok (EightForm (pcrel_of prefix) (disp_of prefix suffix) suffix)) (cond (is_nop prefix) (Ok (NopForm suffix)) (Err (record {})))) suffix ≡ Some place → Behind prefix suffix place
behind_eight prefix suffix place true eight e = record {
  kind = Eight;
  prefixed = λ code. refl;
  bits = opening-prefix prefix 8 (lit≤ tt) (eqb-true _ _ eight);
  found = e;
}
behind_eight prefix suffix place false eight e = behind_nop prefix suffix place (is_nop prefix) refl e

behind_mls : (prefix suffix place : ℕ) (mls : Bool) → is_mls prefix ≡ mls → place_behind (cond mls (Ok (MlsForm (pcrel_of prefix) (disp_of prefix suffix) suffix)) (cond (is_eight prefix) (Ok (EightForm (pcrel_of prefix) (disp_of prefix suffix) suffix)) (cond (is_nop prefix) (Ok (NopForm suffix)) (Err (record {}))))) suffix ≡ Some place → Behind prefix suffix place
behind_mls prefix suffix place true mls e = record {
  kind = Mls;
  prefixed = λ code. refl;
  bits = opening-prefix prefix 12 (lit≤ tt) (eqb-true _ _ mls);
  found = e;
}
behind_mls prefix suffix place false mls e = behind_eight prefix suffix place (is_eight prefix) refl e

place_behind-Behind : (prefix suffix place : ℕ) → place_behind (split_of prefix suffix) suffix ≡ Some place → Behind prefix suffix place
place_behind-Behind prefix suffix place e = behind_mls prefix suffix place (is_mls prefix) refl e

-- a word, or a prefix and a suffix, has the fixed bits of its row, and its kind
record HasRow (word : ℕ) (suffix : Option ℕ) (row : TableRow) : Type 0 where
  bits : bit_and (number_of (record { word = word; suffix = suffix })) (fixed_mask row) ≡ fixed_value row
  words : words_of row.prefix (number_of (record { word = word; suffix = suffix })) ≡ record { word = word; suffix = suffix }

plain_bits : (word : ℕ) (row : TableRow) → row.prefix ≡ Plain → bit_and word row.mask ≡ row.value → bit_and word (fixed_mask row) ≡ fixed_value row
plain_bits word row is bits =
    let mask : 0 * 2 ^ 32 + row.mask ≡ row.mask = omega arith in
    let value : 0 * 2 ^ 32 + row.value ≡ row.value = omega arith in
    ap (λ kind. bit_and word (prefix_mask kind * 2 ^ 32 + row.mask)) is
    ∙ ap (bit_and word) mask
    ∙ bits
    ∙ sym value
    ∙ ap (λ kind. prefix_value kind * 2 ^ 32 + row.value) (sym is)

cut_pair : (word suffix : ℕ) → suffix < 2 ^ 32 → ◌≡◌ {A = Code} (record { word = (word * 2 ^ 32 + suffix) / 2 ^ 32; suffix = Some ((word * 2 ^ 32 + suffix) % 2 ^ 32) }) (record { word = word; suffix = Some suffix })
cut_pair word suffix below =
    let high : (word * 2 ^ 32 + suffix) / 2 ^ 32 ≡ word = omega arith in
    let low : (word * 2 ^ 32 + suffix) % 2 ^ 32 ≡ suffix = omega arith in
    rw (high, low)

place_of-HasRow : (word : ℕ) (suffix : Option ℕ) (place : ℕ) (row : TableRow) → IfSome suffix (λ n. n < 2 ^ 32) → row.mask < 2 ^ 32 → place_of word suffix ≡ Some place → slice_get table place ≡ Some row → HasRow word suffix row
place_of-HasRow word None place row below narrow found there =
    let known = row_place-bits Plain word place row found there in record {
      bits = plain_bits word row known.0 known.1;
      words = ap (λ kind. words_of kind word) known.0;
    }
place_of-HasRow word (Some suffix) place row below narrow found there =
    let behind = place_behind-Behind word suffix place found in
    let known = row_place-bits behind.kind suffix place row behind.found there in record {
      bits = fixed-halves row word suffix narrow below (subst (λ kind. bit_and word (prefix_mask kind) ≡ prefix_value kind) (sym known.0) behind.bits) known.1;
      words = ap (λ kind. words_of kind (word * 2 ^ 32 + suffix)) known.0 ∙ behind.prefixed (word * 2 ^ 32 + suffix) ∙ cut_pair word suffix below;
    }

-- the operands and forms of a code's instruction are those that the code has
all_operands-read : (code place : ℕ) (row : TableRow) (layout : Layout) → all_operands (insn_of code place row layout) ≡ operands_in code (all_fields row layout)
all_operands-read code place row layout =
    ap (λ zs. operands_in code (fields_of layout) ++ zs) (sym (forms-read code row)) ∙ sym (operands_in-append code (fields_of layout) (flags_of row))

clear_at : (insn : Insn) (row : TableRow) (layout : Layout) (code : Code) → slice_get table insn.row ≡ Some row → slice_get layouts insn.row ≡ Some layout → HasNoReserved insn code → bit_and (number_of code) (used_bits row layout) ≡ number_of code
clear_at insn row layout code r l clear = let one = rw r at clear in let both = rw l at one in both

-- encoding the instruction of a word, or of a prefix and a suffix, gives them again, where their reserved bits are 0
pub encoded_again : (word : ℕ) (suffix : Option ℕ) (place : ℕ) (row : TableRow) (layout : Layout) → IfSome suffix (λ n. n < 2 ^ 32) → place_of word suffix ≡ Some place → slice_get table place ≡ Some row → slice_get layouts place ≡ Some layout → HasNoReserved (insn_of (number_of (record { word = word; suffix = suffix })) place row layout) (record { word = word; suffix = suffix }) → encode_of (insn_of (number_of (record { word = word; suffix = suffix })) place row layout) ≡ record { word = word; suffix = suffix }
encoded_again word suffix place row layout below found r l clear =
    let code = number_of (record { word = word; suffix = suffix }) in
    let insn = insn_of code place row layout in
    let sound = row-sound place row layout r l in
    let known = place_of-HasRow word suffix place row below (is_sound-parts row layout sound).mask found r in
    encode_of-at insn row layout r l
    ∙ ap (λ zs. words_of row.prefix (code_of row layout zs)) (all_operands-read code place row layout)
    ∙ ap (words_of row.prefix) (code_of-operands_in row layout code sound known.bits ∙ clear_at insn row layout (record { word = word; suffix = suffix }) r l clear)
    ∙ known.words
