-- What the row of a mnemonic has: its forms, its layout, and as many operands as are written.
use Rattle.std.proofs.Common.{◌≡◌, ℕ, ◌<◌, length, slice_get, subst, Bool, true, false, true≢false, not, ◌&&◌, ◌||◌, List, [], ◌∷◌, Option, Some, None, map, refl, sym, ap, ◌∙◌, arith}
use Rattle.std.specs.Prelude.{option_map, IsSomeAnd, ℤ}
use Rattle.std.specs.Option.{option_map_or}
use Rattle.std.proofs.lemmas.Bool.{and_parts}
use Rattle.std.proofs.lemmas.Option.{slice_get_within, same_Some}
use Rattle.mw_tables.specs.declared.layout.Layout.{Layout}
use Rattle.mw_tables.specs.declared.layout.Layout.TheVariants.{DRtRaSi, DRaRsUi, XlBoBiBh, XRaRsRb, XL}
use Rattle.mw_tables.specs.Row.{TableRow}
use Rattle.mw_tables.specs.Layouts.{fields_of, HasOperands}
use Rattle.mw_tables.specs.Rows.{lines, table, layouts, row_count}
use Rattle.mw_decode.specs.Decode.{HasForms}
use Rattle.mw_decode.proofs.Ranges.{table_count}
use Rattle.mw_syntax.specs.declared.mnemonic.Mnemonic.{Mnemonic}
use Rattle.mw_syntax.specs.declared.mnemonic.Pattern.{Pattern}
use Rattle.mw_syntax.specs.declared.mnemonic.Pattern.TheVariants.{Row, Li, Lis, Mr, Nop, Always, Light, Tables}
use Rattle.mw_syntax.specs.Items.{kinds_of, pattern_items}
use Rattle.mw_syntax.specs.Lines.{shape_at}
use Rattle.mw_syntax.specs.Mnemonics.{Spelling, spellings, mnemonic_of}
use Rattle.mw_asm.specs.Values.{written_fields, filled, insn_of, fields_at}
use Rattle.mw_syntax.proofs.MnemonicLemmas.{same_at, mnemonic_of-IsSpelling}

-- the first, where it is chosen, exists
abbrev exists_if : Bool → Bool → Bool
exists_if chosen exists = not chosen || exists

exists_if-true : (chosen exists : Bool) → exists_if chosen exists ≡ true → chosen ≡ true → exists ≡ true
exists_if-true true exists e p = e
exists_if-true false true e p = refl
exists_if-true false false e p = p

-- each form that a mnemonic chooses exists in its row, which has a layout
abbrev has_forms : Mnemonic → Option TableRow → Option Layout → Bool
has_forms m (Some row) (Some layout) = exists_if m.oe row.oe && (exists_if m.rc row.rc && (exists_if m.aa row.absolute && exists_if m.lk row.links))
has_forms m (Some row) None = false
has_forms m None layout = false

-- the layout of the row that a pattern stands for
abbrev pub layout_for : Pattern → Layout → Layout
layout_for Row layout = layout
layout_for Li layout = DRtRaSi
layout_for Lis layout = DRtRaSi
layout_for Mr layout = XRaRsRb
layout_for Nop layout = DRaRsUi
layout_for Always layout = XlBoBiBh
layout_for Light layout = XL
layout_for Tables layout = XL

spellings_formed : map (λ (s : Spelling). has_forms s.mnemonic (slice_get table s.mnemonic.row) (slice_get layouts s.mnemonic.row)) spellings ≡ map (λ (s : Spelling). true) spellings
unfolding spellings table layouts lines
spellings_formed = refl

spellings_laid : map (λ (s : Spelling). slice_get layouts s.mnemonic.row) spellings ≡ map (λ (s : Spelling). option_map (layout_for s.mnemonic.pattern) (slice_get layouts s.mnemonic.row)) spellings
unfolding spellings table layouts lines
spellings_laid = refl

-- how many operands are written for a mnemonic, and for how many fields
abbrev pub written_count : Mnemonic → ℕ
written_count m = length (kinds_of (pattern_items m.pattern (shape_at m.row)))

abbrev pub fields_count : Mnemonic → ℕ
fields_count m = length (written_fields m.pattern (fields_at m.row))

spellings_counted : map (λ (s : Spelling). written_count s.mnemonic) spellings ≡ map (λ (s : Spelling). fields_count s.mnemonic) spellings
unfolding spellings table layouts lines
spellings_counted = refl

-- what the row of a mnemonic has
pub record MeansRow (mnemonic : Mnemonic) : Type 0 where
  pub row : TableRow
  pub layout : Layout
  pub there : slice_get table mnemonic.row ≡ Some row
  pub laid : slice_get layouts mnemonic.row ≡ Some layout
  pub below : mnemonic.row < row_count
  pub forms : (operands : List ℤ) → HasForms row (insn_of mnemonic operands)
  pub meant : layout ≡ layout_for mnemonic.pattern layout
  pub count : written_count mnemonic ≡ fields_count mnemonic

means_by : (m : Mnemonic) (row : Option TableRow) (layout : Option Layout) → slice_get table m.row ≡ row → slice_get layouts m.row ≡ layout → has_forms m row layout ≡ true → layout ≡ option_map (layout_for m.pattern) layout → written_count m ≡ fields_count m → MeansRow m
means_by m None layout there laid formed meant count = absurd (true≢false (sym formed))
means_by m (Some row) None there laid formed meant count = absurd (true≢false (sym formed))
means_by m (Some row) (Some layout) there laid formed meant count =
    let within = slice_get_within table m.row row there in
    let first = and_parts _ _ formed in
    let second = and_parts _ _ first.1 in
    let third = and_parts _ _ second.1 in
    record {
      row = row;
      layout = layout;
      there = there;
      laid = laid;
      below = omega (arith, table_count);
      forms = λ operands. (exists_if-true m.oe row.oe first.0, exists_if-true m.rc row.rc second.0, exists_if-true m.aa row.absolute third.0, exists_if-true m.lk row.links third.1);
      meant = same_Some _ _ meant;
      count = count;
    }

spelling-MeansRow : (place : ℕ) (s : Spelling) → slice_get spellings place ≡ Some s → MeansRow s.mnemonic
spelling-MeansRow place s there =
    means_by s.mnemonic (slice_get table s.mnemonic.row) (slice_get layouts s.mnemonic.row) refl refl
    (same_at (λ (s : Spelling). has_forms s.mnemonic (slice_get table s.mnemonic.row) (slice_get layouts s.mnemonic.row)) (λ (s : Spelling). true) spellings spellings_formed place s there)
    (same_at (λ (s : Spelling). slice_get layouts s.mnemonic.row) (λ (s : Spelling). option_map (layout_for s.mnemonic.pattern) (slice_get layouts s.mnemonic.row)) spellings spellings_laid place s there)
    (same_at (λ (s : Spelling). written_count s.mnemonic) (λ (s : Spelling). fields_count s.mnemonic) spellings spellings_counted place s there)

-- a name that is a mnemonic means a row
pub mnemonic_of-MeansRow : (name : List ℕ) (mnemonic : Mnemonic) → mnemonic_of name ≡ Some mnemonic → MeansRow mnemonic
mnemonic_of-MeansRow name mnemonic e =
    let is = mnemonic_of-IsSpelling name mnemonic e in
    subst MeansRow is.means (spelling-MeansRow is.place is.spelling is.there)

-- the forms that a mnemonic chooses exist in its row, whatever the operands
pub MeansRow-forms : (mnemonic : Mnemonic) (operands : List ℤ) → MeansRow mnemonic → IsSomeAnd (slice_get table mnemonic.row) (λ row. HasForms row (insn_of mnemonic operands))
MeansRow-forms mnemonic operands means = subst (λ o. IsSomeAnd o (λ row. HasForms row (insn_of mnemonic operands))) (sym means.there) (means.forms operands)

-- a pattern's constants fit the row's fields, and the operands that are written fill the other fields
filled_operands : (pattern : Pattern) (layout : Layout) (operands : List ℤ) → HasOperands (written_fields pattern (fields_of (layout_for pattern layout))) operands → HasOperands (fields_of (layout_for pattern layout)) (filled pattern operands)
filled_operands Row layout zs has = has
filled_operands Li layout [] has = absurd has
filled_operands Li layout (z ∷ []) has = absurd has.1
filled_operands Li layout (z ∷ y ∷ []) has = (has.0, ((0, omega arith, refl), (has.1.0, tt)))
filled_operands Li layout (z ∷ y ∷ x ∷ zs) has = absurd has.1.1
filled_operands Lis layout [] has = absurd has
filled_operands Lis layout (z ∷ []) has = absurd has.1
filled_operands Lis layout (z ∷ y ∷ []) has = (has.0, ((0, omega arith, refl), (has.1.0, tt)))
filled_operands Lis layout (z ∷ y ∷ x ∷ zs) has = absurd has.1.1
filled_operands Mr layout [] has = absurd has
filled_operands Mr layout (z ∷ []) has = absurd has.1
filled_operands Mr layout (z ∷ y ∷ []) has = (has.0, (has.1.0, (has.1.0, tt)))
filled_operands Mr layout (z ∷ y ∷ x ∷ zs) has = absurd has.1.1
filled_operands Nop layout zs has = ((0, omega arith, refl), ((0, omega arith, refl), ((0, omega arith, refl), tt)))
filled_operands Always layout zs has = ((20, omega arith, refl), ((0, omega arith, refl), ((0, omega arith, refl), tt)))
filled_operands Light layout zs has = ((1, omega arith, refl), tt)
filled_operands Tables layout zs has = ((2, omega arith, refl), tt)

-- the fields at the place of the row are those of its layout
pub MeansRow-fields : (mnemonic : Mnemonic) (means : MeansRow mnemonic) → fields_at mnemonic.row ≡ fields_of means.layout
MeansRow-fields mnemonic means = ap (λ o. option_map_or fields_of o []) means.laid

-- operands that the written fields can hold fill the fields of the row
pub MeansRow-operands : (mnemonic : Mnemonic) (operands : List ℤ) → MeansRow mnemonic → HasOperands (written_fields mnemonic.pattern (fields_at mnemonic.row)) operands → HasOperands (fields_at mnemonic.row) (filled mnemonic.pattern operands)
MeansRow-operands mnemonic operands means has =
    let same : fields_at mnemonic.row ≡ fields_of (layout_for mnemonic.pattern means.layout) = MeansRow-fields mnemonic means ∙ ap fields_of means.meant in
    subst (λ fs. HasOperands fs (filled mnemonic.pattern operands)) (sym same)
    (filled_operands mnemonic.pattern means.layout operands (subst (λ fs. HasOperands (written_fields mnemonic.pattern fs) operands) same has))

-- operands that the written fields can hold fill the layout at the place of the row
pub MeansRow-laid : (mnemonic : Mnemonic) (operands : List ℤ) → MeansRow mnemonic → HasOperands (written_fields mnemonic.pattern (fields_at mnemonic.row)) operands → IsSomeAnd (slice_get layouts mnemonic.row) (λ layout. HasOperands (fields_of layout) (insn_of mnemonic operands).ops.items)
MeansRow-laid mnemonic operands means has =
    subst (λ o. IsSomeAnd o (λ layout. HasOperands (fields_of layout) (filled mnemonic.pattern operands))) (sym means.laid)
    (subst (λ fs. HasOperands fs (filled mnemonic.pattern operands)) (MeansRow-fields mnemonic means) (MeansRow-operands mnemonic operands means has))
