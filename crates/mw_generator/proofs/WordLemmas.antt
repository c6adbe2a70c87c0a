-- The rows of the instructions of an image: their names, and that their operands are in range.
use Rattle.std.proofs.Common.{◌≡◌, FitsSigned, ℕ, zero, suc, ◌-◌, ◌*◌, ◌<◌, ◌≤◌, false, List, slice_get, Option, Some, None, IsSomeAnd, ℤ, pos, negsuc, neg_ℤ, ◌-ℤ◌, ◌≤ℤ◌, ◌<ℤ◌, refl, sym, ap, subst, ◌∙◌, arith}
use Rattle.std.specs.Prelude.{codes}
use Rattle.std.specs.Int.{w16}
use Rattle.std.specs.Option.{option_map_or}
use Rattle.std.proofs.lemmas.Int.{ints}
use Rattle.std.proofs.lemmas.Bool.{false≢true}
use Rattle.mw_tables.specs.declared.layout.Layout.{Layout}
use Rattle.mw_tables.specs.declared.layout.Layout.TheVariants.{DRtRaSi, DRaRsUi, ITarget, XRtRaRb, XRaRsRb, XRt, DRtDRa, DsRtDRa, Empty, XfxSprRs}
use Rattle.mw_tables.specs.Row.{TableRow}
use Rattle.mw_tables.specs.Rows.{lines, table, layouts}
use Rattle.mw_tables.specs.Layouts.{fields_of, rt, si, ui, d, ds, li, spr, InRange, HasOperands}
use Rattle.mw_tables.proofs.RangeLaws.{unsigned-InRange}
use Rattle.mw_tables.proofs.FieldLaws.{signed_of-low, signed_of-high}
use Rattle.mw_decode.specs.declared.rule.Rule.{Rule}
use Rattle.mw_decode.specs.declared.rule.Rule.TheVariants.{AlwaysLegal}
use Rattle.mw_decode.specs.Rules.{row_rules, is_illegal}
use Rattle.mw_decode.specs.Decode.{IsInsn, HasForms}
use Rattle.mw_decode.specs.Encode.{encode_of}
use Rattle.mw_generator.specs.Instructions.{row_named, insn_at, word}

-- the row at a place has the name and the layout, and forbids no operands
pub record IsRow (name : List ℕ) (row : ℕ) (layout : Layout) : Type 0 where
  pub named : row_named name ≡ row
  pub there : IsSomeAnd (slice_get table row) (λ _. Unit {0})
  pub laid : slice_get layouts row ≡ Some layout
  pub rule : slice_get row_rules row ≡ Some AlwaysLegal

no_forms : (row : ℕ) (items : List ℤ) (r : TableRow) → HasForms r (insn_at row items)
no_forms row items r = ((λ e. absurd (false≢true e)), (λ e. absurd (false≢true e)), (λ e. absurd (false≢true e)), (λ e. absurd (false≢true e)))

forms-from : (row : ℕ) (items : List ℤ) (o : Option TableRow) → IsSomeAnd o (λ _. Unit {0}) → IsSomeAnd o (λ r. HasForms r (insn_at row items))
forms-from row items None there = there
forms-from row items (Some r) there = no_forms row items r

-- a row with operands in range and without a form is an instruction
pub row-IsInsn : (name : List ℕ) (row : ℕ) (layout : Layout) (items given : List ℤ) → IsRow name row layout → given ≡ items → HasOperands (fields_of layout) items → IsInsn (insn_at row given)
row-IsInsn name row layout items given is same has =
    let whole : IsInsn (insn_at row items) = record {
      forms = forms-from row items (slice_get table row) is.there;
      operands = subst (λ o. IsSomeAnd o (λ l. HasOperands (fields_of l) items)) (sym is.laid) has;
      legal = ap (λ (o : Option Rule). option_map_or (λ r. is_illegal r items) o false) is.rule;
    } in
    subst (λ zs. IsInsn (insn_at row zs)) (sym same) whole

-- the word of a row is that of its name
pub row-word : (name : List ℕ) (row : ℕ) (layout : Layout) (items given : List ℤ) (w : ℕ) → IsRow name row layout → given ≡ items → w ≡ (encode_of (insn_at row given)).word → w ≡ word name items
unfolding word
row-word name row layout items given w is same value =
    value ∙ ap (λ zs. (encode_of (insn_at row zs)).word) same ∙ ap (λ r. (encode_of (insn_at r items)).word) (sym is.named)

-- a number below 32 is a register
pub register-InRange : (n : ℕ) → n < 32 → InRange rt (pos n)
register-InRange n below = unsigned-InRange rt (pos n) refl refl (n, below, refl)

-- a number of 16 bits is in the range of UI
pub ui-InRange : (n : ℕ) → n < 65536 → InRange ui (pos n)
ui-InRange n below = unsigned-InRange ui (pos n) refl refl (n, below, refl)

-- a number of 10 bits is in the range of SPR
pub spr-InRange : (n : ℕ) → n < 1024 → InRange spr (pos n)
spr-InRange n below = unsigned-InRange spr (pos n) refl refl (n, below, refl)

-- a signed number of 16 bits is in the range of SI and of D
pub si-InRange : (z : ℤ) → neg_ℤ (pos 32768) ≤ℤ z → z <ℤ pos 32768 → InRange si z
si-InRange (pos n) low high =
    let below : n < 32768 = omega (arith, ints) in
    let wide : n < 65536 = omega arith in
    let once : n * 1 ≡ n = omega arith in
    (n, wide, ap pos (sym once) ∙ sym (signed_of-low 16 (n * 1) (omega arith)))
si-InRange (negsuc k) low high =
    let below : k < 32768 = omega (arith, ints) in
    let wide : 65535 - k < 65536 = omega arith in
    let once : (65535 - k) * 1 ≡ 65535 - k = omega arith in
    let same : negsuc k ≡ pos ((65535 - k) * 1) -ℤ pos 65536 = omega (arith, ints) in
    (65535 - k, wide, same ∙ sym (signed_of-high 16 ((65535 - k) * 1) (omega arith)))

-- a number that a signed integer of 16 bits holds is in the range of SI
pub si16-InRange : (z : ℤ) → FitsSigned w16 z → InRange si z
si16-InRange z fits = si-InRange z (omega (arith, ints, fits)) (omega (arith, ints, fits))

-- a number of 15 bits is in the range of D
pub d-InRange : (n : ℕ) → n < 32768 → InRange d (pos n)
d-InRange n below = si-InRange (pos n) (omega (arith, ints)) (omega (arith, ints))

-- a multiple of 8 below 32768 is in the range of DS
pub ds-InRange : (n : ℕ) → n < 4096 → InRange ds (pos (8 * n))
ds-InRange n below =
    let wide : 2 * n < 16384 = omega arith in
    let same : 8 * n ≡ 2 * n * 4 = omega arith in
    (2 * n, wide, ap pos same ∙ sym (signed_of-low 16 (2 * n * 4) (omega arith)))

-- back by so many words is in the range of LI
pub back-InRange : (n : ℕ) → n ≤ 8388608 → InRange li (neg_ℤ (pos (4 * n)))
back-InRange zero most = (0, omega arith, refl)
back-InRange (suc k) most =
    let wide : 16777216 - suc k < 16777216 = omega arith in
    let high : 33554432 ≤ (16777216 - suc k) * 4 = omega arith in
    let same : neg_ℤ (pos (4 * suc k)) ≡ pos ((16777216 - suc k) * 4) -ℤ pos 67108864 = omega (arith, ints) in
    (16777216 - suc k, wide, same ∙ sym (signed_of-high 26 ((16777216 - suc k) * 4) high))

-- the rows, each at its place
pub addi-row : IsRow (codes "addi") 0 DRtRaSi
unfolding row_named row_rules table layouts lines
addi-row = record { named = refl; there = tt; laid = refl; rule = refl }

pub addis-row : IsRow (codes "addis") 1 DRtRaSi
unfolding row_named row_rules table layouts lines
addis-row = record { named = refl; there = tt; laid = refl; rule = refl }

pub ori-row : IsRow (codes "ori") 10 DRaRsUi
unfolding row_named row_rules table layouts lines
ori-row = record { named = refl; there = tt; laid = refl; rule = refl }

pub b-row : IsRow (codes "b") 17 ITarget
unfolding row_named row_rules table layouts lines
b-row = record { named = refl; there = tt; laid = refl; rule = refl }

pub add-row : IsRow (codes "add") 43 XRtRaRb
unfolding row_named row_rules table layouts lines
add-row = record { named = refl; there = tt; laid = refl; rule = refl }

pub mulld-row : IsRow (codes "mulld") 55 XRtRaRb
unfolding row_named row_rules table layouts lines
mulld-row = record { named = refl; there = tt; laid = refl; rule = refl }

pub divd-row : IsRow (codes "divd") 60 XRtRaRb
unfolding row_named row_rules table layouts lines
divd-row = record { named = refl; there = tt; laid = refl; rule = refl }

pub xor-row : IsRow (codes "xor") 77 XRaRsRb
unfolding row_named row_rules table layouts lines
xor-row = record { named = refl; there = tt; laid = refl; rule = refl }

pub stw-row : IsRow (codes "stw") 133 DRtDRa
unfolding row_named row_rules table layouts lines
stw-row = record { named = refl; there = tt; laid = refl; rule = refl }

pub ld-row : IsRow (codes "ld") 143 DsRtDRa
unfolding row_named row_rules table layouts lines
ld-row = record { named = refl; there = tt; laid = refl; rule = refl }

pub std-row : IsRow (codes "std") 146 DsRtDRa
unfolding row_named row_rules table layouts lines
std-row = record { named = refl; there = tt; laid = refl; rule = refl }

pub rfid-row : IsRow (codes "rfid") 197 Empty
unfolding row_named row_rules table layouts lines
rfid-row = record { named = refl; there = tt; laid = refl; rule = refl }

pub mfmsr-row : IsRow (codes "mfmsr") 203 XRt
unfolding row_named row_rules table layouts lines
mfmsr-row = record { named = refl; there = tt; laid = refl; rule = refl }

pub mtspr-row : IsRow (codes "mtspr") 209 XfxSprRs
unfolding row_named row_rules table layouts lines
mtspr-row = record { named = refl; there = tt; laid = refl; rule = refl }
