-- Operands in the code of a row: what is written is read, of the definitions alone.
use Rattle.std.proofs.Common.{◌≡◌, ℕ, zero, suc, ◌+◌, ◌*◌, ◌/◌, ◌%◌, ◌^◌, ◌<◌, ◌≤◌, true, List, [], ◌∷◌, Some, ℤ, bit_and, bit_or, slice_get, refl, sym, ap, subst, ◌∙◌, arith}
use Rattle.std.specs.Int.Bits.{or_zero_r}
use Rattle.std.specs.List.{list_all}
use Rattle.std.proofs.lemmas.Nat.{and_le_r, and_shr, and_mod, and_block, mod_low, shr_high}
use Rattle.std.proofs.lemmas.Bool.{and_parts, ltb-true, eqb-true}
use Rattle.mw_tables.specs.declared.layout.Layout.{Layout}
use Rattle.mw_tables.specs.Row.{TableRow, prefix_mask, prefix_value}
use Rattle.mw_tables.specs.Layouts.{all_fields, is_readable, operands_in, code_with_all, HasOperands}
use Rattle.mw_tables.specs.Rows.{lines, table, layouts}
use Rattle.mw_tables.specs.Sound.{fields_apart, fixed_mask, fixed_value, used_bits, code_of, bits_of_kind, is_sound, all_sound}
use Rattle.mw_tables.proofs.PieceLaws.{Within, and-or, or-within, within-trans}
use Rattle.mw_tables.proofs.FieldLaws.{within-with_fields, code_with_all-clear, code_with_all-within, operands_in-code_with_all, code_with_all-operands_in}

-- what is known of a row that is sound with its layout
pub record IsSound (row : TableRow) (layout : Layout) : Type 0 where
  pub mask : row.mask < 2 ^ 32
  pub value : Within row.value row.mask
  pub fixed : Within (fixed_value row) (fixed_mask row)
  pub readable : list_all is_readable (all_fields row layout) ≡ true
  pub apart : fields_apart (fixed_mask row) (all_fields row layout) ≡ true
  pub room : used_bits row layout < 2 ^ bits_of_kind row.prefix

-- the test, in its parts
pub is_sound-parts : (row : TableRow) (layout : Layout) → is_sound row layout ≡ true → IsSound row layout
unfolding is_sound
is_sound-parts row layout test =
    let a = and_parts _ _ test in
    let b = and_parts _ _ a.1 in
    let c = and_parts _ _ b.1 in
    let d = and_parts _ _ c.1 in
    let e = and_parts _ _ d.1 in record {
      mask = ltb-true _ _ a.0;
      value = eqb-true _ _ b.0;
      fixed = eqb-true _ _ c.0;
      readable = d.0;
      apart = e.0;
      room = ltb-true _ _ e.1;
    }

-- the operands that a row's code was made of are read from it
pub operands_in-code_of : (row : TableRow) (layout : Layout) (zs : List ℤ) → is_sound row layout ≡ true → HasOperands (all_fields row layout) zs → operands_in (code_of row layout zs) (all_fields row layout) ≡ zs
operands_in-code_of row layout zs test has =
    let sound = is_sound-parts row layout test in
    operands_in-code_with_all (fixed_value row) (fixed_mask row) (all_fields row layout) zs sound.readable sound.apart sound.fixed has

-- a row's code has the row's fixed bits
pub code_of-fixed : (row : TableRow) (layout : Layout) (zs : List ℤ) → is_sound row layout ≡ true → bit_and (code_of row layout zs) (fixed_mask row) ≡ fixed_value row
code_of-fixed row layout zs test =
    let sound = is_sound-parts row layout test in
    and-or (fixed_value row) (code_with_all (all_fields row layout) zs) (fixed_mask row)
    ∙ ap (λ n. bit_or n (bit_and (code_with_all (all_fields row layout) zs) (fixed_mask row))) sound.fixed
    ∙ ap (bit_or (fixed_value row)) (code_with_all-clear (fixed_mask row) (all_fields row layout) zs sound.apart)
    ∙ or_zero_r (fixed_value row)

-- a row's code has zeros in its reserved bits
pub code_of-used : (row : TableRow) (layout : Layout) (zs : List ℤ) → is_sound row layout ≡ true → bit_and (code_of row layout zs) (used_bits row layout) ≡ code_of row layout zs
code_of-used row layout zs test =
    let sound = is_sound-parts row layout test in
    or-within (fixed_value row) (code_with_all (all_fields row layout) zs) (used_bits row layout)
    (within-trans (fixed_value row) (fixed_mask row) (used_bits row layout) sound.fixed (within-with_fields (fixed_mask row) (all_fields row layout)))
    (code_with_all-within (fixed_mask row) (all_fields row layout) zs)

-- a code that has the row's fixed bits is, but for its reserved bits, that of the operands that it has
pub code_of-operands_in : (row : TableRow) (layout : Layout) (code : ℕ) → is_sound row layout ≡ true → bit_and code (fixed_mask row) ≡ fixed_value row → code_of row layout (operands_in code (all_fields row layout)) ≡ bit_and code (used_bits row layout)
code_of-operands_in row layout code test is =
    let sound = is_sound-parts row layout test in
    ap (λ n. bit_or n (code_with_all (all_fields row layout) (operands_in code (all_fields row layout)))) (sym is)
    ∙ code_with_all-operands_in code (fixed_mask row) (all_fields row layout) sound.readable

within-lt : (n mask limit : ℕ) → Within n mask → mask < limit → n < limit
within-lt n mask limit within below = let least : bit_and n mask ≤ mask = and_le_r n mask in subst (λ k. k < limit) within (omega arith)

-- a row's code has a word's bits, or those of a prefix and a suffix
pub code_of-lt : (row : TableRow) (layout : Layout) (zs : List ℤ) → is_sound row layout ≡ true → code_of row layout zs < 2 ^ bits_of_kind row.prefix
code_of-lt row layout zs test =
    within-lt (code_of row layout zs) (used_bits row layout) (2 ^ bits_of_kind row.prefix) (code_of-used row layout zs test) (is_sound-parts row layout test).room

-- the suffix of a row's code, or the word, has the row's bits
pub code_of-suffix : (row : TableRow) (layout : Layout) (zs : List ℤ) → is_sound row layout ≡ true → bit_and (code_of row layout zs % 2 ^ 32) row.mask ≡ row.value
code_of-suffix row layout zs test =
    let sound = is_sound-parts row layout test in
    let code = code_of row layout zs in
    ap (bit_and (code % 2 ^ 32)) (sym (mod_low (prefix_mask row.prefix) 32 row.mask sound.mask))
    ∙ sym (and_mod code (fixed_mask row) 32)
    ∙ ap (λ n. n % 2 ^ 32) (code_of-fixed row layout zs test)
    ∙ mod_low (prefix_value row.prefix) 32 row.value (within-lt row.value row.mask (2 ^ 32) sound.value sound.mask)

-- the prefix of a row's code has the bits of its kind
pub code_of-prefix : (row : TableRow) (layout : Layout) (zs : List ℤ) → is_sound row layout ≡ true → bit_and (code_of row layout zs / 2 ^ 32) (prefix_mask row.prefix) ≡ prefix_value row.prefix
code_of-prefix row layout zs test =
    let sound = is_sound-parts row layout test in
    let code = code_of row layout zs in
    ap (bit_and (code / 2 ^ 32)) (sym (shr_high (prefix_mask row.prefix) 32 row.mask sound.mask))
    ∙ sym (and_shr code (fixed_mask row) 32)
    ∙ ap (λ n. n / 2 ^ 32) (code_of-fixed row layout zs test)
    ∙ shr_high (prefix_value row.prefix) 32 row.value (within-lt row.value row.mask (2 ^ 32) sound.value sound.mask)

-- a prefix and a suffix that have the row's bits have them together
pub fixed-halves : (row : TableRow) (prefix suffix : ℕ) → row.mask < 2 ^ 32 → suffix < 2 ^ 32 → bit_and prefix (prefix_mask row.prefix) ≡ prefix_value row.prefix → bit_and suffix row.mask ≡ row.value → bit_and (prefix * 2 ^ 32 + suffix) (fixed_mask row) ≡ fixed_value row
fixed-halves row prefix suffix narrow below p s =
    and_block 32 prefix (prefix_mask row.prefix) suffix row.mask below narrow
    ∙ ap (λ n. n * 2 ^ 32 + bit_and suffix row.mask) p
    ∙ ap (λ n. prefix_value row.prefix * 2 ^ 32 + n) s

-- the whole table is sound
pub table-sound : all_sound table layouts ≡ true
unfolding is_sound table layouts lines
table-sound = refl

at_place : (rows : List TableRow) (kinds : List Layout) (place : ℕ) (row : TableRow) (layout : Layout) → all_sound rows kinds ≡ true → slice_get rows place ≡ Some row → slice_get kinds place ≡ Some layout → is_sound row layout ≡ true
at_place [] kinds place row layout test r l = cc
at_place (x ∷ rows) [] place row layout test r l = cc
at_place (x ∷ rows) (k ∷ kinds) zero row layout test r l =
    let first : Some x ≡ Some row = r in
    let second : Some k ≡ Some layout = l in
    let one : x ≡ row = cc in
    let other : k ≡ layout = cc in
    ap (λ (a : TableRow). is_sound a layout) (sym one) ∙ ap (is_sound x) (sym other) ∙ (and_parts (is_sound x k) (all_sound rows kinds) test).0
at_place (x ∷ rows) (k ∷ kinds) (suc place) row layout test r l = at_place rows kinds place row layout (and_parts (is_sound x k) (all_sound rows kinds) test).1 r l

-- each row of the table is sound with its layout
pub row-sound : (place : ℕ) (row : TableRow) (layout : Layout) → slice_get table place ≡ Some row → slice_get layouts place ≡ Some layout → is_sound row layout ≡ true
row-sound place row layout r l = at_place table layouts place row layout table-sound r l
