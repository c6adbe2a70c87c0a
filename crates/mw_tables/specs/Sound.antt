-- That the operands of a row have room: apart from each other and from the bits that the row fixes.
use Rattle.std.specs.Prelude.{ℕ, ◌+◌, ◌-◌, ◌*◌, ◌^◌, ◌==◌, Bool, true, false, ◌&&◌, nat_lt, List, [], ◌∷◌, ℤ, bit_and, bit_or}
use Rattle.std.specs.List.{list_all}
use Rattle.mw_tables.specs.declared.layout.Piece.{Piece}
use Rattle.mw_tables.specs.declared.layout.Field.{Field}
use Rattle.mw_tables.specs.declared.layout.Layout.{Layout}
use Rattle.mw_tables.specs.declared.row.PrefixKind.{PrefixKind}
use Rattle.mw_tables.specs.declared.row.PrefixKind.TheVariants.{Plain, Mls, Eight, Nop}
use Rattle.mw_tables.specs.Row.{TableRow, prefix_mask, prefix_value}
use Rattle.mw_tables.specs.Layouts.{pieces_of, is_readable, all_fields, code_with_all}

-- the ones of a piece
abbrev pub piece_mask : Piece → ℕ
piece_mask p = 2 ^ (p.width + p.low) - 2 ^ p.low

-- bits that are used, with those of pieces
abbrev pub with_pieces : ℕ → List Piece → ℕ
with_pieces used [] = used
with_pieces used (p ∷ ps) = with_pieces (bit_or used (piece_mask p)) ps

-- bits that are used, with those of fields
abbrev pub with_fields : ℕ → List Field → ℕ
with_fields used [] = used
with_fields used (f ∷ fs) = with_fields (with_pieces used (pieces_of f)) fs

-- the pieces are apart from each other and from bits that are used
abbrev pub pieces_apart : ℕ → List Piece → Bool
pieces_apart used [] = true
pieces_apart used (p ∷ ps) = bit_and used (piece_mask p) == 0 && pieces_apart (bit_or used (piece_mask p)) ps

-- the fields are apart from each other and from bits that are used, and each from itself
abbrev pub fields_apart : ℕ → List Field → Bool
fields_apart used [] = true
fields_apart used (f ∷ fs) = pieces_apart used (pieces_of f) && fields_apart (with_pieces used (pieces_of f)) fs

-- the bits that a row fixes in the code, those of the prefix among them
abbrev pub fixed_mask : TableRow → ℕ
fixed_mask row = prefix_mask row.prefix * 2 ^ 32 + row.mask

-- what the bits are that a row fixes in the code
abbrev pub fixed_value : TableRow → ℕ
fixed_value row = prefix_value row.prefix * 2 ^ 32 + row.value

-- the bits of a row's code that mean anything; the others are reserved
abbrev pub used_bits : TableRow → Layout → ℕ
used_bits row layout = with_fields (fixed_mask row) (all_fields row layout)

-- the code of a row with these operands, those of its forms among them
abbrev pub code_of : TableRow → Layout → List ℤ → ℕ
code_of row layout operands = bit_or (fixed_value row) (code_with_all (all_fields row layout) operands)

-- how many bits a code has: a word, or a prefix and a suffix
abbrev pub bits_of_kind : PrefixKind → ℕ
bits_of_kind Plain = 32
bits_of_kind Mls = 64
bits_of_kind Eight = 64
bits_of_kind Nop = 64

-- the row's fixed bits, its operands and its forms have bits of their own, and all have room in the code
unfoldable pub is_sound : TableRow → Layout → Bool
is_sound row layout = nat_lt row.mask (2 ^ 32) && (bit_and row.value row.mask == row.value && (bit_and (fixed_value row) (fixed_mask row) == fixed_value row && (list_all is_readable (all_fields row layout) && (fields_apart (fixed_mask row) (all_fields row layout) && nat_lt (used_bits row layout) (2 ^ bits_of_kind row.prefix)))))

-- each row is sound with its layout
abbrev pub all_sound : List TableRow → List Layout → Bool
all_sound [] [] = true
all_sound [] (layout ∷ layouts) = false
all_sound (row ∷ rows) [] = false
all_sound (row ∷ rows) (layout ∷ layouts) = is_sound row layout && all_sound rows layouts
