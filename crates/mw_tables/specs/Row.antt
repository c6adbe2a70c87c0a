-- A row of the instruction table (Book I, instruction formats).
use Rattle.std.specs.Prelude.{ℕ, ◌+◌, ◌-◌, ◌*◌, ◌^◌, Bool, List, [], ◌∷◌}
use Rattle.mw_tables.specs.declared.row.PrefixKind.{PrefixKind}
use Rattle.mw_tables.specs.declared.row.PrefixKind.TheVariants.{Plain, Mls, Eight, Nop}
use Rattle.mw_tables.specs.declared.row.Shape.{Shape}
use Rattle.mw_tables.specs.declared.row.Row.{Row}

-- a row: the name, the bits that the word, or the suffix, has under the mask, its prefix, its operand list, and which forms exist
pub record TableRow : Type 0 where
  pub name : List ℕ
  pub mask : ℕ
  pub value : ℕ
  pub prefix : PrefixKind
  pub shape : Shape
  pub oe : Bool
  pub rc : Bool
  pub links : Bool
  pub absolute : Bool

-- the row that the code holds
abbrev pub row_of : Row → TableRow
row_of r = record { name = r.name.now; mask = r.mask; value = r.value; prefix = r.prefix; shape = r.shape; oe = r.oe; rc = r.rc; links = r.links; absolute = r.absolute }

-- a part of a word that a row fixes: bits first to last of the 32, numbered from the left, and their number
pub record Fixed : Type 0 where
  pub first : ℕ
  pub last : ℕ
  pub number : ℕ

-- the ones of a part
abbrev pub ones_of : Fixed → ℕ
ones_of f = (2 ^ (f.last - f.first + 1) - 1) * 2 ^ (31 - f.last)

-- the mask of parts that don't overlap
abbrev pub mask_of : List Fixed → ℕ
mask_of [] = 0
mask_of (f ∷ fs) = ones_of f + mask_of fs

-- what a word has under the mask of parts that don't overlap
abbrev pub value_of : List Fixed → ℕ
value_of [] = 0
value_of (f ∷ fs) = f.number * 2 ^ (31 - f.last) + value_of fs

-- the bits that a prefix of this kind fixes: bits 0 to 8, of pnop all, and of a word without a prefix none
abbrev pub prefix_mask : PrefixKind → ℕ
prefix_mask Plain = 0
prefix_mask Mls = mask_of (record { first = 0; last = 8; number = 0 } ∷ [])
prefix_mask Eight = mask_of (record { first = 0; last = 8; number = 0 } ∷ [])
prefix_mask Nop = mask_of (record { first = 0; last = 31; number = 0 } ∷ [])

-- what a prefix of this kind has in the bits that it fixes: primary opcode 1, the type in bits 6 and 7, and a bit 8 that is 0
abbrev pub prefix_value : PrefixKind → ℕ
prefix_value Plain = 0
prefix_value Mls = value_of (record { first = 0; last = 5; number = 1 } ∷ record { first = 6; last = 7; number = 2 } ∷ [])
prefix_value Eight = value_of (record { first = 0; last = 5; number = 1 } ∷ record { first = 6; last = 7; number = 0 } ∷ [])
prefix_value Nop = value_of (record { first = 0; last = 5; number = 1 } ∷ record { first = 6; last = 7; number = 3 } ∷ [])
