-- Which row a word or a name is: at most one.
use Rattle.std.specs.Prelude.{ℕ, ◌≡◌, ◌==◌, Bool, false, ◌&&◌, nat_lt, List, Option, bit_and, slice_get, map, IsSomeAnd, IsTrue}
use Rattle.std.specs.List.{position_from}
use Rattle.std.specs.Option.{option_map_or}
use Rattle.mw_tables.specs.declared.row.PrefixKind.{PrefixKind}
use Rattle.mw_tables.specs.declared.row.PrefixKind.TheVariants.{Plain, Mls, Eight, Nop}
use Rattle.mw_tables.specs.Row.{TableRow}
use Rattle.mw_tables.specs.Layouts.{shape_of}
use Rattle.mw_tables.specs.Rows.{table, layouts}

-- a number for each kind of prefix
abbrev pub kind_number : PrefixKind → ℕ
kind_number Plain = 0
kind_number Mls = 1
kind_number Eight = 2
kind_number Nop = 3

-- the row at a place of the table has a prefix
abbrev pub has_prefix : ℕ → Bool
has_prefix place = option_map_or (λ (row : TableRow). nat_lt 0 (kind_number row.prefix)) (slice_get table place) false

-- the row has this kind of prefix, and the word, or the suffix, has the row's fixed bits
abbrev pub matches : PrefixKind → ℕ → TableRow → Bool
matches kind word row = kind_number row.prefix == kind_number kind && (bit_and word row.mask == row.value)

-- the row at a place matches
abbrev pub MatchesAt : List TableRow → PrefixKind → ℕ → ℕ → Type 0
MatchesAt rows kind word place = IsSomeAnd (slice_get rows place) (λ row. IsTrue (matches kind word row))

-- no two rows of one kind of prefix match one word
abbrev pub AreApart : List TableRow → Type 0
AreApart rows = (kind : PrefixKind) (word a b : ℕ) → MatchesAt rows kind word a → MatchesAt rows kind word b → a ≡ b

-- the row at a place has the name
abbrev pub IsNamedAt : List TableRow → List ℕ → ℕ → Type 0
IsNamedAt rows name place = IsSomeAnd (slice_get rows place) (λ row. row.name ≡ name)

-- no two rows have one name
abbrev pub AreNamed : List TableRow → Type 0
AreNamed rows = (name : List ℕ) (a b : ℕ) → IsNamedAt rows name a → IsNamedAt rows name b → a ≡ b

-- the operand list of each row is the one that its layout lays out
abbrev pub AreLaidOut : List TableRow → Type 0
AreLaidOut rows = map (λ (row : TableRow). row.shape) rows ≡ map shape_of layouts

-- the place in the table of the row that matches
unfoldable pub row_place : PrefixKind → ℕ → Option ℕ
row_place kind word = position_from (matches kind word) 0 table
