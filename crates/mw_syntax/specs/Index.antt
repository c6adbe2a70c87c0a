-- The index of mnemonics: all of them in the order of their names, for a search by halves.
use Rattle.std.specs.Prelude.{ℕ, ◌≡◌, Bool, true, List, map, Some, bytes_eq, slice_get, IsSomeAnd}
use Rattle.std.specs.List.{list_any, list_all}
use Rattle.std.specs.Ordering.{nat_cmp, is_lt}
use Rattle.std.specs.Cmp.Lexicographic.{slice_cmp}
use Rattle.std.specs.List.Sorted.{IsSortedBy}
use Rattle.mw_syntax.specs.declared.spelling.Spelled.{Spelled}
use Rattle.mw_syntax.specs.Mnemonics.{Spelling, spellings, mnemonic_of}

-- a name is less than another in the order of bytes
abbrev pub is_before : Spelled → Spelled → Bool
is_before a b = is_lt (slice_cmp nat_cmp a.name.now b.name.now)

-- a name is among these
abbrev pub is_among : List Spelled → List ℕ → Bool
is_among entries name = list_any (λ (entry : Spelled). bytes_eq entry.name.now name) entries

-- the names are in order, each means what it stands with, and no mnemonic is missing
pub record IsIndex (entries : List Spelled) : Type 0 where
  pub sorted : IsSortedBy is_before entries
  pub meant : map (λ (entry : Spelled). mnemonic_of entry.name.now) entries ≡ map (λ (entry : Spelled). Some entry.mnemonic) entries
  pub whole : list_all (λ (spelling : Spelling). is_among entries spelling.name) spellings ≡ true

-- the spelling at a place has the name
abbrev pub IsSpelledAt : List ℕ → ℕ → Type 0
IsSpelledAt name place = IsSomeAnd (slice_get spellings place) (λ spelling. spelling.name ≡ name)

-- no two spellings have one name
abbrev pub AreDistinct : Type 0
AreDistinct = (name : List ℕ) (a b : ℕ) → IsSpelledAt name a → IsSpelledAt name b → a ≡ b
