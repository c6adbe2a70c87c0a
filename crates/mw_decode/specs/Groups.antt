-- How the decoder finds a row: by the kind of prefix and the primary opcode, and then by a part of the word, or of the suffix.
use Rattle.std.specs.Prelude.{ℕ, ◌+◌, ◌/◌, ◌^◌, ◌≡◌, ◌==◌, Bool, true, false, not, ◌&&◌, ◌||◌, ◌⊎◌, List, [], ◌∷◌, length, bit_and, nat_lt}
use Rattle.mw_tables.specs.declared.row.PrefixKind.{PrefixKind}
use Rattle.mw_tables.specs.Row.{TableRow}
use Rattle.mw_tables.specs.Rows.{table}
use Rattle.mw_tables.specs.Matching.{kind_number, MatchesAt}
use Rattle.mw_decode.specs.declared.groups.Group.{Group}

-- no row but the one at this place and the next one matches the word
abbrev pub LeadsTo : PrefixKind → ℕ → ℕ → Type 0
LeadsTo kind word place = (other : ℕ) → MatchesAt table kind word other → (other ≡ place) ⊎ (other ≡ place + 1)

-- the number that a group looks up for a word
abbrev pub key_of : Group → ℕ → ℕ
key_of group word = bit_and (word / 2 ^ group.shift) group.mask

-- the place is this one or the next one
abbrev pub is_near : ℕ → ℕ → Bool
is_near p place = place == p || place == p + 1

-- from this code on, each that agrees with the value under the mask has the place, or the one before it
abbrev pub codes_lead : List ℕ → ℕ → ℕ → ℕ → ℕ → Bool
codes_lead [] code mask value place = true
codes_lead (p ∷ ps) code mask value place = (not (bit_and code mask == value) || is_near p place) && codes_lead ps (code + 1) mask value place

-- where the row is of this kind and opcode, the group leads to it
abbrev pub row_leads : Bool → Group → TableRow → ℕ → Bool
row_leads false group row place = true
row_leads true group row place = codes_lead group.places.now 0 (key_of group row.mask) (key_of group row.value) place

-- the row is of this kind, and some word of this opcode has its fixed bits
abbrev pub is_of : PrefixKind → ℕ → TableRow → Bool
is_of kind opcode row = kind_number row.prefix == kind_number kind && (bit_and opcode (row.mask / 2 ^ 26) == row.value / 2 ^ 26)

-- the group of an opcode leads to each of these rows that is of it; the places are counted on
abbrev pub rows_lead : PrefixKind → ℕ → Group → List TableRow → ℕ → Bool
rows_lead kind opcode group [] place = true
rows_lead kind opcode group (row ∷ rows) place = row_leads (is_of kind opcode row) group row place && rows_lead kind opcode group rows (place + 1)

-- the group has a place for each number that it looks up
abbrev pub is_whole : Group → Bool
is_whole group = nat_lt group.shift 32 && nat_lt group.mask (length group.places.now)

-- each group leads to the rows of its opcode; the opcodes are counted on
abbrev pub groups_fit : PrefixKind → List TableRow → ℕ → List Group → Bool
groups_fit kind rows opcode [] = true
groups_fit kind rows opcode (group ∷ groups) = is_whole group && rows_lead kind opcode group rows 0 && groups_fit kind rows (opcode + 1) groups
