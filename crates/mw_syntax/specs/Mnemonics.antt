-- Mnemonics: the names of the rows with the endings of their forms, and the extended mnemonics (Book I, assembler extended mnemonics).
use Rattle.std.specs.Prelude.{ℕ, ◌+◌, Bool, true, false, if◌then◌else◌, List, [], ◌∷◌, ◌++◌, Option, map, option_map, codes, bytes_eq, flat_map, find}
use Rattle.mw_tables.specs.Row.{TableRow}
use Rattle.mw_tables.specs.Rows.{table}
use Rattle.mw_syntax.specs.declared.mnemonic.Pattern.{Pattern}
use Rattle.mw_syntax.specs.declared.mnemonic.Pattern.TheVariants.{Row, Li, Lis, Mr, Nop, Always, Light, Tables}
use Rattle.mw_syntax.specs.declared.mnemonic.Mnemonic.{Mnemonic}

-- a mnemonic and how it is spelled
pub record Spelling : Type 0 where
  pub name : List ℕ
  pub mnemonic : Mnemonic

-- an ending, where its form is chosen
abbrev pub ending : Bool → List ℕ → List ℕ
ending chosen text = if chosen then text else []

-- the form that isn't chosen, and the chosen one where the row has it
abbrev pub choices : Bool → List Bool
choices exists = false ∷ (if exists then true ∷ [] else [])

-- the spelling of a row with these forms: `o`, `l`, `a` and `.` in this order
abbrev pub spelled : List ℕ → ℕ → Bool → Bool → Bool → Bool → Spelling
spelled name row oe lk aa rc = record {
  name = name ++ ending oe (codes "o") ++ ending lk (codes "l") ++ ending aa (codes "a") ++ ending rc (codes ".");
  mnemonic = record { row = row; oe = oe; rc = rc; aa = aa; lk = lk; pattern = Row };
}

-- the spellings of a row
abbrev pub row_spellings : ℕ → TableRow → List Spelling
row_spellings place row =
    flat_map (λ oe. flat_map (λ lk. flat_map (λ aa. map (λ rc. spelled row.name place oe lk aa rc) (choices row.rc)) (choices row.absolute)) (choices row.links)) (choices row.oe)

-- the spellings of rows whose places are counted on
abbrev pub spellings_from : ℕ → List TableRow → List Spelling
spellings_from place [] = []
spellings_from place (row ∷ rows) = row_spellings place row ++ spellings_from (place + 1) rows

-- an extended mnemonic of the row at a place
abbrev pub extended : List ℕ → ℕ → Pattern → Spelling
extended name row pattern = record { name = name; mnemonic = record { row = row; oe = false; rc = false; aa = false; lk = false; pattern = pattern } }

-- the places of the rows that extended mnemonics stand for
abbrev pub addi_row : ℕ
addi_row = 0

abbrev pub addis_row : ℕ
addis_row = 1

abbrev pub or_row : ℕ
or_row = 75

abbrev pub ori_row : ℕ
ori_row = 10

abbrev pub bclr_row : ℕ
bclr_row = 19

abbrev pub bcctr_row : ℕ
bcctr_row = 20

abbrev pub sync_row : ℕ
sync_row = 200

-- the extended mnemonics
abbrev pub extended_spellings : List Spelling
extended_spellings =
    extended (codes "li") addi_row Li
    ∷ extended (codes "lis") addis_row Lis
    ∷ extended (codes "mr") or_row Mr
    ∷ extended (codes "nop") ori_row Nop
    ∷ extended (codes "blr") bclr_row Always
    ∷ extended (codes "bctr") bcctr_row Always
    ∷ extended (codes "lwsync") sync_row Light
    ∷ extended (codes "ptesync") sync_row Tables
    ∷ []

-- all spellings; no two are one name
unfoldable pub spellings : List Spelling
spellings = spellings_from 0 table ++ extended_spellings

-- what a name means, if it is a mnemonic
unfoldable pub mnemonic_of : List ℕ → Option Mnemonic
mnemonic_of name = option_map (λ (spelling : Spelling). spelling.mnemonic) (find (λ (spelling : Spelling). bytes_eq spelling.name name) spellings)
