-- The operands with which a row is an illegal form (Book I, fixed-point load and store, branch and add instructions; Book II, time base).
use Rattle.std.specs.Prelude.{ℕ, ◌/◌, ◌%◌, ◌==◌, Bool, true, false, not, ◌&&◌, ◌||◌, if◌then◌else◌, List, [], ◌∷◌, ℤ, pos, map, slice_get, codes, bytes_eq}
use Rattle.std.specs.Ordering.{int_eq}
use Rattle.std.specs.Option.{option_map_or}
use Rattle.std.specs.List.{list_any}
use Rattle.std.specs.Int.{w64, cast_unsigned}
use Rattle.mw_tables.specs.declared.row.Shape.{Shape}
use Rattle.mw_tables.specs.declared.row.Shape.TheVariants.{RtDRa, RtRaRb, RtDRaR, RtRaSiR}
use Rattle.mw_tables.specs.Row.{TableRow}
use Rattle.mw_tables.specs.Rows.{table}
use Rattle.mw_tables.specs.Layouts.{operand_at}
use Rattle.mw_decode.specs.declared.rule.Rule.{Rule}
use Rattle.mw_decode.specs.declared.rule.Rule.TheVariants.{AlwaysLegal, LoadUpdate, StoreUpdate, CountBranch, CarryKind, TimeBase, Relative}

-- the loads with update
abbrev pub loads_with_update : List (List ℕ)
loads_with_update =
    codes "lwzu" ∷ codes "lbzu" ∷ codes "lhzu" ∷ codes "lhau" ∷ codes "ldu"
    ∷ codes "ldux" ∷ codes "lwzux" ∷ codes "lbzux" ∷ codes "lhzux" ∷ codes "lwaux" ∷ codes "lhaux" ∷ []

-- the stores with update
abbrev pub stores_with_update : List (List ℕ)
stores_with_update =
    codes "stwu" ∷ codes "stbu" ∷ codes "sthu" ∷ codes "stdu"
    ∷ codes "stdux" ∷ codes "stwux" ∷ codes "stbux" ∷ codes "sthux" ∷ []

-- the name is one of these
abbrev pub is_one_of : List (List ℕ) → List ℕ → Bool
is_one_of names name = list_any (bytes_eq name) names

-- the place of RA among the operands, in the lists that a rule asks
abbrev pub base_place : Shape → ℕ
base_place RtDRa = 2
base_place RtRaRb = 1
base_place RtDRaR = 2
base_place RtRaSiR = 1
base_place other = 0

-- the row has an operand R that asks for an address relative to the prefix
abbrev pub is_relative : Shape → Bool
is_relative RtDRaR = true
is_relative RtRaSiR = true
is_relative other = false

-- the rule of a row, by its name and its operands
abbrev pub rule_of : TableRow → Rule
rule_of row =
    if is_one_of loads_with_update row.name then LoadUpdate (base_place row.shape)
    else if is_one_of stores_with_update row.name then StoreUpdate (base_place row.shape)
    else if bytes_eq row.name (codes "bcctr") then CountBranch
    else if bytes_eq row.name (codes "addex") then CarryKind
    else if bytes_eq row.name (codes "mftb") then TimeBase
    else if is_relative row.shape then Relative (base_place row.shape)
    else AlwaysLegal

-- the rule of each row, in the order of the table
unfoldable pub row_rules : List Rule
row_rules = map rule_of table

-- the operand at a place is this number
abbrev pub is_operand : List ℤ → ℕ → ℕ → Bool
is_operand operands place number = int_eq (operand_at operands place) (pos number)

-- BO2, the third of the five bits of BO, is 0: CTR counts
abbrev pub counts : ℤ → Bool
counts bo = cast_unsigned w64 bo / 4 % 2 == 0

-- the operands are an illegal form; where a rule names a place it is that of RA, and RT is the first operand
abbrev pub is_illegal : Rule → List ℤ → Bool
is_illegal AlwaysLegal operands = false
-- RA is 0 or RT
is_illegal (LoadUpdate place) operands = is_operand operands place 0 || int_eq (operand_at operands place) (operand_at operands 0)
-- RA is 0
is_illegal (StoreUpdate place) operands = is_operand operands place 0
-- the target is CTR itself, which would count
is_illegal CountBranch operands = counts (operand_at operands 0)
-- CY is another carry than OV
is_illegal CarryKind operands = not (is_operand operands 3 0)
-- TBR is neither the time base nor its upper half
is_illegal TimeBase operands = not (is_operand operands 1 268) && not (is_operand operands 1 269)
-- R is 1 and RA isn't 0
is_illegal (Relative place) operands = is_operand operands 3 1 && not (is_operand operands place 0)

-- the row at a place is illegal with these operands
abbrev pub is_illegal_form : ℕ → List ℤ → Bool
is_illegal_form place operands = option_map_or (λ rule. is_illegal rule operands) (slice_get row_rules place) false
