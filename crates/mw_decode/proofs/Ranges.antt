-- What is known of an instruction of the table, for the crates that carry it out.
use Rattle.std.proofs.Common.{◌≡◌, ℕ, ◌<◌, false, List, Some, None, Option, length, slice_get, IsSomeAnd, refl, sym, ap, ◌∙◌, subst, arith}
use Rattle.std.specs.Option.{option_map_or}
use Rattle.std.proofs.lemmas.Option.{slice_get_within}
use Rattle.mw_tables.specs.declared.layout.Layout.{Layout}
use Rattle.mw_tables.specs.Row.{TableRow}
use Rattle.mw_tables.specs.Rows.{lines, table, layouts, row_count}
use Rattle.mw_tables.specs.Layouts.{fields_of, shape_of, HasOperands}
use Rattle.mw_tables.proofs.Places.{row-layout}
use Rattle.mw_decode.specs.declared.insn.Insn.{Insn}
use Rattle.mw_decode.specs.declared.rule.Rule.{Rule}
use Rattle.mw_decode.specs.Rules.{row_rules, is_illegal}
use Rattle.mw_decode.specs.Decode.{IsInsn, HasForms}

at_value : {X : Type 0} (o : Option X) (x : X) (P : X → Type 0) → o ≡ Some x → IsSomeAnd o P → P x
at_value o x P e h = let moved = subst (λ p. IsSomeAnd p P) e h in moved

-- the operands of an instruction whose row is known
pub IsInsn-operands : (insn : Insn) (place : ℕ) (layout : Layout) → IsInsn insn → insn.row ≡ place → slice_get layouts place ≡ Some layout → HasOperands (fields_of layout) insn.ops.items
IsInsn-operands insn place layout is at there =
    at_value (slice_get layouts insn.row) layout (λ l. HasOperands (fields_of l) insn.ops.items) (ap (slice_get layouts) at ∙ there) is.operands

-- an instruction has only forms of its row
pub IsInsn-forms : (insn : Insn) (place : ℕ) (row : TableRow) → IsInsn insn → insn.row ≡ place → slice_get table place ≡ Some row → HasForms row insn
IsInsn-forms insn place row is at there =
    at_value (slice_get table insn.row) row (λ r. HasForms r insn) (ap (slice_get table) at ∙ there) is.forms

-- an instruction's row does not forbid its operands
pub IsInsn-legal : (insn : Insn) (place : ℕ) (rule : Rule) → IsInsn insn → insn.row ≡ place → slice_get row_rules place ≡ Some rule → is_illegal rule insn.ops.items ≡ false
IsInsn-legal insn place rule is at there =
    sym (ap (λ (o : Option Rule). option_map_or (λ r. is_illegal r insn.ops.items) o false) (ap (slice_get row_rules) at ∙ there)) ∙ is.legal

in_list : {X : Type 0} (o : Option X) (P : X → Type 0) (xs : List X) (i : ℕ) → slice_get xs i ≡ o → IsSomeAnd o P → i < length xs
in_list None P xs i e h = absurd h
in_list (Some x) P xs i e h = slice_get_within xs i x e

-- the table has so many rows
pub table_count : length table ≡ row_count
unfolding table lines
table_count = refl

-- an instruction's row is in the table
pub IsInsn-row : (insn : Insn) → IsInsn insn → insn.row < row_count
IsInsn-row insn is = omega (arith, in_list (slice_get table insn.row) (λ r. HasForms r insn) table insn.row refl is.forms, table_count)

with_layout : (insn : Insn) (row : TableRow) (layout : Option Layout) → slice_get table insn.row ≡ Some row → slice_get layouts insn.row ≡ layout → IsSomeAnd layout (λ l. HasOperands (fields_of l) insn.ops.items) → (l : Layout) × (shape_of l ≡ row.shape) × HasOperands (fields_of l) insn.ops.items
with_layout insn row None at laid has = absurd has
with_layout insn row (Some layout) at laid has = (layout, sym (row-layout insn.row row layout at laid), has)

-- the layout of an instruction's row has the operand list of the row, and gives the operands
pub IsInsn-layout : (insn : Insn) (row : TableRow) → IsInsn insn → slice_get table insn.row ≡ Some row → (layout : Layout) × (shape_of layout ≡ row.shape) × HasOperands (fields_of layout) insn.ops.items
IsInsn-layout insn row is at = with_layout insn row (slice_get layouts insn.row) at refl is.operands
