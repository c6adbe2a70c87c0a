-- A whole source. Its lines are read twice: the first pass places labels and finds what is refused before values are known, the second gives the bytes.
use Rattle.std.specs.Prelude.{ℕ, ◌+◌, ◌-◌, ◌*◌, ◌==◌, nat_lt, Bool, false, if◌then◌else◌, List, [], ◌∷◌, ◌++◌, ℤ, pos, int_lt, Option, Some, None, is_some, Result, Ok, Err, length, take, replicate, slice_get, unsigned_abs}
use Rattle.std.specs.Option.{option_map_or}
use Rattle.std.specs.List.{slice_split}
use Rattle.mw_tables.specs.Row.{TableRow}
use Rattle.mw_tables.specs.Rows.{table}
use Rattle.mw_tables.specs.Matching.{has_prefix}
use Rattle.mw_syntax.specs.declared.expression.Expression.{Expression}
use Rattle.mw_syntax.specs.declared.fault.What.TheVariants.{Label as LabelFault, Org as OrgFault, TooLong}
use Rattle.mw_syntax.specs.declared.fault.Refusal.{Refusal}
use Rattle.mw_asm.specs.declared.fault.Place.{Place}
use Rattle.mw_syntax.specs.declared.statement.Label.{Label}
use Rattle.mw_syntax.specs.declared.statement.Statement.{Statement}
use Rattle.mw_syntax.specs.declared.statement.Statement.TheVariants.{Nothing, Org, Data, Instruction}
use Rattle.mw_syntax.specs.declared.statement.Line.{Line}
use Rattle.mw_syntax.specs.Lines.{refusal, line_of}
use Rattle.mw_asm.specs.Values.{Placed, address_of, part_of, value_of, unit_size, data_bytes, instruction_bytes}

-- the lines of a source, without their line feeds
abbrev pub lines_of : List ℕ → List (List ℕ)
lines_of source = slice_split (λ byte. byte == 10) source

-- an image has at most 16,777,216 bytes
abbrev pub image_limit : ℕ
image_limit = 16777216

-- a source has at most 4 MiB
abbrev pub source_limit : ℕ
source_limit = 4194304

-- how many bytes an instruction has: 8 where its row has a prefix
abbrev pub code_size : ℕ → ℕ
code_size row = if has_prefix row then 8 else 4

-- the labels that are known, with the label of a line behind them if it has one
abbrev pub with_label : List ℕ → ℕ → Option Label → List Placed → List Placed
with_label line at None known = known
with_label line at (Some label) known = known ++ record { name = part_of line label.from label.to; address = at } ∷ []

-- the label of a line, if it has one, is defined already
abbrev pub is_twice : List ℕ → Option Label → List Placed → Bool
is_twice line None known = false
is_twice line (Some label) known = is_some (address_of known (part_of line label.from label.to))

-- the address behind `.org`: it is known, it doesn't fall, and it lies in the image
abbrev pub org_by : ℕ → ℕ → Expression → Option ℤ → Result ℕ Refusal
org_by at name to None = Err (refusal OrgFault to.column)
org_by at name to (Some value) =
    if int_lt value (pos at) then Err (refusal OrgFault to.column)
    else if int_lt (pos image_limit) value then Err (refusal TooLong name)
    else Ok (unsigned_abs value)

-- the address behind so many bytes, which lies in the image
abbrev pub behind_bytes : ℕ → ℕ → ℕ → Result ℕ Refusal
behind_bytes at name size = if nat_lt image_limit (at + size) then Err (refusal TooLong name) else Ok (at + size)

-- the address behind a statement, by the labels that are known
abbrev pub behind_statement : List Placed → ℕ → List ℕ → Statement → Result ℕ Refusal
behind_statement known at line Nothing = Ok at
behind_statement known at line (Org name to) = org_by at name to (value_of known at line to)
behind_statement known at line (Data name unit values) = behind_bytes at name (unit_size unit * length values)
behind_statement known at line (Instruction name mnemonic operands) = behind_bytes at name (code_size mnemonic.row)

-- where the first pass stands behind a line: the address and the labels that are known
pub record Pass : Type 0 where
  pub at : ℕ
  pub known : List Placed

-- a pass behind a line with these labels
abbrev pub at_address : List Placed → Result ℕ Refusal → Result Pass Refusal
at_address known (Ok at) = Ok (record { at = at; known = known })
at_address known (Err refused) = Err refused

-- the first pass over a line that isn't refused by itself: a label that is defined twice comes first
abbrev pub first_by : Pass → List ℕ → Result Line Refusal → Result Pass Refusal
first_by pass line (Ok read) =
    if is_twice line read.label pass.known then Err (refusal LabelFault (option_map_or (λ (label : Label). label.from + 1) read.label 0))
    else at_address (with_label line pass.at read.label pass.known) (behind_statement (with_label line pass.at read.label pass.known) pass.at line read.statement)
first_by pass line (Err refused) = Err refused

-- the first pass over a line
unfoldable pub first_line : Pass → List ℕ → Result Pass Refusal
first_line pass line = first_by pass line (line_of line)

-- a refusal of the line of this number
abbrev pub placed_at : ℕ → Refusal → Place
placed_at number refused = record { line = number; column = refused.column; what = refused.what }

-- what a line gives, or its refusal with its number
abbrev pub and_then : {A B : Type 0} → ℕ → Result A Refusal → (A → Result B Place) → Result B Place
and_then number (Ok value) others = others value
and_then number (Err refused) others = Err (placed_at number refused)

-- the labels of lines that are counted on, or the first refusal of the first pass
abbrev pub first_pass : ℕ → Pass → List (List ℕ) → Result (List Placed) Place
first_pass number pass [] = Ok pass.known
first_pass number pass (line ∷ lines) = and_then number (first_line pass line) (λ next. first_pass (number + 1) next lines)

-- the bytes of a statement at an address, the zeros that `.org` leaves among them, or what is refused of its values
abbrev pub statement_bytes : List Placed → ℕ → List ℕ → Statement → Result (List ℕ) Refusal
statement_bytes labels at line Nothing = Ok []
statement_bytes labels at line (Org name to) = Ok (replicate (option_map_or unsigned_abs (value_of labels at line to) at - at) 0)
statement_bytes labels at line (Data name unit values) = data_bytes labels at line unit values
statement_bytes labels at line (Instruction name mnemonic operands) = instruction_bytes labels at line name mnemonic operands.items

-- the bytes of a line at an address, by what the line is, or its refusal
abbrev pub second_by : List Placed → ℕ → List ℕ → Result Line Refusal → Result (List ℕ) Refusal
second_by labels at line (Ok read) = statement_bytes labels at line read.statement
second_by labels at line (Err refused) = Err refused

-- the bytes of a line at an address
unfoldable pub second_line : List Placed → ℕ → List ℕ → Result (List ℕ) Refusal
second_line labels at line = second_by labels at line (line_of line)

-- bytes in front of others, unless those are refused
abbrev pub in_front : List ℕ → Result (List ℕ) Place → Result (List ℕ) Place
in_front bytes (Ok others) = Ok (bytes ++ others)
in_front bytes (Err place) = Err place

-- the bytes of lines that are counted on, or the first refusal of the second pass
abbrev pub second_pass : ℕ → List Placed → ℕ → List (List ℕ) → Result (List ℕ) Place
second_pass number labels at [] = Ok []
second_pass number labels at (line ∷ lines) = and_then number (second_line labels at line) (λ bytes. in_front bytes (second_pass (number + 1) labels (at + length bytes) lines))

-- the bytes of the second pass over the lines of a source by the labels of the first pass, or the place that this refused
abbrev pub both_passes : List (List ℕ) → Result (List Placed) Place → Result (List ℕ) Place
both_passes lines (Ok labels) = second_pass 1 labels 0 lines
both_passes lines (Err place) = Err place

-- the last of lines
abbrev pub last_of : List (List ℕ) → List ℕ
last_of [] = []
last_of (line ∷ []) = line
last_of (line ∷ next ∷ lines) = last_of (next ∷ lines)

-- the place of the first byte past the limit of a source
abbrev pub place_past : List ℕ → Place
place_past source = record { line = length (lines_of (take source_limit source)); column = length (last_of (lines_of (take source_limit source))) + 1; what = TooLong }

-- the bytes of a source, or its first refused place
unfoldable pub assembled : List ℕ → Result (List ℕ) Place
assembled source = if nat_lt source_limit (length source) then Err (place_past source) else both_passes (lines_of source) (first_pass 1 (record { at = 0; known = [] }) (lines_of source))
