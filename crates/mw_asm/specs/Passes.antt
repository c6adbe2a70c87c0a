-- What the answers of the two passes say of a line and of a source.
use Rattle.std.specs.Prelude.{◌≡◌, ⊤, ℕ, ◌+◌, true, false, List, [], pos, ◌≤ℤ◌, Option, IfSome, IfOk, Result, Ok, Err}
use Rattle.std.specs.Result.{IsOkAnd}
use Rattle.std.specs.Option.{option_map_or}
use Rattle.mw_syntax.specs.declared.fault.What.TheVariants.{Label as LabelFault}
use Rattle.mw_asm.specs.declared.fault.Place.{Place}
use Rattle.mw_syntax.specs.declared.fault.Refusal.{Refusal}
use Rattle.mw_syntax.specs.declared.fault.LineFault.{LineFault}
use Rattle.mw_syntax.specs.declared.fault.LineFault.TheVariants.{Refused, NoMemory}
use Rattle.mw_asm.specs.declared.fault.AsmFault.{AsmFault}
use Rattle.mw_asm.specs.declared.fault.AsmFault.TheVariants.{Bad, NoMemory as AsmNoMemory}
use Rattle.mw_syntax.specs.declared.statement.Label.{Label}
use Rattle.mw_syntax.specs.declared.statement.Statement.{Statement}
use Rattle.mw_syntax.specs.declared.statement.Statement.TheVariants.{Nothing, Org, Data, Instruction}
use Rattle.mw_syntax.specs.declared.statement.Line.{Line}
use Rattle.mw_syntax.specs.Lines.{refusal, line_of}
use Rattle.mw_asm.specs.Values.{Placed, value_of}
use Rattle.mw_asm.specs.Labels.{AreSame}
use Rattle.mw_asm.specs.Assembled.{Pass, image_limit, with_label, is_twice, first_pass, lines_of}

-- a fault of the line of this number
abbrev pub fault_at : ℕ → LineFault → AsmFault
fault_at number (Refused refused) = Bad number refused.column refused.what
fault_at number NoMemory = AsmNoMemory

-- a fact on the refused place
abbrev pub IfBad : AsmFault → (Place → Type 0) → Type 0
IfBad (Bad line column what) P = P (record { line = line; column = column; what = what })
IfBad AsmNoMemory P = ⊤

-- the label of a line is added, or refused since it is there already
abbrev pub IsLabelled : Result (Unit {0}) LineFault → List Placed → List Placed → ℕ → List ℕ → Option Label → Type 0
IsLabelled (Ok done) old new at line label = (is_twice line label old ≡ false) × AreSame new (with_label line at label old)
IsLabelled (Err (Refused refused)) old new at line label = (is_twice line label old ≡ true) × (refused ≡ refusal LabelFault (option_map_or (λ (l : Label). l.from + 1) label 0))
IsLabelled (Err NoMemory) old new at line label = ⊤

-- the first pass goes on at an address with these labels
abbrev pub GoesOn : ℕ → List Placed → Pass → Type 0
GoesOn at labels pass = (pass.at ≡ at) × AreSame labels pass.known

-- the first pass goes on behind a line as the definition says, or the line is refused
abbrev pub IsPlaced : Result ℕ LineFault → List Placed → Result Pass Refusal → Type 0
IsPlaced (Ok next) labels said = IsOkAnd said (GoesOn next labels)
IsPlaced (Err (Refused refused)) labels said = said ≡ Err refused
IsPlaced (Err NoMemory) labels said = ⊤

-- where the first pass begins
abbrev pub start : Pass
start = record { at = 0; known = [] }

-- the first pass leaves these labels
abbrev pub LeavesLabels : List Placed → List ℕ → Type 0
LeavesLabels labels source = IsOkAnd (first_pass 1 start (lines_of source)) (AreSame labels)

-- the address of an `.org` lies in the image
abbrev pub IsInside : List Placed → ℕ → List ℕ → Statement → Type 0
IsInside labels at line Nothing = ⊤
IsInside labels at line (Org name to) = IfSome (value_of labels at line to) (λ value. (pos 0 ≤ℤ value) × (value ≤ℤ pos image_limit))
IsInside labels at line (Data name unit values) = ⊤
IsInside labels at line (Instruction name mnemonic operands) = ⊤

-- the address of an `.org` in a line lies in the image
abbrev pub LiesInside : List Placed → ℕ → List ℕ → Type 0
LiesInside labels at line = IfOk (line_of line) (λ (read : Line). IsInside labels at line read.statement)
