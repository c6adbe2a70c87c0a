-- The summary of a run that was made from a seed.
use Rattle.std.specs.Prelude.{ℕ, ◌%◌, ◌^◌, Bool, true, false, List, [], ◌∷◌, ◌++◌, sum, count_by, codes, decimal}
use Rattle.mw_digits.specs.Digits.{hex}
use Rattle.mw_isa.specs.declared.event.Event.{Event}
use Rattle.mw_isa.specs.declared.event.Event.TheVariants.{Retire, Trap, Irq}
use Rattle.mw_isa.specs.declared.event.End.{End}
use Rattle.mw_isa.specs.Text.{line, end_line}

-- an instruction took effect
abbrev pub is_retirement : Event → Bool
is_retirement (Retire cycle cia word suffix) = true
is_retirement (Trap cycle cia vector) = false
is_retirement (Irq cycle nia vector) = false

-- an instruction raised an interrupt
abbrev pub is_trap : Event → Bool
is_trap (Retire cycle cia word suffix) = false
is_trap (Trap cycle cia vector) = true
is_trap (Irq cycle nia vector) = false

-- an interrupt came between two instructions
abbrev pub is_interrupt : Event → Bool
is_interrupt (Retire cycle cia word suffix) = false
is_interrupt (Trap cycle cia vector) = false
is_interrupt (Irq cycle nia vector) = true

-- contents added modulo 2^64
abbrev pub sum_of : List ℕ → ℕ
sum_of contents = sum contents % 2 ^ 64

-- the line of a name and a number in decimal digits
abbrev pub number_line : List ℕ → ℕ → List ℕ
number_line name number = line (name ∷ decimal number ∷ [])

-- the lines of how many instructions retired, how many trapped, and how many interrupts were taken
abbrev pub count_lines : List Event → List ℕ
count_lines events =
    number_line (codes "retired") (count_by is_retirement events)
    ++ number_line (codes "trapped") (count_by is_trap events)
    ++ number_line (codes "interrupted") (count_by is_interrupt events)

-- the line of the sum of the general purpose registers' contents
abbrev pub sum_line : List ℕ → List ℕ
sum_line gpr = line (codes "sum" ∷ hex 16 (sum_of gpr) ∷ [])

-- the summary of a run: its seed, its cycles, its events by their kinds, its end, and the sum of r0 to r31 at its end
unfoldable pub summary_of : ℕ → ℕ → List Event → End → List ℕ → List ℕ
summary_of seed cycles events end gpr =
    number_line (codes "gen") seed
    ++ number_line (codes "cycles") cycles
    ++ count_lines events
    ++ end_line end
    ++ sum_line gpr
