-- What holds of the bytes of each script.
use Rattle.std.specs.Prelude.{ℕ, ◌<◌, ◌≤◌, List, [], ◌∷◌, ⊤}
use Rattle.mw_uart.specs.declared.script.BadScript.{BadScript}
use Rattle.mw_uart.specs.declared.script.BadScript.TheVariants.{Bad, NoMemory}
use Rattle.mw_uart.specs.Script.{Place}

-- the cycles rise from the first number to the last one or stay, and each byte is one
abbrev pub RisesTo : ℕ → ℕ → List (ℕ × ℕ) → Type 0
RisesTo low high [] = low ≤ high
RisesTo low high (pair ∷ rest) = (low ≤ pair.0) × (pair.1 < 256) × RisesTo pair.0 high rest

-- a fact on the refused place of a text; want of memory says nothing
abbrev pub IfBad : BadScript → (Place → Type 0) → Type 0
IfBad (Bad line column) P = P (record { line = line; column = column })
IfBad NoMemory P = ⊤

-- none of the cycles is below the one in front of it, or the first below this number
abbrev pub DontFall : ℕ → List (ℕ × ℕ) → Type 0
DontFall low [] = ⊤
DontFall low (pair ∷ rest) = (low ≤ pair.0) × DontFall pair.0 rest
