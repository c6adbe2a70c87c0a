-- The formats of instructions: which bits of a word, or of a suffix, hold the primary opcode and the extended code (Book I, instruction formats). Bits are numbered from the left of the 32.
use Rattle.std.specs.Prelude.{ℕ, List, [], ◌∷◌}
use Rattle.mw_tables.specs.Row.{Fixed}

-- a number in the bits from first to last
abbrev pub code : ℕ → ℕ → ℕ → List Fixed → List Fixed
code first last number more = record { first = first; last = last; number = number } ∷ more

-- the primary opcode alone: the formats D, I, B and M, and every suffix
abbrev pub d : ℕ → List Fixed
d opcode = code 0 5 opcode []

-- DX
abbrev pub dx : ℕ → ℕ → List Fixed
dx opcode extended = code 0 5 opcode (code 26 30 extended [])

-- DS
abbrev pub ds : ℕ → ℕ → List Fixed
ds opcode extended = code 0 5 opcode (code 30 31 extended [])

-- X, XL and XFX
abbrev pub x : ℕ → ℕ → List Fixed
x opcode extended = code 0 5 opcode (code 21 30 extended [])

-- X where bit 31 is 1 and no choice
abbrev pub x_dot : ℕ → ℕ → List Fixed
x_dot opcode extended = code 0 5 opcode (code 21 30 extended (code 31 31 1 []))

-- XFX where bit 11 is 0: all fields of CR
abbrev pub xfx_all : ℕ → ℕ → List Fixed
xfx_all opcode extended = code 0 5 opcode (code 21 30 extended (code 11 11 0 []))

-- XFX where bit 11 is 1: the fields of CR that FXM chooses
abbrev pub xfx_one : ℕ → ℕ → List Fixed
xfx_one opcode extended = code 0 5 opcode (code 21 30 extended (code 11 11 1 []))

-- XO
abbrev pub xo : ℕ → ℕ → List Fixed
xo opcode extended = code 0 5 opcode (code 22 30 extended [])

-- XS
abbrev pub xs : ℕ → ℕ → List Fixed
xs opcode extended = code 0 5 opcode (code 21 29 extended [])

-- A
abbrev pub a : ℕ → ℕ → List Fixed
a opcode extended = code 0 5 opcode (code 26 30 extended [])

-- Z23
abbrev pub z23 : ℕ → ℕ → List Fixed
z23 opcode extended = code 0 5 opcode (code 23 30 extended [])

-- MD
abbrev pub md : ℕ → ℕ → List Fixed
md opcode extended = code 0 5 opcode (code 27 29 extended [])

-- MDS
abbrev pub mds : ℕ → ℕ → List Fixed
mds opcode extended = code 0 5 opcode (code 27 30 extended [])

-- VA
abbrev pub va : ℕ → ℕ → List Fixed
va opcode extended = code 0 5 opcode (code 26 31 extended [])

-- SC: bit 30 is 1
abbrev pub sc : ℕ → List Fixed
sc opcode = code 0 5 opcode (code 30 30 1 [])
