-- Which interrupt is pending (LoPAR, interrupt controller; ties are this board's own).
use Rattle.std.specs.Prelude.{ℕ, ◌+◌, ◌*◌, ◌^◌, ◌==◌, Bool, not, if◌then◌else◌, nat_lt, nat_le, Option, None, Some, List, [], ◌∷◌, map, filter, slice_index}
use Rattle.std.specs.Option.{option_map_or}
use Rattle.mw_xics.specs.XicsData.{XicsData, masked}

-- the source of the interprocessor interrupt
abbrev pub interprocessor : ℕ
interprocessor = 2

-- the source of a line
abbrev pub source_of : ℕ → ℕ
source_of line = 16 + line

-- the lines that are on: of the sixteen only line 0, the UART's, can be
abbrev pub lines_on : Bool → List ℕ
lines_on line = if line then 0 ∷ [] else []

-- the candidates, each its priority and its source: the interprocessor interrupt, and behind it the lines that are on
abbrev pub candidates_of : XicsData → Bool → List (ℕ × ℕ)
candidates_of xics line =
    (xics.mfrr, interprocessor) ∷ map (λ n. (slice_index xics.priorities n, source_of n)) (lines_on line)

-- whether a candidate isn't masked
abbrev pub is_open : ℕ × ℕ → Bool
is_open candidate = not (candidate.0 == masked)

-- the better of a candidate and the best of those behind it: the one of the lesser number, or the first where they are alike
abbrev pub better_of : ℕ × ℕ → Option (ℕ × ℕ) → Option (ℕ × ℕ)
better_of candidate None = Some candidate
better_of candidate (Some other) = if nat_le candidate.0 other.0 then Some candidate else Some other

-- the best of some candidates, if there is one
abbrev pub best_of : List (ℕ × ℕ) → Option (ℕ × ℕ)
best_of [] = None
best_of (candidate ∷ rest) = better_of candidate (best_of rest)

-- a candidate where its priority is below CPPR, and else none
abbrev pub below : ℕ → Option (ℕ × ℕ) → Option (ℕ × ℕ)
below cppr None = None
below cppr (Some candidate) = if nat_lt candidate.0 cppr then Some candidate else None

-- the priority and the source of the pending interrupt, with line 0 on or off: the best candidate that isn't masked, where it is below CPPR
unfoldable pub pending_of : XicsData → Bool → Option (ℕ × ℕ)
pending_of xics line = below xics.cppr (best_of (filter is_open (candidates_of xics line)))

-- the pending source, or 0 where nothing is pending
abbrev pub pending_source : XicsData → Bool → ℕ
pending_source xics line = option_map_or (λ candidate. candidate.1) (pending_of xics line) 0

-- XIRR, a number of 32 bits: CPPR above the pending source
abbrev pub xirr : XicsData → Bool → ℕ
xirr xics line = xics.cppr * 2 ^ 24 + pending_source xics line

-- the controller once the pending interrupt is accepted: CPPR is its priority, and stays where nothing is pending
abbrev pub accepted : XicsData → Bool → XicsData
accepted xics line = record xics { cppr = option_map_or (λ candidate. candidate.0) (pending_of xics line) xics.cppr }
