-- What only this crate's proofs need.
use Rattle.std.specs.Prelude.{ℕ, ◌<◌, ⊤, Bool, nat_le, if◌then◌else◌, List, slice_index}
use Rattle.mw_xics.specs.declared.register.Register.{Register}
use Rattle.mw_xics.specs.declared.register.Register.TheVariants.{Poll, Xirr, Mfrr, Priority, Unused}
use Rattle.mw_xics.specs.XicsData.{XicsData, line_count, masked}
use Rattle.mw_xics.specs.Pending.{interprocessor, source_of}

-- a register that is a line's priority is that of one of the sixteen
abbrev pub IsLine : Register → Type 0
IsLine (Priority number) = number < line_count
IsLine Poll = ⊤
IsLine Xirr = ⊤
IsLine Mfrr = ⊤
IsLine Unused = ⊤

-- the priority of line 0, which is masked where the line is off
abbrev pub wired : XicsData → Bool → ℕ
wired xics line = if line then slice_index xics.priorities 0 else masked

-- the better of the interprocessor interrupt and line 0, masked or not
abbrev pub better : XicsData → Bool → ℕ × ℕ
better xics line =
    if nat_le xics.mfrr (wired xics line) then (xics.mfrr, interprocessor) else (wired xics line, source_of 0)

-- the data by its parts
abbrev pub parts : ℕ → ℕ → List ℕ → XicsData
parts cppr mfrr priorities = record { cppr = cppr; mfrr = mfrr; priorities = priorities }
