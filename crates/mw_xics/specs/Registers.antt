-- The controller's registers, big-endian (LoPAR, interrupt presentation layer; offsets as in Microwatt's `xics.vhdl`; which widths answer is this board's own).
use Rattle.std.specs.Prelude.{ℕ, ◌+◌, ◌-◌, ◌*◌, ◌/◌, ◌%◌, ◌==◌, Bool, ◌&&◌, if◌then◌else◌, nat_lt, nat_le, List, [], ◌∷◌, length, replicate, slice_index, slice_set}
use Rattle.std.specs.Int.{w32, to_be_bytes}
use Rattle.mw_xics.specs.declared.register.Register.{Register}
use Rattle.mw_xics.specs.declared.register.Register.TheVariants.{Poll, Xirr, Mfrr, Priority, Unused}
use Rattle.mw_xics.specs.XicsData.{XicsData, line_count}
use Rattle.mw_xics.specs.Pending.{xirr, accepted}

-- the offset at which the priorities of the lines begin, 4 bytes each
abbrev pub priorities_start : ℕ
priorities_start = 0x1800

-- whether a line's priority begins at an offset
abbrev pub is_priority : ℕ → Bool
is_priority at = nat_le priorities_start at && nat_lt at (priorities_start + 4 * line_count) && at % 4 == 0

-- the register that begins at an offset
abbrev pub register_at : ℕ → Register
register_at at =
    if at == 0x0 then Poll
    else if at == 0x4 then Xirr
    else if at == 0xC then Mfrr
    else if is_priority at then Priority ((at - priorities_start) / 4)
    else Unused

-- what a load of 4 bytes gives: XIRR at both of its offsets, MFRR as the first byte, a priority as the last
abbrev pub word_of : XicsData → Bool → Register → List ℕ
word_of xics line Poll = to_be_bytes w32 (xirr xics line)
word_of xics line Xirr = to_be_bytes w32 (xirr xics line)
word_of xics line Mfrr = xics.mfrr ∷ 0 ∷ 0 ∷ 0 ∷ []
word_of xics line (Priority number) = 0 ∷ 0 ∷ 0 ∷ slice_index xics.priorities number ∷ []
word_of xics line Unused = 0 ∷ 0 ∷ 0 ∷ 0 ∷ []

-- what a load of one byte gives: CPPR at both offsets of XIRR, and MFRR
abbrev pub byte_of : XicsData → Register → ℕ
byte_of xics Poll = xics.cppr
byte_of xics Xirr = xics.cppr
byte_of xics Mfrr = xics.mfrr
byte_of xics (Priority number) = 0
byte_of xics Unused = 0

-- what a load of a width gives at a register: zeros where that is neither 4 nor 1
abbrev pub bytes_of : XicsData → Bool → Register → ℕ → List ℕ
bytes_of xics line register width =
    if width == 4 then word_of xics line register
    else if width == 1 then byte_of xics register ∷ []
    else replicate width 0

-- the bytes that a load at an offset gives, with line 0 on or off
unfoldable pub xics_loaded : XicsData → ℕ → ℕ → Bool → List ℕ
xics_loaded xics at width line = bytes_of xics line (register_at at) width

-- the controller after a load of 4 bytes, which accepts at XIRR's second offset
abbrev pub after_word : XicsData → Bool → Register → XicsData
after_word xics line Poll = xics
after_word xics line Xirr = accepted xics line
after_word xics line Mfrr = xics
after_word xics line (Priority number) = xics
after_word xics line Unused = xics

-- the controller after a load
unfoldable pub after_xics_load : XicsData → ℕ → ℕ → Bool → XicsData
after_xics_load xics at width line = if width == 4 then after_word xics line (register_at at) else xics

-- the controller after a store of one byte, which CPPR or MFRR takes
abbrev pub with_byte : XicsData → Register → ℕ → XicsData
with_byte xics Poll byte = xics
with_byte xics Xirr byte = record xics { cppr = byte }
with_byte xics Mfrr byte = record xics { mfrr = byte }
with_byte xics (Priority number) byte = xics
with_byte xics Unused byte = xics

-- the controller after a store of 4 bytes: CPPR (at the end of an interrupt) and MFRR take the first, a priority the last
abbrev pub with_word : XicsData → Register → ℕ → ℕ → XicsData
with_word xics Poll first last = xics
with_word xics Xirr first last = record xics { cppr = first }
with_word xics Mfrr first last = record xics { mfrr = first }
with_word xics (Priority number) first last = record xics { priorities = slice_set xics.priorities number last }
with_word xics Unused first last = xics

-- the controller after a store of bytes
unfoldable pub after_xics_store : XicsData → ℕ → List ℕ → XicsData
after_xics_store xics at bytes =
    if length bytes == 4 then with_word xics (register_at at) (slice_index bytes 0) (slice_index bytes 3)
    else if length bytes == 1 then with_byte xics (register_at at) (slice_index bytes 0)
    else xics
