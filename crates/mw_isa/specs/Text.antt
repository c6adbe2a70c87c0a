-- The text of a run: lines of words, each line ended by a line feed.
use Rattle.std.specs.Prelude.{ℕ, ◌+◌, ◌-◌, ◌*◌, ◌/◌, min, List, [], ◌∷◌, ◌++◌, take, drop, Option, Some, None, map, codes, decimal, slice_index}
use Rattle.std.specs.List.{flat_map, join_with_byte, enumerate_from, range_with_len}
use Rattle.mw_isa.specs.declared.access.Kind.{Kind}
use Rattle.mw_isa.specs.declared.access.Kind.TheVariants.{Fetch, Load, Store}
use Rattle.mw_isa.specs.declared.access.Span.{Span}
use Rattle.mw_isa.specs.declared.event.Event.{Event}
use Rattle.mw_isa.specs.declared.event.Event.TheVariants.{Retire, Trap, Irq}
use Rattle.mw_isa.specs.declared.event.End.{End}
use Rattle.mw_isa.specs.declared.event.End.TheVariants.{Ran, Offence}
use Rattle.mw_isa.specs.declared.offence.BlockStatus.{BlockStatus}
use Rattle.mw_isa.specs.declared.offence.BlockStatus.TheVariants.{Changed, Invalidated}
use Rattle.mw_isa.specs.declared.offence.Fresh.{Fresh}
use Rattle.mw_isa.specs.declared.offence.Fresh.TheVariants.{Page, Fault}
use Rattle.mw_isa.specs.declared.offence.Why.{Why}
use Rattle.mw_isa.specs.declared.offence.Why.TheVariants.{Page as KeptPage, Block}
use Rattle.mw_isa.specs.declared.regs.Regs.{Regs}
use Rattle.mw_digits.specs.Digits.{hex}
use Rattle.mw_soc.specs.DeviceData.{DeviceData}
use Rattle.mw_soc.specs.Devices.{dec_of}
use Rattle.mw_isa.specs.Vectors.{address_of}
use Rattle.mw_isa.specs.State.{State}

-- words joined by blanks, and a line feed
unfoldable pub line : List (List ℕ) → List ℕ
line words = join_with_byte 32 words ++ 10 ∷ []

-- the words of an event's line
abbrev pub event_words : Event → List (List ℕ)
event_words (Retire cycle cia word None) = codes "R" ∷ decimal cycle ∷ hex 16 cia ∷ hex 8 word ∷ []
event_words (Retire cycle cia word (Some suffix)) = codes "R" ∷ decimal cycle ∷ hex 16 cia ∷ hex 8 word ∷ hex 8 suffix ∷ []
event_words (Trap cycle cia vector) = codes "T" ∷ decimal cycle ∷ hex 16 cia ∷ hex 4 (address_of vector) ∷ []
event_words (Irq cycle nia vector) = codes "I" ∷ decimal cycle ∷ hex 16 nia ∷ hex 4 (address_of vector) ∷ []

-- the word of what an access is for
abbrev pub kind_word : Kind → List ℕ
kind_word Fetch = codes "fetch"
kind_word Load = codes "load"
kind_word Store = codes "store"

-- the word of what was done to a block
abbrev pub status_word : BlockStatus → List ℕ
status_word Changed = codes "changed"
status_word Invalidated = codes "invalidated"

-- the words of what a page comes to by the tables
abbrev pub fresh_words : Fresh → List (List ℕ)
fresh_words (Page real) = hex 16 real ∷ []
fresh_words (Fault vector) = codes "fault" ∷ hex 4 (address_of vector) ∷ []

-- the words of why an access breaks the update discipline
abbrev pub why_words : Why → List (List ℕ)
why_words (KeptPage kept fresh) = codes "page" ∷ hex 16 kept ∷ fresh_words fresh
why_words (Block block status) = codes "block" ∷ hex 16 block ∷ status_word status ∷ []

-- the words of the end's line
abbrev pub end_words : End → List (List ℕ)
end_words (Ran cycle) = codes "end" ∷ codes "ran" ∷ decimal cycle ∷ []
end_words (Offence cycle access) = codes "end" ∷ codes "offence" ∷ decimal cycle ∷ kind_word access.kind ∷ hex 16 access.ea ∷ why_words access.why

-- the words of a general purpose register's line
abbrev pub gpr_words : ℕ × ℕ → List (List ℕ)
gpr_words (number, content) = (codes "r" ++ decimal number) ∷ hex 16 content ∷ []

-- a name and a content in so many digits
abbrev pub named : List ℕ → ℕ → ℕ → List (List ℕ)
named name digits content = name ∷ hex digits content ∷ []

-- the words of the lines of the registers that a program computes with, its address and its state
unfoldable pub program_words : Regs → List (List (List ℕ))
program_words regs =
    named (codes "cr") 8 regs.cr
    ∷ named (codes "xer") 16 regs.xer
    ∷ named (codes "lr") 16 regs.lr
    ∷ named (codes "ctr") 16 regs.ctr
    ∷ named (codes "tar") 16 regs.tar
    ∷ named (codes "cia") 16 regs.cia
    ∷ named (codes "msr") 16 regs.msr
    ∷ []

-- the words of the lines of the registers that interrupts write, of the decrementer and of the process ID
unfoldable pub interrupt_words : Regs → DeviceData → List (List (List ℕ))
interrupt_words regs devices =
    named (codes "srr0") 16 regs.srr0
    ∷ named (codes "srr1") 16 regs.srr1
    ∷ named (codes "hsrr0") 16 regs.hsrr0
    ∷ named (codes "hsrr1") 16 regs.hsrr1
    ∷ named (codes "dar") 16 regs.dar
    ∷ named (codes "dsisr") 8 regs.dsisr
    ∷ named (codes "dec") 8 (dec_of devices)
    ∷ named (codes "pidr") 8 regs.pidr
    ∷ []

-- the words of the lines of the software-use registers and of the process table register
unfoldable pub software_words : Regs → List (List (List ℕ))
software_words regs =
    named (codes "sprg0") 16 (slice_index regs.sprg 0)
    ∷ named (codes "sprg1") 16 (slice_index regs.sprg 1)
    ∷ named (codes "sprg2") 16 (slice_index regs.sprg 2)
    ∷ named (codes "sprg3") 16 (slice_index regs.sprg 3)
    ∷ named (codes "hsprg0") 16 (slice_index regs.hsprg 0)
    ∷ named (codes "hsprg1") 16 (slice_index regs.hsprg 1)
    ∷ named (codes "prtbl") 16 regs.prtbl
    ∷ []

-- the words of the special registers' lines
abbrev pub special_words : Regs → DeviceData → List (List (List ℕ))
special_words regs devices = program_words regs ++ interrupt_words regs devices ++ software_words regs

-- bytes in two hexadecimal digits each
unfoldable pub hex_bytes : List ℕ → List ℕ
hex_bytes bytes = flat_map (hex 2) bytes

-- the bytes that the UART sent, or a minus where there is none
abbrev pub sent_word : List ℕ → List ℕ
sent_word [] = codes "-"
sent_word (first ∷ others) = hex_bytes (first ∷ others)

-- the words of the UART's line
abbrev pub uart_words : DeviceData → List (List ℕ)
uart_words devices = codes "uart" ∷ sent_word devices.uart.output ∷ []

-- the words of the lines behind the end's, up to a dump's
abbrev pub state_words : State → List (List (List ℕ))
state_words state = map gpr_words (enumerate_from 0 state.regs.gpr) ++ special_words state.regs state.devices ++ uart_words state.devices ∷ []

-- the words of line k of a dump: its first byte's address, and its bytes, 32 or what is left of the dump
unfoldable pub row_words : List ℕ → Span → ℕ → List (List ℕ)
row_words ram span k = codes "m" ∷ hex 16 (span.at + 32 * k) ∷ hex_bytes (take (min 32 (span.len - 32 * k)) (drop (span.at + 32 * k) ram)) ∷ []

-- the words of the lines of a dump of RAM
unfoldable pub dump_words : List ℕ → Span → List (List (List ℕ))
dump_words ram span = map (row_words ram span) (range_with_len 0 ((span.len + 31) / 32))

-- the words of the lines of the dump, if one is asked for
abbrev pub asked_words : List ℕ → Option Span → List (List (List ℕ))
asked_words ram None = []
asked_words ram (Some span) = dump_words ram span

-- the lines of events
abbrev pub event_lines : List Event → List ℕ
event_lines events = flat_map line (map event_words events)

-- the line of an end
abbrev pub end_line : End → List ℕ
end_line end = line (end_words end)

-- the lines behind the end's: the registers, the UART, and the dump that is asked for
abbrev pub state_lines : State → Option Span → List ℕ
state_lines state dump = flat_map line (state_words state ++ asked_words state.ram dump)

-- the text of a run: the lines of its events and of its end, and those of the state at its end
unfoldable pub text_of : List Event → End → State → Option Span → List ℕ
text_of events end state dump = event_lines events ++ end_line end ++ state_lines state dump
