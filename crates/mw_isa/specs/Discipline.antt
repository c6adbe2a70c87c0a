-- The update discipline (Book II, storage synchronization and instruction cache management; the record is this board's own):
-- what is kept beside the machine of changed code and of translations, what an instruction does to it, and which access
-- breaks the discipline.
use Rattle.std.specs.Prelude.{ℕ, zero, suc, ⊤, ◌+◌, ◌-◌, ◌/◌, ◌%◌, ◌<◌, ◌≤◌, All, Bool, true, false, ◌||◌, if◌then◌else◌, nat_lt, List, [], ◌∷◌, Option, Some, None, Result, Ok, Err, is_some, map, option_map, replicate, slice_index_or, slice_set}
use Rattle.std.specs.List.{filter}
use Rattle.std.specs.Option.{option_or}
use Rattle.mw_bus.specs.Memory.{ram_size}
use Rattle.mw_isa.specs.declared.access.Deed.{Deed}
use Rattle.mw_isa.specs.declared.access.Deed.TheVariants.{Plain, Store, Icbi, Tlbie, Sync, NewTable}
use Rattle.mw_isa.specs.declared.access.Kind.{Kind}
use Rattle.mw_isa.specs.declared.access.Kind.TheVariants.{Fetch, Load, Store as Stores}
use Rattle.mw_isa.specs.declared.access.Span.{Span}
use Rattle.mw_isa.specs.declared.access.Touch.{Touch}
use Rattle.mw_isa.specs.declared.fetched.Fetched.{Fetched}
use Rattle.mw_isa.specs.declared.offence.Access.{Access}
use Rattle.mw_isa.specs.declared.offence.BlockStatus.{BlockStatus}
use Rattle.mw_isa.specs.declared.offence.BlockStatus.TheVariants.{Changed, Invalidated}
use Rattle.mw_isa.specs.declared.offence.Why.{Why}
use Rattle.mw_isa.specs.declared.offence.Why.TheVariants.{Block}
use Rattle.mw_isa.specs.declared.outcome.Outcome.{Outcome}
use Rattle.mw_isa.specs.declared.packet.Packet.{Packet}
use Rattle.mw_isa.specs.declared.pages.StorageFault.{StorageFault}
use Rattle.mw_isa.specs.declared.raised.Raised.{Raised}
use Rattle.mw_isa.specs.declared.regs.Regs.{Regs}
use Rattle.mw_isa.specs.declared.walk.KeptEntry.{KeptEntry}
use Rattle.mw_isa.specs.declared.walk.Translated.{Translated}
use Rattle.mw_isa.specs.Entries.{left_by, page_rule_in, stays, with_entry}
use Rattle.mw_isa.specs.Fetch.{suffix_of, word_of, word_page}
use Rattle.mw_isa.specs.Msr.{pr_place}
use Rattle.mw_isa.specs.Pages.{touch_of}
use Rattle.mw_isa.specs.State.{State}
use Rattle.mw_isa.specs.Raises.{Placed}
use Rattle.mw_isa.specs.Step.{Stepped, data_of, deed_at, step, touches_by}
use Rattle.mw_isa.specs.Translate.{is_translated, quadrant_of, real_found, translate_of}
use Rattle.mw_isa.specs.Xer.{has_bit}

-- what is kept beside the machine
pub record Kept : Type 0 where
  -- the status of each block of 64 bytes of RAM; none where it is clean
  pub blocks : List (Option BlockStatus)
  -- the translations that may be in use
  pub entries : List KeptEntry

-- how many blocks RAM has
abbrev pub block_count : ℕ
block_count = 262144

-- so many blocks, all clean
unfoldable pub clean_blocks : ℕ → List (Option BlockStatus)
clean_blocks n = replicate n None

-- at the start every block is clean, and no translation is in use
abbrev pub nothing_kept : Kept
nothing_kept = record { blocks = clean_blocks block_count; entries = [] }

-- the status of a block by its number
abbrev pub status_in : List (Option BlockStatus) → ℕ → Option BlockStatus
status_in blocks block = slice_index_or blocks block None

-- the status of a block of RAM, by its number: its real address divided by 64
abbrev pub status_of : Kept → ℕ → Option BlockStatus
status_of kept block = status_in kept.blocks block

-- so many blocks from one on are changed
abbrev pub changed_from : ℕ → ℕ → List (Option BlockStatus) → List (Option BlockStatus)
changed_from zero first blocks = blocks
changed_from (suc n) first blocks = changed_from n (first + 1) (slice_set blocks first (Some Changed))

-- how many blocks the bytes of a stretch of RAM lie in
abbrev pub blocks_in : Span → ℕ
blocks_in span = (span.at + span.len + 63) / 64 - span.at / 64

-- the blocks in which bytes of stretches of RAM lie are changed
abbrev pub changed_by : List Span → List (Option BlockStatus) → List (Option BlockStatus)
changed_by [] blocks = blocks
changed_by (span ∷ spans) blocks = changed_by spans (changed_from (blocks_in span) (span.at / 64) blocks)

-- the status of a block of which the instructions' copy is given up: that of a changed one is invalidated
abbrev pub given_up : Option BlockStatus → Option BlockStatus
given_up (Some Changed) = Some Invalidated
given_up status = status

-- the copy of a block among the instructions is given up
abbrev pub invalidated_at : ℕ → List (Option BlockStatus) → List (Option BlockStatus)
invalidated_at block blocks = slice_set blocks block (given_up (status_in blocks block))

-- the status of a block behind a synchronizing event: an invalidated one is clean
abbrev pub cleaned : Option BlockStatus → Option BlockStatus
cleaned (Some Invalidated) = None
cleaned status = status

-- the fetch of an instruction at an address, as an access
abbrev pub fetch_touch : ℕ → Touch
fetch_touch at = touch_of (word_page at)

-- the accesses of an instruction: its fetch, and then those to data
abbrev pub accesses_of : Packet → List Touch
accesses_of packet = fetch_touch packet.cia ∷ packet.touches.items

-- the accesses of an instruction whose translations are kept: all of one that retires, and of one that raises an interrupt
-- its fetch alone
abbrev pub used_by : Packet → List Touch
used_by packet = fetch_touch packet.cia ∷ (if is_some packet.trap then [] else packet.touches.items)

-- translations that are kept and one more, if there is one
abbrev pub with_some : Option KeptEntry → List KeptEntry → List KeptEntry
with_some None entries = entries
with_some (Some entry) entries = with_entry entry entries

-- the translation that may be kept of what an access came to, if there is one
abbrev pub entry_in : Result Translated StorageFault → Option KeptEntry
entry_in (Ok there) = there.kept
entry_in (Err fault) = None

-- translations that are kept, and those of accesses, by the registers and RAM
abbrev pub with_used : List ℕ → Regs → List Touch → List KeptEntry → List KeptEntry
with_used ram regs [] entries = entries
with_used ram regs (touch ∷ touches) entries = with_used ram regs touches (with_some (entry_in (translate_of ram regs touch.kind touch.ea)) entries)

-- first: what is kept behind the accesses of an instruction, by the registers and RAM before it
abbrev pub used_kept : List ℕ → Regs → Packet → Kept → Kept
used_kept ram regs packet kept = record kept { entries = with_used ram regs (used_by packet) kept.entries }

-- the blocks behind a deed
abbrev pub deed_blocks : Deed → List (Option BlockStatus) → List (Option BlockStatus)
deed_blocks (Store spans) blocks = changed_by spans.items blocks
deed_blocks (Icbi block) blocks = invalidated_at block blocks
deed_blocks deed blocks = blocks

-- the translations behind a deed
abbrev pub deed_entries : Deed → List KeptEntry → List KeptEntry
deed_entries (Tlbie scope) entries = map (left_by scope) entries
deed_entries NewTable entries = []
deed_entries deed entries = entries

-- second: what is kept behind a deed
abbrev pub deed_kept : Deed → Kept → Kept
deed_kept deed kept = record { blocks = deed_blocks deed kept.blocks; entries = deed_entries deed kept.entries }

-- third: what is kept behind a synchronizing event
abbrev pub synced : Kept → Kept
synced kept = record { blocks = map cleaned kept.blocks; entries = filter stays kept.entries }

-- the bytes that a deed stores to, and the block whose copy it gives up, lie in RAM
abbrev pub IsInRam : Deed → Type 0
IsInRam (Store spans) = All (λ span. span.at + span.len ≤ ram_size) spans.items
IsInRam (Icbi block) = block < block_count
IsInRam deed = ⊤

-- a deed synchronizes
abbrev pub synchronizes : Deed → Bool
synchronizes Sync = true
synchronizes deed = false

-- what is kept where an instruction synchronizes, or doesn't: one that raises an interrupt does
abbrev pub synced_by : Packet → Kept → Kept
synced_by packet kept = if is_some packet.trap || synchronizes packet.deed then synced kept else kept

-- what is kept behind an instruction, by the registers and RAM before it: first by its accesses, then by its deed, and then,
-- where it synchronizes, by that
abbrev pub after : Kept → List ℕ → Regs → Packet → Kept
after kept ram regs packet = synced_by packet (deed_kept packet.deed (used_kept ram regs packet kept))

-- a block at a real address that isn't clean is why a fetch from it breaks the discipline
abbrev pub block_why : ℕ → Option BlockStatus → Option Why
block_why real None = None
block_why real (Some status) = Some (Block (real - real % 64) status)

-- why a fetch breaks the discipline of blocks, by its real address, if it does: one that has a fault or leaves RAM doesn't
abbrev pub fetch_why : Kept → Result ℕ StorageFault → Option Why
fetch_why kept (Err fault) = None
fetch_why kept (Ok real) = if nat_lt real ram_size then block_why real (status_of kept (real / 64)) else None

-- why an access of a kind breaks the discipline of blocks, by what it comes to, if it does: data doesn't
abbrev pub block_rule : Kept → Kind → Result Translated StorageFault → Option Why
block_rule kept Fetch now = fetch_why kept (real_found now)
block_rule kept Load now = None
block_rule kept Stores now = None

-- why an access breaks the discipline of translations, by the registers and what it comes to, if it does: one that isn't
-- translated doesn't
abbrev pub page_rule : Kept → Regs → Touch → Result Translated StorageFault → Option Why
page_rule kept regs touch now =
    if is_translated touch.kind regs.msr then page_rule_in kept.entries now touch.kind (has_bit regs.msr pr_place) touch.ea (quadrant_of regs.pidr touch.ea) else None

-- why an access breaks the discipline, by the registers and what it comes to, if it does
abbrev pub why_by : Kept → Regs → Touch → Result Translated StorageFault → Option Why
why_by kept regs touch now = option_or (page_rule kept regs touch now) (block_rule kept touch.kind now)

-- an access that breaks the discipline
abbrev pub access_by : Touch → Why → Access
access_by touch why = record { kind = touch.kind; ea = touch.ea; why = why }

-- the first access that breaks the discipline: this one, if it does; else none where it has a fault, or one behind it
abbrev pub first_by : Option Access → Result Translated StorageFault → Option Access → Option Access
first_by (Some access) now later = Some access
first_by None (Ok there) later = later
first_by None (Err fault) later = None

-- the first of accesses that breaks the discipline, by the registers and RAM
abbrev pub first_of : Kept → List ℕ → Regs → List Touch → Option Access
first_of kept ram regs [] = None
first_of kept ram regs (touch ∷ touches) =
    first_by (option_map (access_by touch) (why_by kept regs touch (translate_of ram regs touch.kind touch.ea))) (translate_of ram regs touch.kind touch.ea) (first_of kept ram regs touches)

-- the first access of an instruction that breaks the discipline, by the registers and RAM before it
abbrev pub offends : Kept → List ℕ → Regs → Packet → Option Access
offends kept ram regs packet = first_of kept ram regs (accesses_of packet)

-- what the discipline sees of an instruction
abbrev pub packet_of : Stepped → Packet
packet_of it = record {
  cia = it.carried.cia;
  word = word_of it.carried.words;
  suffix = suffix_of it.carried.words;
  touches = record { items = touches_by it.carried };
  deed = it.deed;
  trap = option_map (λ raised. raised.vector) it.trap;
}

-- what the discipline sees of the next instruction
abbrev pub next_packet : State → Packet
next_packet state = packet_of (step state)

-- the first access of the next instruction that breaks the discipline, if one does
unfoldable pub first_offence : Kept → State → Option Access
first_offence kept state = offends kept state.ram state.regs (next_packet state)

-- an instruction at an address that comes to nothing, and raises this
abbrev pub packet_raising : ℕ → Option Fetched → Option Raised → Packet
packet_raising at words raised = record {
  cia = at;
  word = word_of words;
  suffix = suffix_of words;
  touches = record { items = [] };
  deed = Plain;
  trap = option_map (λ it. it.vector) raised;
}

-- what an outcome does to changed code where it raises this
abbrev pub deed_unless : Option Raised → Outcome → Option Placed → Option ℕ → Deed
deed_unless (Some raised) outcome placed reserve = Plain
deed_unless None outcome placed reserve = deed_at (Some outcome) placed reserve

-- an instruction at an address that comes to an outcome, where its access stands, and raises this
abbrev pub packet_coming : ℕ → Fetched → Outcome → Option Placed → Option Raised → Option ℕ → Packet
packet_coming at words outcome placed trap reserve = record {
  cia = at;
  word = words.word;
  suffix = words.suffix;
  touches = record { items = data_of outcome placed };
  deed = deed_unless trap outcome placed reserve;
  trap = option_map (λ raised. raised.vector) trap;
}
