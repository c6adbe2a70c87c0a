-- What happens to one block and to one page under the update discipline: what marks it, what gives it up, and what cleans
-- or removes it.
use Rattle.std.specs.Prelude.{ℕ, ⊤, ◌≡◌, ◌+◌, ◌*◌, ◌<◌, ◌==◌, All, Bool, true, false, ◌&&◌, ◌||◌, if◌then◌else◌, nat_le, nat_lt, List, [], ◌∷◌, length, Option, Some, None, is_some}
use Rattle.std.specs.List.{list_any}
use Rattle.std.specs.Option.{option_map_or}
use Rattle.mw_bits.specs.Scopes.{is_in_scope}
use Rattle.mw_isa.specs.declared.access.Deed.{Deed}
use Rattle.mw_isa.specs.declared.access.Deed.TheVariants.{Store, Icbi, Tlbie, NewTable}
use Rattle.mw_isa.specs.declared.access.Span.{Span}
use Rattle.mw_isa.specs.declared.offence.BlockStatus.{BlockStatus}
use Rattle.mw_isa.specs.declared.offence.BlockStatus.TheVariants.{Changed}
use Rattle.mw_isa.specs.declared.packet.Packet.{Packet}
use Rattle.mw_isa.specs.declared.regs.Regs.{Regs}
use Rattle.mw_isa.specs.Discipline.{Kept, block_count, after, cleaned, entry_in, given_up, synced, synchronizes, used_by}
use Rattle.mw_isa.specs.Entries.{is_for}
use Rattle.mw_isa.specs.Translate.{translate_of}

-- the blocks of all of RAM are kept
abbrev pub HasBlocks : Kept → Type 0
HasBlocks kept = length kept.blocks ≡ block_count

-- a stretch of RAM meets a block: neither ends before the other begins
abbrev pub meets : ℕ → Span → Bool
meets block span = nat_lt (64 * block) (span.at + span.len) && nat_lt span.at (64 * block + 64)

-- a deed stores to a block
abbrev pub stores_to : ℕ → Deed → Bool
stores_to block (Store spans) = list_any (meets block) spans.items
stores_to block deed = false

-- a stretch of RAM has the byte at a real address
abbrev pub has_byte : ℕ → Span → Bool
has_byte at span = nat_le span.at at && nat_lt at (span.at + span.len)

-- a deed stores to the byte at a real address
abbrev pub stores_byte : ℕ → Deed → Bool
stores_byte at (Store spans) = list_any (has_byte at) spans.items
stores_byte at deed = false

-- a deed takes another table of translations
abbrev pub is_new_table : Deed → Bool
is_new_table NewTable = true
is_new_table deed = false

-- each stretch that a deed stores to has a byte
abbrev pub HasBytes : Deed → Type 0
HasBytes (Store spans) = All (λ span. 0 < span.len) spans.items
HasBytes deed = ⊤

-- a deed gives up a block's copy
abbrev pub gives_up : ℕ → Deed → Bool
gives_up block (Icbi number) = number == block
gives_up block deed = false

-- an instruction as the discipline sees it, with the registers and RAM before it
pub record Watched : Type 0 where
  pub ram : List ℕ
  pub regs : Regs
  pub packet : Packet

-- what is kept behind an event, which is seen as an instruction, or as none where an interrupt is taken between two
abbrev pub behind_event : Kept → Option Watched → Kept
behind_event kept None = synced kept
behind_event kept (Some it) = after kept it.ram it.regs it.packet

-- what is kept behind events, one after another
abbrev pub behind_events : Kept → List (Option Watched) → Kept
behind_events kept [] = kept
behind_events kept (event ∷ events) = behind_events (behind_event kept event) events

-- an event stores to a block
abbrev pub is_store_to : ℕ → Option Watched → Bool
is_store_to block None = false
is_store_to block (Some it) = stores_to block it.packet.deed

-- an event gives up a block's copy
abbrev pub is_icbi_of : ℕ → Option Watched → Bool
is_icbi_of block None = false
is_icbi_of block (Some it) = gives_up block it.packet.deed

-- an event synchronizes: an instruction by its deed or by the interrupt that it raises
abbrev pub is_sync : Option Watched → Bool
is_sync None = true
is_sync (Some it) = is_some it.packet.trap || synchronizes it.packet.deed

-- the status of a block behind what an event stores or gives up, by that before it
abbrev pub status_by : ℕ → Option Watched → Option BlockStatus → Option BlockStatus
status_by block event status = if is_store_to block event then Some Changed else if is_icbi_of block event then given_up status else status

-- the status of a block behind an event, by that before it
abbrev pub status_behind : ℕ → Option Watched → Option BlockStatus → Option BlockStatus
status_behind block event status = if is_sync event then cleaned (status_by block event status) else status_by block event status

-- an event uses the translation of a page for a process, which is then kept
abbrev pub uses_page : ℕ → ℕ → Option Watched → Bool
uses_page pid page None = false
uses_page pid page (Some it) = list_any (λ touch. option_map_or (is_for pid page) (entry_in (translate_of it.ram it.regs touch.kind touch.ea)) false) (used_by it.packet)

-- a deed invalidates the translations of a page for a process
abbrev pub invalidates : ℕ → ℕ → Deed → Bool
invalidates pid page (Tlbie scope) = is_in_scope scope pid page
invalidates pid page deed = false

-- an event does
abbrev pub is_tlbie_of : ℕ → ℕ → Option Watched → Bool
is_tlbie_of pid page None = false
is_tlbie_of pid page (Some it) = invalidates pid page it.packet.deed
