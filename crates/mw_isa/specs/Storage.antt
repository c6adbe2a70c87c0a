-- An access to storage (Book I, storage operands; Book II, atomic update, cache management and the reservation). Which
-- accesses raise an alignment interrupt, and the blocks of 64 bytes, are this board's own choice; Book III has what the
-- interrupt is.
use Rattle.std.specs.Prelude.{ℕ, ◌≡◌, ◌+◌, ◌-◌, ◌*◌, ◌/◌, ◌%◌, ◌^◌, ◌<◌, ◌==◌, Bool, true, false, not, ◌&&◌, ◌||◌, if◌then◌else◌, List, [], ◌∷◌, replicate, Option, Some, None, IfSome, is_some}
use Rattle.std.specs.Int.{from_bool}
use Rattle.mw_bits.specs.Fields.{sext_of}
use Rattle.mw_bus.specs.Memory.{number_of, bytes_of}
use Rattle.mw_soc.specs.DeviceData.{DeviceData}
use Rattle.mw_soc.specs.Map.{device_loaded, after_device_load, after_device_store}
use Rattle.mw_isa.specs.declared.access.Kind.{Kind}
use Rattle.mw_isa.specs.declared.access.Kind.TheVariants.{Load as Loads, Store as Stores}
use Rattle.mw_isa.specs.declared.access.Deed.{Deed}
use Rattle.mw_isa.specs.declared.access.Deed.TheVariants.{Plain, Store as StoreDeed, Icbi as IcbiDeed}
use Rattle.mw_isa.specs.declared.pages.Pages.{Pages}
use Rattle.mw_isa.specs.declared.pages.Stretches.{Stretches}
use Rattle.mw_isa.specs.declared.memory.MemWhat.{MemWhat}
use Rattle.mw_isa.specs.declared.memory.MemWhat.TheVariants.{Load, Store, Conditional, Zero, Clean, Icbi}
use Rattle.mw_isa.specs.declared.memory.MemOp.{MemOp}
use Rattle.mw_isa.specs.declared.outcome.Outcome.{Outcome}
use Rattle.mw_isa.specs.declared.outcome.Outcome.TheVariants.{Done, Long, Memory, System, Trap}
use Rattle.mw_isa.specs.declared.outcome.Target.{Target}
use Rattle.mw_isa.specs.declared.slot.Slot.TheVariants.{Gpr, CrField}
use Rattle.mw_isa.specs.declared.regs.Regs.{Regs}
use Rattle.mw_isa.specs.Pages.{page_size, is_in_page, pages_from, size_of, MeetAtPage, is_in_ram, bytes_in, laid_in, spans_of}
use Rattle.mw_isa.specs.State.{State}
use Rattle.mw_isa.specs.Slots.{known, set_targets}
use Rattle.mw_isa.specs.Xer.{xer_bits}

-- the lengths that an access can have: 1, 2, 4 or 8 bytes; 64 for zeros, and 1 where nothing is loaded or stored
abbrev pub is_sized_by : MemWhat → ℕ → Bool
is_sized_by Zero len = len == 64
is_sized_by Clean len = len == 1
is_sized_by Icbi len = len == 1
is_sized_by what len = (len == 1 || len == 2) || (len == 4 || len == 8)

-- an access of one of its lengths
abbrev pub IsSized : MemOp → Type 0
IsSized op = is_sized_by op.what op.len ≡ true

-- a fact on the access, where an outcome is one
abbrev pub OnMemory : (MemOp → Type 0) → Outcome → Type 0
OnMemory P (Done targets next) = Unit {0}
OnMemory P (Long op) = Unit {0}
OnMemory P (System op) = Unit {0}
OnMemory P (Trap vector cause) = Unit {0}
OnMemory P (Memory op) = P op

-- the address is a multiple of the length
abbrev pub is_aligned : MemOp → Bool
is_aligned op = op.ea % op.len == 0

-- the access reserves its block, or stores where it is reserved
abbrev pub is_exclusive : MemWhat → Bool
is_exclusive (Load signed reversed reserve) = reserve
is_exclusive (Conditional reversed) = true
is_exclusive what = false

-- an access that raises an alignment interrupt before it is translated: an exclusive one that isn't aligned
abbrev pub is_unaligned_exclusive : MemOp → Bool
is_unaligned_exclusive op = is_exclusive op.what && not (is_aligned op)

-- the effective address of the first byte: that of the aligned block for zeros
abbrev pub first_of : MemOp → MemWhat → ℕ
first_of op Zero = op.ea - op.ea % 64
first_of op what = op.ea

-- the effective address of an access's first byte
abbrev pub first_byte : MemOp → ℕ
first_byte op = first_of op op.what

-- what an access is for
abbrev pub kind_of : MemWhat → Kind
kind_of (Load signed reversed reserve) = Loads
kind_of Clean = Loads
kind_of Icbi = Loads
kind_of what = Stores

-- the pages of an access, in rising order of its bytes
abbrev pub pages_of : MemOp → Pages
pages_of op = pages_from (kind_of op.what) (first_byte op) op.len

-- outside RAM the access isn't allowed
abbrev pub needs_ram : MemWhat → Bool
needs_ram Zero = true
needs_ram what = is_exclusive what

-- an access that raises an alignment interrupt once it is translated: it has a byte outside RAM, and isn't aligned or needs
-- RAM
abbrev pub is_misplaced : MemOp → Stretches → Bool
is_misplaced op at = not (is_in_ram at) && (not (is_aligned op) || needs_ram op.what)

-- an access that raises an alignment interrupt, before or behind its translation
abbrev pub raises_alignment : MemOp → Stretches → Bool
raises_alignment op at = is_unaligned_exclusive op || is_misplaced op at

-- the number of the real 64-byte block in which an access begins
abbrev pub block_of : Stretches → ℕ
block_of at = at.first.at / 64

-- a number of so many bytes, extended to 64 bits with its sign or with zeros
abbrev pub extended : Bool → ℕ → ℕ → ℕ
extended signed len number = if signed then sext_of number (8 * len) else number

-- the bytes that a load gives: RAM's, or those of what stands outside RAM
abbrev pub load_bytes : Stretches → List ℕ → DeviceData → List ℕ
load_bytes at ram devices = if is_in_ram at then bytes_in ram at else device_loaded devices at.first.at at.first.len

-- the number that the bytes of a load hold, extended; of any other access 0
abbrev pub loaded_number : MemWhat → ℕ → List ℕ → ℕ
loaded_number (Load signed reversed reserve) len bytes = extended signed len (number_of reversed len bytes)
loaded_number what len bytes = 0

-- the low bytes of the register that is stored
abbrev pub store_bytes : Bool → MemOp → List ℕ
store_bytes reversed op = bytes_of reversed op.len (op.value % 256 ^ op.len)

-- the bytes that an access stores: those of a register, or zeros
abbrev pub stored_bytes : MemWhat → MemOp → List ℕ
stored_bytes (Store reversed) op = store_bytes reversed op
stored_bytes (Conditional reversed) op = store_bytes reversed op
stored_bytes Zero op = replicate 64 0
stored_bytes what op = []

-- a reservation stands for the block
abbrev pub is_reserved : Stretches → Option ℕ → Bool
is_reserved at None = false
is_reserved at (Some block) = block == block_of at

-- an access stores its bytes, a store-conditional where its block is reserved
abbrev pub stores : MemWhat → Bool → Bool
stores (Store reversed) reserved = true
stores (Conditional reversed) reserved = reserved
stores Zero reserved = true
stores what reserved = false

-- CR field 0 of a store-conditional: 0, 0, whether it stored, and SO
abbrev pub success_field : Bool → ℕ → ℕ
success_field success xer = (if success then 2 else 0) + from_bool (xer_bits xer).so

-- RA ← EA with update
abbrev pub update_targets : MemOp → Option ℕ → List Target
update_targets op None = []
update_targets op (Some n) = known (Gpr n) op.ea ∷ []

-- the registers that an access writes, in order, given the number that it loads, whether its block is reserved, and XER
abbrev pub access_targets : MemWhat → MemOp → ℕ → Bool → ℕ → List Target
access_targets (Load signed reversed reserve) op number reserved xer = known (Gpr op.to) number ∷ update_targets op op.update
access_targets (Store reversed) op number reserved xer = update_targets op op.update
access_targets (Conditional reversed) op number reserved xer = known (CrField 0) (success_field reserved xer) ∷ []
access_targets what op number reserved xer = []

-- the reservation behind an access: a load-and-reserve reserves its block, a store-conditional ends every reservation
abbrev pub reserve_behind : MemWhat → Stretches → Option ℕ → Option ℕ
reserve_behind (Load signed reversed reserve) at before = if reserve then Some (block_of at) else before
reserve_behind (Conditional reversed) at before = None
reserve_behind what at before = before

-- what an access finds: the number that it loads, and whether its block is reserved
pub record Found : Type 0 where
  pub number : ℕ
  pub reserved : Bool

-- an access finds this number, and whether the block is reserved
abbrev pub finding : ℕ → Bool → Found
finding number reserved = record { number = number; reserved = reserved }

-- what an access makes of the registers, by what it finds
abbrev pub regs_behind : MemWhat → MemOp → Stretches → Found → Regs → Regs
regs_behind what op at found regs = record (set_targets (access_targets what op found.number found.reserved regs.xer) regs) { reserve = reserve_behind what at regs.reserve }

-- RAM behind an access: its bytes are laid where it stores and lies in RAM
abbrev pub ram_behind : MemWhat → MemOp → Stretches → Bool → List ℕ → List ℕ
ram_behind what op at reserved ram = if stores what reserved && is_in_ram at then laid_in ram at (stored_bytes what op) else ram

-- the devices behind a load, which one of them sees where RAM isn't
abbrev pub devices_loaded : MemWhat → Stretches → DeviceData → DeviceData
devices_loaded (Load signed reversed reserve) at devices = if is_in_ram at then devices else after_device_load devices at.first.at at.first.len
devices_loaded what at devices = devices

-- the devices behind a store, which one of them sees where RAM isn't
abbrev pub devices_stored : MemWhat → MemOp → Stretches → Bool → DeviceData → DeviceData
devices_stored what op at reserved devices = if stores what reserved && not (is_in_ram at) then after_device_store devices at.first.at (stored_bytes what op) else devices

-- the state behind an access that does this, by what it finds
abbrev pub accessed_by : MemWhat → MemOp → Stretches → Found → State → State
accessed_by what op at found state = record {
  regs = regs_behind what op at found state.regs;
  ram = ram_behind what op at found.reserved state.ram;
  devices = devices_stored what op at found.reserved (devices_loaded what at state.devices);
}

-- the number that an access loads from a state
abbrev pub loads : MemWhat → MemOp → Stretches → State → ℕ
loads what op at state = loaded_number what op.len (load_bytes at state.ram state.devices)

-- the state behind an access that does this: it finds the bytes and the reservation that are there
abbrev pub accessed_as : MemWhat → MemOp → Stretches → State → State
accessed_as what op at state = accessed_by what op at (finding (loads what op at state) (is_reserved at state.regs.reserve)) state

-- the state behind an access to these stretches, at the same instruction
unfoldable pub accessed : MemOp → Stretches → State → State
accessed op at state = accessed_as op.what op at state

-- a store to RAM touches its stretches; one where RAM isn't does nothing
abbrev pub store_deed : Stretches → Deed
store_deed at = if is_in_ram at then StoreDeed (record { items = spans_of at }) else Plain

-- what an access does to changed code, a block being reserved or not
abbrev pub deed_by : MemWhat → Stretches → Option ℕ → Deed
deed_by (Store reversed) at reserve = store_deed at
deed_by (Conditional reversed) at reserve = if is_reserved at reserve then store_deed at else Plain
deed_by Zero at reserve = store_deed at
deed_by Icbi at reserve = if is_in_ram at then IcbiDeed (block_of at) else Plain
deed_by what at reserve = Plain

-- what is known of the stretches of an access, whatever tells where its pages stand
pub record IsPlaced (op : MemOp) (at : Stretches) : Type 0 where
  -- real addresses have 60 bits
  pub real : at.first.at < 2 ^ 60
  -- the first byte stands in its page where it does by its effective address
  pub offset : at.first.at % page_size ≡ first_byte op % page_size
  -- the stretches have as many bytes as the access
  pub size : size_of at ≡ op.len
  -- there are two where the bytes lie in two pages
  pub crosses : is_some at.second ≡ not (is_in_page (first_byte op) op.len)
  -- where there are two stretches the first ends with its page, and the second begins one
  pub second : IfSome at.second (MeetAtPage at.first)
