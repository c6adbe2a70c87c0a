-- The interrupt of an access whose page has a fault (Book III, data storage, data segment, instruction storage and
-- instruction segment interrupts; which bits tell the cause is this board's own choice).
use Rattle.std.specs.Prelude.{ℕ, ◌+◌, Some, None}
use Rattle.mw_isa.specs.declared.access.Kind.{Kind}
use Rattle.mw_isa.specs.declared.access.Kind.TheVariants.{Fetch, Load, Store}
use Rattle.mw_isa.specs.declared.pages.StorageFault.{StorageFault}
use Rattle.mw_isa.specs.declared.pages.StorageFault.TheVariants.{Segment, NoTranslation, NotPermitted, BadTree, ReferenceOrChange}
use Rattle.mw_isa.specs.declared.raised.Raised.{Raised}
use Rattle.mw_isa.specs.declared.vector.Vector.TheVariants.{DataStorage, DataSegment, InstStorage, InstSegment}
use Rattle.mw_isa.specs.Msr.{bit_at, no_translation_place, fetch_refused_place, data_refused_place, bad_tree_place, unmarked_place, store_place}

-- the bit of SRR1 that tells why a fetch failed
abbrev pub fetch_cause : StorageFault → ℕ
fetch_cause Segment = 0
fetch_cause NoTranslation = bit_at no_translation_place
fetch_cause NotPermitted = bit_at fetch_refused_place
fetch_cause BadTree = bit_at bad_tree_place
fetch_cause ReferenceOrChange = bit_at unmarked_place

-- the interrupt of a fetch that failed; DAR and DSISR stay
abbrev pub fetch_fault : StorageFault → Raised
fetch_fault Segment = record { vector = InstSegment; cause = 0; dar = None; dsisr = None }
fetch_fault fault = record { vector = InstStorage; cause = fetch_cause fault; dar = None; dsisr = None }

-- the bit of DSISR that tells why an access to data failed
abbrev pub data_cause : StorageFault → ℕ
data_cause Segment = 0
data_cause NoTranslation = bit_at no_translation_place
data_cause NotPermitted = bit_at data_refused_place
data_cause BadTree = bit_at bad_tree_place
data_cause ReferenceOrChange = bit_at unmarked_place

-- the bit of DSISR that tells of a store
abbrev pub store_cause : Kind → ℕ
store_cause Fetch = 0
store_cause Load = 0
store_cause Store = bit_at store_place

-- the interrupt of an access to data that failed at a page's first byte, which DAR gets; DSISR is set whole, but for a
-- segment's fault
abbrev pub data_fault : StorageFault → Kind → ℕ → Raised
data_fault Segment kind ea = record { vector = DataSegment; cause = 0; dar = Some ea; dsisr = None }
data_fault fault kind ea = record { vector = DataStorage; cause = 0; dar = Some ea; dsisr = Some (data_cause fault + store_cause kind) }

-- the interrupt of an access of a kind that failed at a page's first byte
abbrev pub fault_raises : StorageFault → Kind → ℕ → Raised
fault_raises fault Fetch ea = fetch_fault fault
fault_raises fault Load ea = data_fault fault Load ea
fault_raises fault Store ea = data_fault fault Store ea
