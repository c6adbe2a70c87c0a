-- What raises an interrupt, part by part in the order of an instruction: its fetch, its words, what it comes to, and its
-- access (Book III, interrupt definitions; which accesses have to be aligned is this board's own choice).
use Rattle.std.specs.Prelude.{ℕ, Bool, if◌then◌else◌, List, [], ◌∷◌, Option, Some, None, Result, Ok, Err}
use Rattle.mw_decode.specs.declared.insn.Facility.{Facility}
use Rattle.mw_decode.specs.declared.insn.Facility.TheVariants.{Fp, Vector as VectorFacility, Vsx}
use Rattle.mw_decode.specs.declared.insn.Decoded.{Decoded}
use Rattle.mw_decode.specs.declared.insn.Decoded.TheVariants.{Insn as Is, Unavailable, Alignment as Misplaced, Illegal}
use Rattle.mw_isa.specs.declared.access.Kind.TheVariants.{Fetch}
use Rattle.mw_isa.specs.declared.access.Touch.{Touch}
use Rattle.mw_isa.specs.declared.fetched.Fetched.{Fetched}
use Rattle.mw_isa.specs.declared.memory.MemOp.{MemOp}
use Rattle.mw_isa.specs.declared.outcome.Outcome.{Outcome}
use Rattle.mw_isa.specs.declared.outcome.Outcome.TheVariants.{Done, Long, Memory, System, Trap}
use Rattle.mw_isa.specs.declared.pages.PageFault.{PageFault}
use Rattle.mw_isa.specs.declared.pages.StorageFault.{StorageFault}
use Rattle.mw_isa.specs.declared.pages.Stretches.{Stretches}
use Rattle.mw_isa.specs.declared.raised.Raised.{Raised}
use Rattle.mw_isa.specs.declared.slot.Slot.{Slot}
use Rattle.mw_isa.specs.declared.vector.Vector.{Vector}
use Rattle.mw_isa.specs.declared.vector.Vector.TheVariants.{Alignment, Program, FpUnavailable, VectorUnavailable, VsxUnavailable}
use Rattle.mw_isa.specs.Faults.{fault_raises}
use Rattle.mw_isa.specs.Fetch.{is_cut}
use Rattle.mw_isa.specs.Msr.{bit_at, crossing_place, illegal_place}
use Rattle.mw_isa.specs.Pages.{touches_of}
use Rattle.mw_isa.specs.Storage.{is_misplaced, is_unaligned_exclusive, pages_of}
use Rattle.mw_isa.specs.Words.{alignment_address, decoded_of}

-- an interrupt that leaves DAR and DSISR
abbrev pub raising : Vector → ℕ → Raised
raising vector cause = record { vector = vector; cause = cause; dar = None; dsisr = None }

-- the alignment interrupt of an access at an effective address, which DAR gets
abbrev pub misaligned : ℕ → Raised
misaligned ea = record { vector = Alignment; cause = 0; dar = Some ea; dsisr = None }

-- of two interrupts, each of which may be there, the first
abbrev pub earlier : Option Raised → Option Raised → Option Raised
earlier (Some raised) later = Some raised
earlier None later = later

-- of interrupts, each of which may be there, the first
abbrev pub first_raised : List (Option Raised) → Option Raised
first_raised [] = None
first_raised (raised ∷ others) = earlier raised (first_raised others)

-- the interrupt of a prefix that ends its block of 64 bytes; DAR stays
abbrev pub cut_raised : Raised
cut_raised = raising Alignment (bit_at crossing_place)

-- the interrupt of a fetch at an address, by its real address: that of a fault, or none
abbrev pub fetch_raises : Result ℕ StorageFault → ℕ → Option Raised
fetch_raises (Ok real) at = None
fetch_raises (Err fault) at = Some (fault_raises fault Fetch at)

-- the interrupt of words of which a block's end cuts off the suffix
abbrev pub cut_raises : Fetched → Option Raised
cut_raises words = if is_cut words then Some cut_raised else None

-- the vector of a facility that isn't there
abbrev pub unavailable : Facility → Vector
unavailable Fp = FpUnavailable
unavailable VectorFacility = VectorUnavailable
unavailable Vsx = VsxUnavailable

-- the interrupt that words raise by what they are, the registers being seen so
abbrev pub decoded_raises : Decoded → (Slot → ℕ) → Option Raised
decoded_raises (Is insn) view = None
decoded_raises (Unavailable facility) view = Some (raising (unavailable facility) 0)
decoded_raises (Misplaced ra rb disp) view = Some (misaligned (alignment_address ra rb disp view))
decoded_raises Illegal view = Some (raising Program (bit_at illegal_place))

-- the interrupt that the words raise
abbrev pub words_raise : Fetched → (Slot → ℕ) → Option Raised
words_raise words view = decoded_raises (decoded_of words) view

-- the interrupt that the outcome raises by itself
abbrev pub outcome_raises : Outcome → Option Raised
outcome_raises (Done targets next) = None
outcome_raises (Long op) = None
outcome_raises (Memory op) = None
outcome_raises (System op) = None
outcome_raises (Trap vector cause) = Some (raising vector cause)

-- where an access stands: its stretches, or the fault of a page
abbrev pub Placed : Type 0
Placed = Result Stretches PageFault

-- an access raises an alignment interrupt at its address, or none
abbrev pub misaligned_if : Bool → MemOp → Option Raised
misaligned_if refused op = if refused then Some (misaligned op.ea) else None

-- the interrupt of an exclusive access that isn't aligned
abbrev pub exclusive_raises : MemOp → Option Raised
exclusive_raises op = misaligned_if (is_unaligned_exclusive op) op

-- the interrupt of an access's pages: that of the first page with a fault, or none
abbrev pub pages_raise : Placed → Option Raised
pages_raise (Ok at) = None
pages_raise (Err fault) = Some (fault_raises fault.fault fault.page.kind fault.page.ea)

-- the interrupt of an access by where its pages stand in real storage
abbrev pub place_raises : MemOp → Placed → Option Raised
place_raises op (Ok at) = misaligned_if (is_misplaced op at) op
place_raises op (Err fault) = None

-- the interrupts that an access may raise where it stands, in their order: before its pages are translated, by these, and by
-- where they stand
abbrev pub access_parts : MemOp → Placed → List (Option Raised)
access_parts op placed = exclusive_raises op ∷ pages_raise placed ∷ place_raises op placed ∷ []

-- the interrupt that an access raises where it stands
abbrev pub access_raises : MemOp → Placed → Option Raised
access_raises op placed = first_raised (access_parts op placed)

-- the accesses to pages that an access comes to, in order: all, or none where it isn't translated
abbrev pub reached : MemOp → List Touch
reached op = if is_unaligned_exclusive op then [] else touches_of (pages_of op)
