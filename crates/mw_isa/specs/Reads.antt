-- What an instruction reads of the registers: which, known from the instruction alone, and what they hold.
use Rattle.std.specs.Prelude.{ℕ, zero, suc, ⊤, ◌≡◌, ◌+◌, ◌*◌, ◌%◌, ◌==◌, Bool, if◌then◌else◌, List, [], ◌∷◌, ◌++◌, Option, Some, None, option_map, slice_get}
use Rattle.std.specs.Option.{option_map_or}
use Rattle.mw_decode.specs.declared.insn.Insn.{Insn}
use Rattle.mw_isa.specs.declared.operation.Operation.{Operation}
use Rattle.mw_isa.specs.declared.outcome.Operands.{Operands}
use Rattle.mw_isa.specs.declared.place.Places.{Places}
use Rattle.mw_isa.specs.declared.regs.Regs.{Regs}
use Rattle.mw_isa.specs.declared.sources.Sources.{Sources}
use Rattle.mw_isa.specs.declared.sources.Special.{Special}
use Rattle.mw_isa.specs.declared.slot.Slot.{Slot}
use Rattle.mw_isa.specs.declared.slot.Slot.TheVariants.{Gpr, CrField, Xer, Lr, Ctr, Tar}
use Rattle.mw_isa.specs.Operations.{operations}
use Rattle.mw_isa.specs.Condition.{is_chosen}
use Rattle.mw_isa.specs.Slots.{get_slot}
use Rattle.mw_isa.specs.Special.{nothing, slots_in, special_of, special_slots}
use Rattle.mw_isa.specs.Places.{places_of, operand_of}

-- the register at a place, if there is one
abbrev pub register_at : Insn → Option ℕ → Option Slot
register_at insn place = option_map (λ at. Gpr (operand_of insn at)) place

-- (RA|0): the register at a place, but register 0
abbrev pub base_at : Insn → Option ℕ → Option Slot
base_at insn None = None
base_at insn (Some at) = if operand_of insn at == 0 then None else Some (Gpr (operand_of insn at))

-- the register that is read as a
abbrev pub first_source : Insn → Option ℕ → Option ℕ → Option Slot
first_source insn (Some place) base = Some (Gpr (operand_of insn place))
first_source insn None base = base_at insn base

-- the registers among the operands that are read as a, b and c
abbrev pub sources_at : Places → Insn → Sources
sources_at places insn = record {
  a = first_source insn places.first places.base;
  b = register_at insn places.second;
  c = register_at insn places.third;
}

-- the registers that are read
abbrev pub read_slots : Sources → List Slot → List Slot
read_slots sources special = slots_in sources.a ++ (slots_in sources.b ++ (slots_in sources.c ++ special))

abbrev pub reads_by : Operation → Insn → List Slot
reads_by operation insn = read_slots (sources_at (places_of operation) insn) (special_slots (special_of operation insn))

-- the registers that an instruction reads
unfoldable pub reads_of : Insn → List Slot
reads_of insn = option_map_or (λ operation. reads_by operation insn) (slice_get operations insn.row) []

-- what a register is seen to hold, or 0 where none is read
abbrev pub held : (Slot → ℕ) → Option Slot → ℕ
held view None = 0
held view (Some slot) = view slot

-- what a register is seen to hold, or 0 where it isn't read
abbrev pub part_if : Bool → (Slot → ℕ) → Slot → ℕ
part_if asked view slot = if asked then view slot else 0

-- the first fields of the condition register, with 0 for each that a mask doesn't choose
abbrev pub chosen_digits : (Slot → ℕ) → ℕ → ℕ → ℕ
chosen_digits view mask zero = 0
chosen_digits view mask (suc n) = chosen_digits view mask n * 16 + part_if (is_chosen mask n) view (CrField n) % 16

-- the operands that are made of these registers as they are seen; every part that isn't read is 0
abbrev pub operands_by : Sources → Special → (Slot → ℕ) → ℕ → Operands
operands_by sources special view msr = record {
  a = held view sources.a;
  b = held view sources.b;
  c = held view sources.c;
  cr = chosen_digits view special.fields 8;
  xer = part_if special.xer view Xer;
  lr = part_if special.lr view Lr;
  ctr = part_if special.ctr view Ctr;
  tar = part_if special.tar view Tar;
  msr = msr;
}

-- no register is read
abbrev pub no_sources : Sources
no_sources = record { a = None; b = None; c = None }

-- the operands of an operation
abbrev pub operands_at : Operation → Insn → (Slot → ℕ) → ℕ → Operands
operands_at operation insn view msr = operands_by (sources_at (places_of operation) insn) (special_of operation insn) view msr

-- the operands of an instruction, where registers are seen so and MSR is this
unfoldable pub operands_in : Insn → (Slot → ℕ) → ℕ → Operands
operands_in insn view msr = option_map_or (λ operation. operands_at operation insn view msr) (slice_get operations insn.row) (operands_by no_sources nothing view msr)

-- what an instruction reads of the registers
abbrev pub operands_of : Insn → Regs → Operands
operands_of insn regs = operands_in insn (get_slot regs) regs.msr

-- two views show the same in each of these registers
abbrev pub Agree : (Slot → ℕ) → (Slot → ℕ) → List Slot → Type 0
Agree view other [] = ⊤
Agree view other (slot ∷ slots) = (view slot ≡ other slot) × Agree view other slots
