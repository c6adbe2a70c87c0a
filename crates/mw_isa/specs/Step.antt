-- One instruction, carried out on a state whose devices stand at its cycle (Books I to III): what is known of it before
-- anything changes, the parts that may raise an interrupt in their order, of which the first that does ends it, and what it
-- leaves.
use Rattle.std.specs.Prelude.{ℕ, ⊤, ◌≡◌, ◌+◌, false, if◌then◌else◌, List, [], ◌∷◌, Option, Some, None, option_map, option_and_then, unwrap_or, Result, Ok, Err}
use Rattle.std.specs.Option.{option_map_or}
use Rattle.mw_decode.specs.declared.insn.Insn.{Insn}
use Rattle.mw_decode.specs.Decode.{is_prefix}
use Rattle.mw_isa.specs.declared.access.Touch.{Touch}
use Rattle.mw_isa.specs.declared.access.Deed.{Deed}
use Rattle.mw_isa.specs.declared.access.Deed.TheVariants.{Plain}
use Rattle.mw_isa.specs.declared.fetched.Fetched.{Fetched}
use Rattle.mw_isa.specs.declared.long.LongOp.{LongOp}
use Rattle.mw_isa.specs.declared.memory.MemOp.{MemOp}
use Rattle.mw_isa.specs.declared.outcome.Outcome.{Outcome}
use Rattle.mw_isa.specs.declared.outcome.Outcome.TheVariants.{Done, Long, Memory, System, Trap}
use Rattle.mw_isa.specs.declared.pages.Page.{Page}
use Rattle.mw_isa.specs.declared.pages.StorageFault.{StorageFault}
use Rattle.mw_isa.specs.declared.pages.Stretches.{Stretches}
use Rattle.mw_isa.specs.declared.raised.Raised.{Raised}
use Rattle.mw_isa.specs.declared.regs.Regs.{Regs}
use Rattle.mw_isa.specs.declared.slot.Slot.{Slot}
use Rattle.mw_isa.specs.declared.vector.Vector.{Vector}
use Rattle.mw_isa.specs.declared.vector.Vector.TheVariants.{SystemCall}
use Rattle.mw_isa.specs.State.{State}
use Rattle.mw_isa.specs.Pages.{touch_of, stretches_of}
use Rattle.mw_isa.specs.Fetch.{behind, word_page, fetch_at, fetched}
use Rattle.mw_isa.specs.Slots.{get_slot, set_targets}
use Rattle.mw_isa.specs.Reads.{operands_of}
use Rattle.mw_isa.specs.Long.{IsStarted, result_of}
use Rattle.mw_isa.specs.Execute.{exec_of, behind_insn}
use Rattle.mw_isa.specs.Finish.{finished}
use Rattle.mw_isa.specs.Storage.{IsSized, OnMemory, IsPlaced, pages_of, accessed, raises_alignment, deed_by}
use Rattle.mw_isa.specs.Raises.{Placed, access_parts, cut_raises, fetch_raises, first_raised, outcome_raises, reached, words_raise}
use Rattle.mw_isa.specs.Take.{taken}
use Rattle.mw_isa.specs.Msr.{bit_at, prefixed_place}
use Rattle.mw_isa.specs.System.{system_deed, system_done, system_next, system_raises}
use Rattle.mw_isa.specs.Translate.{page_real}
use Rattle.mw_isa.specs.Words.{insn_of}

-- what an instruction carries while it is under way, each part where the one before it is there and raises nothing
pub record UnderWay : Type 0 where
  -- the instruction's address
  pub cia : ℕ
  -- the real address of the instruction's word, or the fault of its fetch
  pub real : Result ℕ StorageFault
  -- the instruction's words
  pub words : Option Fetched
  -- the instruction that the words are
  pub insn : Option Insn
  -- what the instruction comes to
  pub outcome : Option Outcome
  -- where the instruction's access stands
  pub placed : Option Placed

-- what an instruction does: what it carries; the interrupt that it raises or none; its accesses in order; its deed; and
-- the state after it
pub record Stepped : Type 0 where
  pub carried : UnderWay
  pub trap : Option Raised
  pub accesses : List Touch
  pub deed : Deed
  pub after : State

-- what an instruction at an address comes to, if there is one
unfoldable pub outcome_of : Option Insn → ℕ → Regs → Option Outcome
outcome_of insn at regs = option_and_then (λ insn. exec_of insn (operands_of insn regs) at) insn

-- where the access of an outcome stands, if it has one, by what tells each page's real address
abbrev pub placed_of : (Page → Result ℕ StorageFault) → Outcome → Option Placed
placed_of real (Done targets next) = None
placed_of real (Long op) = None
placed_of real (System op) = None
placed_of real (Trap vector cause) = None
placed_of real (Memory op) = Some (stretches_of real (pages_of op))

-- what an instruction at an address carries, from its fetch and its words on, by what tells each page's real address
abbrev pub under_way_of : Result ℕ StorageFault → Option Fetched → (Page → Result ℕ StorageFault) → ℕ → Regs → UnderWay
under_way_of fetch words real at regs = record {
  cia = at;
  real = fetch;
  words = words;
  insn = option_and_then insn_of words;
  outcome = outcome_of (option_and_then insn_of words) at regs;
  placed = option_and_then (placed_of real) (outcome_of (option_and_then insn_of words) at regs);
}

-- what the next instruction carries
unfoldable pub under_way : State → UnderWay
under_way state = under_way_of (fetch_at state.ram state.regs) (fetched state) (page_real state.ram state.regs) state.regs.cia state.regs

-- the interrupts that an outcome may raise, in their order: by itself or by the number of a register under MSR; and by its
-- access, before its pages are translated, by these, and by where they stand
abbrev pub outcome_parts : Outcome → Option Placed → ℕ → List (Option Raised)
outcome_parts (Memory op) (Some placed) msr = access_parts op placed
outcome_parts (Memory op) None msr = []
outcome_parts (System op) placed msr = system_raises op msr ∷ []
outcome_parts outcome placed msr = outcome_raises outcome ∷ []

-- the interrupt that an outcome raises
abbrev pub end_raises : Outcome → Option Placed → ℕ → Option Raised
end_raises outcome placed msr = first_raised (outcome_parts outcome placed msr)

-- the bit of SRR1 that tells of a prefix, where words were fetched and have one
abbrev pub prefix_cause : Option Fetched → ℕ
prefix_cause None = 0
prefix_cause (Some words) = if is_prefix words.word then bit_at prefixed_place else 0

-- an interrupt with the bit of SRR1 that tells of a prefix, whatever raised it
abbrev pub marked : Option Fetched → Raised → Raised
marked words raised = record raised { cause = raised.cause + prefix_cause words }

-- the interrupts that an instruction may raise, but for that bit, in their order, the registers being seen so: by its fetch,
-- by a suffix that is cut off, by its words, and by what they come to under MSR
abbrev pub raise_parts : UnderWay → (Slot → ℕ) → ℕ → List (Option Raised)
raise_parts it view msr =
    fetch_raises it.real it.cia
    ∷ option_and_then cut_raises it.words
    ∷ option_and_then (λ words. words_raise words view) it.words
    ∷ option_map_or (λ outcome. outcome_parts outcome it.placed msr) it.outcome []

-- the interrupt that an instruction raises: the first
abbrev pub raises_of : UnderWay → (Slot → ℕ) → ℕ → Option Raised
raises_of it view msr = option_map (marked it.words) (first_raised (raise_parts it view msr))

-- what a long operation makes of the registers
abbrev pub regs_after : LongOp → Regs → Regs
regs_after op regs = set_targets (finished op (result_of op) regs.xer) regs

-- what an outcome writes, where its access stands; never the instruction's address. A fault writes nothing
abbrev pub written : Outcome → Option Placed → State → State
written (Done targets next) placed state = record state { regs = set_targets targets.items state.regs }
written (Long op) placed state = record state { regs = regs_after op state.regs }
written (System op) placed state = system_done op state
written (Trap vector cause) placed state = state
written (Memory op) None state = state
written (Memory op) (Some (Err fault)) state = state
written (Memory op) (Some (Ok at)) state = accessed op at state

-- the address of the next instruction, from the registers and the address of this one
abbrev pub next_of : Insn → Outcome → Regs → ℕ → ℕ
next_of insn (Done targets next) regs at = next
next_of insn (Long op) regs at = behind_insn insn at
next_of insn (System op) regs at = system_next op regs (behind_insn insn at)
next_of insn (Trap vector cause) regs at = at
next_of insn (Memory op) regs at = behind_insn insn at

-- a state at an instruction
abbrev pub at_address : ℕ → State → State
at_address at state = record state { regs = record state.regs { cia = at } }

-- the state that an instruction at an address leaves, by what it comes to; without an outcome nothing changes
abbrev pub state_behind : Option Insn → Option Outcome → Option Placed → ℕ → State → State
state_behind (Some insn) (Some outcome) placed at state = at_address (next_of insn outcome state.regs at) (written outcome placed state)
state_behind (Some insn) None placed at state = state
state_behind None outcome placed at state = state

-- the address that an interrupt saves: that of the instruction, for a system call the one behind it
abbrev pub saved_by : Vector → ℕ → ℕ
saved_by SystemCall at = behind at
saved_by vector at = at

-- the registers behind an interrupt that the instruction at an address raises: it is taken, and DAR and DSISR are set where
-- it sets them
abbrev pub regs_raised : Raised → ℕ → Regs → Regs
regs_raised raised at regs = record (taken raised.vector raised.cause (saved_by raised.vector at) regs) { dar = unwrap_or raised.dar regs.dar; dsisr = unwrap_or raised.dsisr regs.dsisr }

-- the state that an instruction leaves. One that raises an interrupt changes nothing of what it would have changed
abbrev pub after_of : Option Raised → UnderWay → State → State
after_of (Some raised) it state = record state { regs = regs_raised raised it.cia state.regs }
after_of None it state = state_behind it.insn it.outcome it.placed it.cia state

-- the accesses to data that an outcome came to, in order
abbrev pub data_of : Outcome → Option Placed → List Touch
data_of (Memory op) (Some placed) = reached op
data_of outcome placed = []

-- the accesses to data that an instruction came to, in order
abbrev pub touches_by : UnderWay → List Touch
touches_by it = option_map_or (λ outcome. data_of outcome it.placed) it.outcome []

-- what an outcome does to changed code, where its access stands, a block being reserved or not
abbrev pub deed_at : Option Outcome → Option Placed → Option ℕ → Deed
deed_at (Some (Memory op)) (Some (Ok at)) reserve = deed_by op.what at reserve
deed_at (Some (Memory op)) (Some (Err fault)) reserve = Plain
deed_at (Some (Memory op)) None reserve = Plain
deed_at (Some (Long op)) placed reserve = Plain
deed_at (Some (System op)) placed reserve = system_deed op
deed_at (Some (Trap vector cause)) placed reserve = Plain
deed_at (Some (Done targets next)) placed reserve = Plain
deed_at None placed reserve = Plain

-- the deed of an instruction; one that raises an interrupt has none
abbrev pub deed_of : Option Raised → UnderWay → Option ℕ → Deed
deed_of (Some raised) it reserve = Plain
deed_of None it reserve = deed_at it.outcome it.placed reserve

-- an instruction from what it carries, and the interrupt that it raises
abbrev pub stepped_by : UnderWay → Option Raised → State → Stepped
stepped_by it trap state = record {
  carried = it;
  trap = trap;
  accesses = touch_of (word_page it.cia) ∷ touches_by it;
  deed = deed_of trap it state.regs.reserve;
  after = after_of trap it state;
}

-- an instruction from what it carries
abbrev pub stepped : UnderWay → State → Stepped
stepped it state = stepped_by it (raises_of it (get_slot state.regs) state.regs.msr) state

-- the instruction at an address, from what its fetch gives and its words
abbrev pub step_of : Result ℕ StorageFault → Option Fetched → ℕ → State → Stepped
step_of fetch words at state = stepped (under_way_of fetch words (page_real state.ram state.regs) at state.regs) state

-- the next instruction
unfoldable pub step : State → Stepped
step state = step_of (fetch_at state.ram state.regs) (fetched state) state.regs.cia state

-- what is known of the next instruction that comes to an outcome: its words, what they are, and what that comes to
pub record IsKnown (words : Fetched) (insn : Insn) (outcome : Outcome) (state : State) : Type 0 where
  pub words_are : fetched state ≡ Some words
  pub insn_is : insn_of words ≡ Some insn
  pub outcome_is : exec_of insn (operands_of insn state.regs) state.regs.cia ≡ Some outcome

-- a fact on the access of an outcome, and on where it stands
abbrev pub OnPlaced : (MemOp → Stretches → Type 0) → Outcome → Option Placed → Type 0
OnPlaced P (Memory op) (Some (Ok at)) = P op at
OnPlaced P (Memory op) (Some (Err fault)) = ⊤
OnPlaced P (Memory op) None = ⊤
OnPlaced P (Long op) placed = ⊤
OnPlaced P (System op) placed = ⊤
OnPlaced P (Trap vector cause) placed = ⊤
OnPlaced P (Done targets next) placed = ⊤

-- a fact on the long operation, where an outcome is one
abbrev pub OnLong : (LongOp → Type 0) → Outcome → Type 0
OnLong P (Done targets next) = Unit {0}
OnLong P (Long op) = P op
OnLong P (System op) = Unit {0}
OnLong P (Trap vector cause) = Unit {0}
OnLong P (Memory op) = Unit {0}

-- a fact on the cause, where an outcome is an interrupt
abbrev pub OnTrap : (ℕ → Type 0) → Outcome → Type 0
OnTrap P (Done targets next) = ⊤
OnTrap P (Long op) = ⊤
OnTrap P (System op) = ⊤
OnTrap P (Trap vector cause) = P cause
OnTrap P (Memory op) = ⊤

-- what is known of an outcome that can be carried out: no tick of a unit is done; an access has one of its lengths, its
-- stretches are those of its pages, and it raises nothing
pub record CanFinish (outcome : Outcome) (placed : Option Placed) : Type 0 where
  pub started : OnLong IsStarted outcome
  pub sized : OnMemory IsSized outcome
  pub stands : OnPlaced IsPlaced outcome placed
  pub calm : OnPlaced (λ op at. raises_alignment op at ≡ false) outcome placed
