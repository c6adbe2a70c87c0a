-- What an instruction depends on in RAM: the doublewords of tables that its walks read, its words, and the bytes that it
-- loads; and what it makes of RAM.
use Rattle.std.specs.Prelude.{ℕ, ⊤, ◌≡◌, true, if◌then◌else◌, List, [], ◌++◌, Option, Some, None, Result, Ok, Err, IfOk}
use Rattle.mw_isa.specs.declared.memory.MemOp.{MemOp}
use Rattle.mw_isa.specs.declared.memory.MemWhat.{MemWhat}
use Rattle.mw_isa.specs.declared.memory.MemWhat.TheVariants.{Load}
use Rattle.mw_isa.specs.declared.outcome.Outcome.{Outcome}
use Rattle.mw_isa.specs.declared.outcome.Outcome.TheVariants.{Memory}
use Rattle.mw_isa.specs.declared.pages.Page.{Page}
use Rattle.mw_isa.specs.declared.pages.Pages.{Pages}
use Rattle.mw_isa.specs.declared.pages.StorageFault.{StorageFault}
use Rattle.mw_isa.specs.declared.pages.Stretches.{Stretches}
use Rattle.mw_isa.specs.declared.raised.Raised.{Raised}
use Rattle.mw_isa.specs.declared.regs.Regs.{Regs}
use Rattle.mw_isa.specs.Fetch.{fetch_at, fetched_at, word_page}
use Rattle.mw_isa.specs.Pages.{bytes_in, is_in_ram}
use Rattle.mw_isa.specs.Raises.{Placed}
use Rattle.mw_isa.specs.State.{State}
use Rattle.mw_isa.specs.Step.{Stepped, step, under_way}
use Rattle.mw_isa.specs.Storage.{is_reserved, is_unaligned_exclusive, pages_of, ram_behind}
use Rattle.mw_isa.specs.Translate.{is_translated, page_real, quadrant_of}
use Rattle.mw_isa.specs.Walk.{AgreeOn, walk_of}

-- the real addresses of the doublewords that the walk of an effective address reads, where its quadrant has a process
abbrev pub reads_by : List ℕ → Regs → ℕ → Result ℕ StorageFault → List ℕ
reads_by ram regs ea (Ok pid) = (walk_of ram regs.prtbl pid ea).reads
reads_by ram regs ea (Err fault) = []

-- what a page's translation reads: nothing where addresses of its kind aren't translated
abbrev pub page_reads : List ℕ → Regs → Page → List ℕ
page_reads ram regs page = if is_translated page.kind regs.msr then reads_by ram regs page.ea (quadrant_of regs.pidr page.ea) else []

-- what the translation of a second page reads, which isn't tried behind a first page with a fault
abbrev pub second_reads : List ℕ → Regs → Result ℕ StorageFault → Option Page → List ℕ
second_reads ram regs (Ok real) (Some page) = page_reads ram regs page
second_reads ram regs (Ok real) None = []
second_reads ram regs (Err fault) second = []

-- what the translation of an access's pages reads
abbrev pub pages_read : List ℕ → Regs → Pages → List ℕ
pages_read ram regs pages = page_reads ram regs pages.first ++ second_reads ram regs (page_real ram regs pages.first) pages.second

-- what an access reads of tables: nothing where it is an exclusive one that isn't aligned
abbrev pub access_reads : List ℕ → Regs → MemOp → List ℕ
access_reads ram regs op = if is_unaligned_exclusive op then [] else pages_read ram regs (pages_of op)

-- what an outcome reads of tables
abbrev pub outcome_reads : List ℕ → Regs → Option Outcome → List ℕ
outcome_reads ram regs (Some (Memory op)) = access_reads ram regs op
outcome_reads ram regs outcome = []

-- the real addresses of the doublewords of tables that the next instruction's walks read, in order
abbrev pub step_reads : State → List ℕ
step_reads state = page_reads state.ram state.regs (word_page state.regs.cia) ++ outcome_reads state.ram state.regs (under_way state).outcome

-- two RAMs have the same bytes where an access to these stretches loads them
abbrev pub AgreeAt : MemWhat → Stretches → List ℕ → List ℕ → Type 0
AgreeAt (Load signed reversed reserve) at ram other = is_in_ram at ≡ true → bytes_in ram at ≡ bytes_in other at
AgreeAt what at ram other = ⊤

-- two RAMs have the same bytes where an instruction loads them, if it raises nothing
abbrev pub AgreeLoaded : Option Raised → Option Outcome → Option Placed → List ℕ → List ℕ → Type 0
AgreeLoaded None (Some (Memory op)) (Some (Ok at)) ram other = AgreeAt op.what at ram other
AgreeLoaded trap outcome placed ram other = ⊤

-- another RAM agrees with a state's on all that the next instruction depends on
pub record Agrees (other : List ℕ) (state : State) : Type 0 where
  -- on the doublewords that its walks read
  pub walks : AgreeOn state.ram other (step_reads state)
  -- on its words
  pub words : IfOk (fetch_at state.ram state.regs) (λ real. fetched_at state.ram real ≡ fetched_at other real)
  -- on the bytes that it loads
  pub loads : AgreeLoaded (step state).trap (step state).carried.outcome (step state).carried.placed state.ram other

-- what an outcome makes of RAM where it raises nothing, a block being reserved or not: it stores an access's bytes
abbrev pub ram_left : Option Raised → Option Outcome → Option Placed → Option ℕ → List ℕ → List ℕ
ram_left None (Some (Memory op)) (Some (Ok at)) reserve ram = ram_behind op.what op at (is_reserved at reserve) ram
ram_left trap outcome placed reserve ram = ram

-- what an instruction makes of RAM, a block being reserved or not before it
abbrev pub ram_after : Stepped → Option ℕ → List ℕ → List ℕ
ram_after it reserve ram = ram_left it.trap it.carried.outcome it.carried.placed reserve ram

-- a state with another RAM
abbrev pub with_ram : List ℕ → State → State
with_ram ram state = record state { ram = ram }

-- an instruction does on another RAM what it does on a state, and both have the same bytes stored
pub record IsLike (two one : Stepped) (other : List ℕ) (state : State) : Type 0 where
  pub words : two.carried.words ≡ one.carried.words
  pub outcome : two.carried.outcome ≡ one.carried.outcome
  pub trap : two.trap ≡ one.trap
  pub accesses : two.accesses ≡ one.accesses
  pub deed : two.deed ≡ one.deed
  pub regs : two.after.regs ≡ one.after.regs
  pub devices : two.after.devices ≡ one.after.devices
  pub ram : one.after.ram ≡ ram_after one state.regs.reserve state.ram
  pub beside : two.after.ram ≡ ram_after one state.regs.reserve other
