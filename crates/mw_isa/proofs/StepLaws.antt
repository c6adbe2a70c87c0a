-- What a step is, from its parts.
use Rattle.std.proofs.Common.{◌≡◌, ℕ, ◌+◌, Bool, true, false, not, ◌&&◌, ◌||◌, List, [], Option, Some, None, Result, Ok, Err, IsTrue, option_map, option_and_then, is_some, refl, ap, ap₂, ◌∙◌, arith, eq-eqb, cond}
use Rattle.std.specs.Option.{option_map_or}
use Rattle.mw_decode.specs.declared.insn.Insn.{Insn}
use Rattle.mw_decode.specs.declared.insn.Decoded.{Decoded}
use Rattle.mw_decode.specs.declared.insn.Decoded.TheVariants.{Insn as Is, Unavailable, Alignment, Illegal}
use Rattle.mw_isa.specs.declared.event.Event.TheVariants.{Irq}
use Rattle.mw_isa.specs.declared.fetched.Fetched.{Fetched}
use Rattle.mw_isa.specs.declared.memory.MemOp.{MemOp}
use Rattle.mw_isa.specs.declared.memory.MemWhat.{MemWhat}
use Rattle.mw_isa.specs.declared.memory.MemWhat.TheVariants.{Load, Store, Conditional, Zero, Clean, Icbi}
use Rattle.mw_isa.specs.declared.outcome.Outcome.{Outcome}
use Rattle.mw_isa.specs.declared.outcome.Outcome.TheVariants.{Done, Long, Memory, System, Trap}
use Rattle.mw_isa.specs.declared.access.Kind.TheVariants.{Fetch}
use Rattle.mw_isa.specs.declared.pages.Stretches.{Stretches}
use Rattle.mw_isa.specs.declared.pages.StorageFault.{StorageFault}
use Rattle.mw_isa.specs.declared.raised.Raised.{Raised}
use Rattle.mw_isa.specs.declared.numbered.Numbered.{Numbered}
use Rattle.mw_isa.specs.declared.numbered.Numbered.TheVariants.{Xer, Lr, Ctr, Dsisr, Dar, Dec, Srr0, Srr1, Pidr, Sprg, TimeBase, TimeBaseUpper, TimeBaseHalf, Pvr, Hsprg, Hsrr0, Hsrr1, Prtbl, Tar, Pir}
use Rattle.mw_isa.specs.declared.numbered.SprRefusal.{SprRefusal}
use Rattle.mw_isa.specs.declared.numbered.Use.TheVariants.{Write}
use Rattle.mw_isa.specs.declared.system.SysOp.{SysOp}
use Rattle.mw_isa.specs.declared.system.SysOp.TheVariants.{ReadSpr, WriteSpr, WriteMsr, Return, Tlbie, Sync, Isync}
use Rattle.mw_isa.specs.Sprs.{devices_with, held, is_problem, refusal_of, register_for, result_unless, with_content, write_of}
use Rattle.mw_isa.specs.System.{held_or, system_done}
use Rattle.mw_isa.specs.Faults.{fault_raises}
use Rattle.mw_isa.specs.Raises.{Placed, cut_raised, cut_raises, decoded_raises, earlier, fetch_raises, first_raised, words_raise}
use Rattle.mw_isa.specs.Vectors.{address_of}
use Rattle.mw_isa.specs.Words.{insn_in, insn_of, decoded_of}
use Rattle.mw_isa.specs.declared.regs.Regs.{Regs}
use Rattle.mw_isa.specs.declared.vector.Vector.{Vector}
use Rattle.mw_isa.specs.State.{State}
use Rattle.mw_isa.specs.Choose.{chosen, interrupted}
use Rattle.mw_isa.specs.Cycle.{event_at, next_event_by, next_event, passed, passed_by}
use Rattle.mw_isa.specs.Prompt.{irq_of, is_prompt}
use Rattle.mw_isa.specs.Pages.{is_in_ram}
use Rattle.mw_isa.specs.Fetch.{fetch_at, fetched, fetched_by, is_cut, word_of, suffix_of}
use Rattle.mw_isa.specs.Slots.{get_slot}
use Rattle.mw_isa.specs.Translate.{page_real}
use Rattle.mw_isa.specs.Reads.{operands_of}
use Rattle.mw_isa.specs.Execute.{exec_of}
use Rattle.mw_soc.specs.DeviceData.{DeviceData}
use Rattle.mw_soc.specs.Devices.{cycle_of}
use Rattle.mw_soc.proofs.Laws.{cycle-device_load, cycle-device_store}
use Rattle.mw_isa.specs.Storage.{accessed, is_reserved, stores, devices_loaded, devices_stored}
use Rattle.mw_isa.specs.Step.{IsKnown, UnderWay, step, under_way, outcome_of, placed_of, written, state_behind, after_of, raises_of, regs_raised, outcome_parts, end_raises, marked}
use Rattle.mw_isa.specs.Replay.{acted, chooses, cycle_of_event, raises, retires, same_suffix}

-- what an instruction carries that comes to an outcome
abbrev pub known : Fetched → Insn → Outcome → State → UnderWay
known words insn outcome state = record {
  cia = state.regs.cia;
  real = fetch_at state.ram state.regs;
  words = Some words;
  insn = Some insn;
  outcome = Some outcome;
  placed = placed_of (page_real state.ram state.regs) outcome;
}

-- what an instruction comes to, once it is known
outcome_of-known : (insn : Insn) (outcome : Outcome) (state : State) → exec_of insn (operands_of insn state.regs) state.regs.cia ≡ Some outcome → outcome_of (Some insn) state.regs.cia state.regs ≡ Some outcome
unfolding outcome_of
outcome_of-known insn outcome state e = e

-- what an instruction carries, once its words and what they are is known
carried : Option Fetched → Option Insn → Option Outcome → State → UnderWay
carried words insn outcome state = record {
  cia = state.regs.cia;
  real = fetch_at state.ram state.regs;
  words = words;
  insn = insn;
  outcome = outcome;
  placed = option_and_then (placed_of (page_real state.ram state.regs)) outcome;
}

-- the next instruction carries what is known of it
pub under_way-known : (words : Fetched) (insn : Insn) (outcome : Outcome) (state : State) → IsKnown words insn outcome state → under_way state ≡ known words insn outcome state
unfolding under_way carried
under_way-known words insn outcome state k =
    ap (λ (w : Option Fetched). carried w (option_and_then insn_of w) (outcome_of (option_and_then insn_of w) state.regs.cia state.regs) state) k.words_are
    ∙ ap (λ (i : Option Insn). carried (Some words) i (outcome_of i state.regs.cia state.regs) state) k.insn_is
    ∙ ap (λ (o : Option Outcome). carried (Some words) (Some insn) o state) (outcome_of-known insn outcome state k.outcome_is)

-- words that are cut off are no instruction
pub insn_of-cut : (words : Fetched) → is_cut words ≡ true → insn_of words ≡ None
insn_of-cut words cut = ap (λ (b : Bool). cond b None (insn_in (decoded_of words))) cut

-- words that aren't cut off are the instruction that they decode to, if there is one
pub insn_of-whole : (words : Fetched) (what : Decoded) → is_cut words ≡ false → decoded_of words ≡ what → insn_of words ≡ insn_in what
insn_of-whole words what whole is = ap₂ (λ (b : Bool) (w : Decoded). cond b None (insn_in w)) whole is

-- words that are an instruction aren't cut off, and decode to it
is-by : (cut : Bool) (what : Decoded) (insn : Insn) → cond cut None (insn_in what) ≡ Some insn → (cut ≡ false) × (what ≡ Is insn)
is-by true what insn e = cc
is-by false (Is other) insn e =
    let same : other ≡ insn = cc in
    (refl, ap Is same)
is-by false (Unavailable facility) insn e = cc
is-by false (Alignment ra rb disp) insn e = cc
is-by false Illegal insn e = cc

-- what words and what they come to raise, by the words' own part
chain_of : Fetched → Option Raised → Option Raised → Option Raised
chain_of words by_words by_outcome = option_map (marked (Some words)) (earlier (cut_raises words) (earlier by_words by_outcome))

-- what an instruction raises by what its words come to
by_outcome : UnderWay → State → Option Raised
by_outcome it state = first_raised (option_map_or (λ outcome. outcome_parts outcome it.placed state.regs.msr) it.outcome [])

-- what an instruction raises, by its fetch, its words, and what they come to
chain_by : Option Raised → Option Fetched → State → Option Raised
chain_by by_fetch words state = option_map (marked words) (earlier by_fetch (earlier (option_and_then cut_raises words) (earlier (option_and_then (λ there. words_raise there (get_slot state.regs)) words) (by_outcome (under_way state) state))))

-- a fetch that gives words raises nothing
calm-fetch : (ram : List ℕ) (fetch : Result ℕ StorageFault) (at : ℕ) (words : Fetched) → fetched_by ram fetch ≡ Some words → fetch_raises fetch at ≡ None
calm-fetch ram (Ok real) at words e = refl
calm-fetch ram (Err fault) at words e = cc

-- what is raised behind words that were fetched
trap-chain : (words : Fetched) (state : State) → fetched state ≡ Some words → (step state).trap ≡ chain_of words (words_raise words (get_slot state.regs)) (by_outcome (under_way state) state)
unfolding step under_way chain_of by_outcome chain_by
trap-chain words state w =
    ap₂ (λ (by_fetch : Option Raised) (o : Option Fetched). chain_by by_fetch o state) (calm-fetch state.ram (fetch_at state.ram state.regs) state.regs.cia words w) w

-- the mark of a fetch that failed is none
marked-none : (raised : Raised) → marked None raised ≡ raised
marked-none raised =
    let same : raised.cause + 0 ≡ raised.cause = omega arith in
    ap (λ (cause : ℕ). record raised { cause = cause }) same

-- a step whose fetch fails traps by that
pub trapped-fault : (fault : StorageFault) (state : State) → fetch_at state.ram state.regs ≡ Err fault → (step state).trap ≡ Some (fault_raises fault Fetch state.regs.cia)
unfolding step under_way chain_by outcome_of by_outcome
trapped-fault fault state e =
    ap (λ (fetch : Result ℕ StorageFault). chain_by (fetch_raises fetch state.regs.cia) (fetched_by state.ram fetch) state) e
    ∙ ap Some (marked-none (fault_raises fault Fetch state.regs.cia))

-- a step whose words are cut off traps by that
pub trapped-cut : (words : Fetched) (state : State) → fetched state ≡ Some words → is_cut words ≡ true → (step state).trap ≡ Some (marked (Some words) cut_raised)
unfolding chain_of
trapped-cut words state w cut =
    trap-chain words state w
    ∙ ap (λ (b : Bool). option_map (marked (Some words)) (earlier (cond b (Some cut_raised) None) (earlier (words_raise words (get_slot state.regs)) (by_outcome (under_way state) state)))) cut

-- a step whose words raise an interrupt traps by its words
pub trapped-words : (words : Fetched) (raised : Raised) (state : State) → fetched state ≡ Some words → is_cut words ≡ false → words_raise words (get_slot state.regs) ≡ Some raised → (step state).trap ≡ Some (marked (Some words) raised)
unfolding chain_of
trapped-words words raised state w whole raises =
    trap-chain words state w
    ∙ ap₂ (λ (b : Bool) (r : Option Raised). option_map (marked (Some words)) (earlier (cond b (Some cut_raised) None) (earlier r (by_outcome (under_way state) state)))) whole raises

-- a step that comes to an outcome traps by that, or doesn't trap
pub trap-known : (words : Fetched) (insn : Insn) (outcome : Outcome) (state : State) → IsKnown words insn outcome state → (step state).trap ≡ option_map (marked (Some words)) (end_raises outcome (placed_of (page_real state.ram state.regs) outcome) state.regs.msr)
unfolding chain_of by_outcome
trap-known words insn outcome state k =
    let is = is-by (is_cut words) (decoded_of words) insn k.insn_is in
    trap-chain words state k.words_are
    ∙ ap (λ (it : UnderWay). chain_of words (words_raise words (get_slot state.regs)) (by_outcome it state)) (under_way-known words insn outcome state k)
    ∙ ap₂ (λ (b : Bool) (d : Decoded). option_map (marked (Some words)) (earlier (cond b (Some cut_raised) None) (earlier (decoded_raises d (get_slot state.regs)) (end_raises outcome (placed_of (page_real state.ram state.regs) outcome) state.regs.msr)))) is.0 is.1

-- a step that traps takes its interrupt, and changes nothing else
pub after-trapped : (raised : Raised) (state : State) → (step state).trap ≡ Some raised → (step state).after ≡ record state { regs = regs_raised raised state.regs.cia state.regs }
unfolding step under_way
after-trapped raised state e = ap (λ (trap : Option Raised). after_of trap (under_way state) state) e

-- a step that doesn't trap leaves what its outcome leaves
pub after-known : (words : Fetched) (insn : Insn) (outcome : Outcome) (state : State) → IsKnown words insn outcome state → (step state).trap ≡ None → (step state).after ≡ state_behind (Some insn) (Some outcome) (placed_of (page_real state.ram state.regs) outcome) state.regs.cia state
unfolding step under_way
after-known words insn outcome state k calm =
    ap (λ (trap : Option Raised). after_of trap (under_way state) state) calm
    ∙ ap (λ (it : UnderWay). after_of None it state) (under_way-known words insn outcome state k)

-- a suffix is itself
same_suffix-refl : (suffix : Option ℕ) → same_suffix suffix suffix ≡ true
same_suffix-refl None = refl
same_suffix-refl (Some x) = eq-eqb x x refl

-- both tests hold
both : {a b : Bool} → a ≡ true → b ≡ true → (a && b) ≡ true
both p q = ap₂ (λ (x : Bool) (y : Bool). x && y) p q

-- an instruction that raises nothing retires, by the words that it is made of
retires-calm : (state : State) → (step state).trap ≡ None → retires state state.regs.cia (word_of (fetched state)) (suffix_of (fetched state)) ≡ true
unfolding step under_way
retires-calm state calm =
    both (ap (λ (trap : Option Raised). not (is_some trap)) calm) (both (eq-eqb state.regs.cia state.regs.cia refl) (both (eq-eqb (word_of (fetched state)) (word_of (fetched state)) refl) (same_suffix-refl (suffix_of (fetched state)))))

-- what the next instruction leaves is what its event makes of the state, whether it raises an interrupt
acted-at : (trap : Option Raised) (state : State) → (step state).trap ≡ trap → acted (event_at trap state) state ≡ Some (step state).after
unfolding acted
acted-at None state is = ap (λ (c : Bool). cond c (Some (step state).after) None) (retires-calm state is)
acted-at (Some raised) state is =
    ap (λ (c : Bool). cond c (Some (step state).after) None) (both (eq-eqb state.regs.cia state.regs.cia refl) (ap (λ (trap : Option Raised). raises trap raised.vector) is ∙ eq-eqb (address_of raised.vector) (address_of raised.vector) refl))

-- the interrupt that is chosen is taken, at the next instruction's address
acted-interrupted : (cycle : ℕ) (vector : Vector) (state : State) → chosen state ≡ Some vector → acted (Irq cycle state.regs.cia vector) state ≡ Some (interrupted vector state)
unfolding acted
acted-interrupted cycle vector state e =
    ap (λ (c : Bool). cond c (Some (interrupted vector state)) None) (both (eq-eqb state.regs.cia state.regs.cia refl) (ap (λ (choice : Option Vector). chooses choice vector) e ∙ eq-eqb (address_of vector) (address_of vector) refl))

-- of two devices with one cycle either has it
one-cycle : (b : Bool) (x y : DeviceData) (cycle : ℕ) → cycle_of x ≡ cycle → cycle_of y ≡ cycle → cycle_of (cond b x y) ≡ cycle
one-cycle true x y cycle p q = p
one-cycle false x y cycle p q = q

-- a load leaves the devices' cycle
loaded-cycle : (what : MemWhat) (at : Stretches) (devices : DeviceData) → cycle_of (devices_loaded what at devices) ≡ cycle_of devices
loaded-cycle (Load signed reversed reserve) at devices = one-cycle (is_in_ram at) devices _ (cycle_of devices) refl (cycle-device_load devices _ _)
loaded-cycle (Store reversed) at devices = refl
loaded-cycle (Conditional reversed) at devices = refl
loaded-cycle Zero at devices = refl
loaded-cycle Clean at devices = refl
loaded-cycle Icbi at devices = refl

-- a store leaves the devices' cycle
stored-cycle : (what : MemWhat) (op : MemOp) (at : Stretches) (reserved : Bool) (devices : DeviceData) → cycle_of (devices_stored what op at reserved devices) ≡ cycle_of devices
stored-cycle what op at reserved devices = one-cycle (stores what reserved && not (is_in_ram at)) _ devices (cycle_of devices) (cycle-device_store devices _ _) refl

-- an access leaves the devices' cycle
accessed-cycle : (op : MemOp) (at : Stretches) (state : State) → cycle_of (accessed op at state).devices ≡ cycle_of state.devices
unfolding accessed
accessed-cycle op at state =
    stored-cycle op.what op at (is_reserved at state.regs.reserve) (devices_loaded op.what at state.devices)
    ∙ loaded-cycle op.what at state.devices

-- a write by number leaves the devices' cycle
content-cycle : (register : Numbered) (value : ℕ) (devices : DeviceData) → cycle_of (devices_with register value devices) ≡ cycle_of devices
content-cycle Xer value devices = refl
content-cycle Lr value devices = refl
content-cycle Ctr value devices = refl
content-cycle Dsisr value devices = refl
content-cycle Dar value devices = refl
content-cycle Dec value devices = refl
content-cycle Srr0 value devices = refl
content-cycle Srr1 value devices = refl
content-cycle Pidr value devices = refl
content-cycle (Sprg n) value devices = refl
content-cycle TimeBase value devices = refl
content-cycle TimeBaseUpper value devices = refl
content-cycle TimeBaseHalf value devices = refl
content-cycle Pvr value devices = refl
content-cycle (Hsprg n) value devices = refl
content-cycle Hsrr0 value devices = refl
content-cycle Hsrr1 value devices = refl
content-cycle Prtbl value devices = refl
content-cycle Tar value devices = refl
content-cycle Pir value devices = refl

held-cycle : (refusal : Option SprRefusal) (register : Option Numbered) (value : ℕ) (regs : Regs) (devices : DeviceData) → cycle_of (held_or (result_unless refusal (with_content register value regs devices)) (held regs devices)).devices ≡ cycle_of devices
held-cycle (Some refusal) register value regs devices = refl
held-cycle None None value regs devices = refl
held-cycle None (Some register) value regs devices = content-cycle register value devices

system-cycle : (op : SysOp) (state : State) → cycle_of (system_done op state).devices ≡ cycle_of state.devices
unfolding write_of
system-cycle (ReadSpr to spr) state = refl
system-cycle (WriteSpr spr value) state = held-cycle (refusal_of Write spr (is_problem state.regs)) (register_for Write spr) value state.regs state.devices
system-cycle (WriteMsr value l) state = refl
system-cycle (Return hypervisor) state = refl
system-cycle (Tlbie scope) state = refl
system-cycle (Sync l) state = refl
system-cycle Isync state = refl

-- an outcome leaves the devices' cycle
written-cycle : (outcome : Outcome) (placed : Option Placed) (state : State) → cycle_of (written outcome placed state).devices ≡ cycle_of state.devices
written-cycle (Done targets next) placed state = refl
written-cycle (Long op) placed state = refl
written-cycle (System op) placed state = system-cycle op state
written-cycle (Trap vector cause) placed state = refl
written-cycle (Memory op) None state = refl
written-cycle (Memory op) (Some (Err fault)) state = refl
written-cycle (Memory op) (Some (Ok at)) state = accessed-cycle op at state

behind-cycle : (insn : Option Insn) (outcome : Option Outcome) (placed : Option Placed) (at : ℕ) (state : State) → cycle_of (state_behind insn outcome placed at state).devices ≡ cycle_of state.devices
behind-cycle None outcome placed at state = refl
behind-cycle (Some insn) None placed at state = refl
behind-cycle (Some insn) (Some outcome) placed at state = written-cycle outcome placed state

-- an instruction leaves the devices' cycle
pub after_of-cycle : (trap : Option Raised) (it : UnderWay) (state : State) → cycle_of (after_of trap it state).devices ≡ cycle_of state.devices
after_of-cycle (Some raised) it state = refl
after_of-cycle None it state = behind-cycle it.insn it.outcome it.placed it.cia state

-- a step leaves the devices' cycle
pub step-cycle : (state : State) → cycle_of (step state).after.devices ≡ cycle_of state.devices
unfolding step under_way
step-cycle state = after_of-cycle (raises_of (under_way state) (get_slot state.regs) state.regs.msr) (under_way state) state

-- a cycle leaves the devices at theirs, whatever is chosen
passed_by-cycle : (choice : Option Vector) (state : State) → cycle_of (passed_by choice state).devices ≡ cycle_of state.devices
passed_by-cycle None state = step-cycle state
passed_by-cycle (Some vector) state = refl

-- a cycle leaves the devices at their cycle
pub passed-cycle : (state : State) → cycle_of (passed state).devices ≡ cycle_of state.devices
passed-cycle state = passed_by-cycle (chosen state) state

-- where no interrupt is chosen, whatever happens is prompt
prompt-calm : (takes : Bool) → IsTrue (takes || true)
prompt-calm true = refl
prompt-calm false = refl

-- each cycle has an event, which makes of the state what the cycle does, whatever is chosen
acts-by : (choice : Option Vector) (state : State) → chosen state ≡ choice → acted (next_event_by choice state) state ≡ Some (passed_by choice state)
acts-by None state e = acted-at (step state).trap state refl
acts-by (Some vector) state e = acted-interrupted (cycle_of state.devices) vector state e

-- each cycle has an event, which makes of the state what the cycle does
pub cycle-acts : (state : State) → acted (next_event state) state ≡ Some (passed state)
cycle-acts state = acts-by (chosen state) state refl

-- that event has the devices' cycle, whatever is chosen
event_at-cycle : (trap : Option Raised) (state : State) → cycle_of_event (event_at trap state) ≡ cycle_of state.devices
event_at-cycle None state = refl
event_at-cycle (Some raised) state = refl

next_event_by-cycle : (choice : Option Vector) (state : State) → cycle_of_event (next_event_by choice state) ≡ cycle_of state.devices
next_event_by-cycle None state = event_at-cycle (step state).trap state
next_event_by-cycle (Some vector) state = refl

-- that event has the devices' cycle
pub next_event-cycle : (state : State) → cycle_of_event (next_event state) ≡ cycle_of state.devices
next_event-cycle state = next_event_by-cycle (chosen state) state

-- that event leaves no interrupt waiting, whatever is chosen
prompt-by : (choice : Option Vector) (state : State) → IsTrue (is_some (irq_of (next_event_by choice state)) || not (is_some choice))
prompt-by None state = prompt-calm (is_some (irq_of (next_event_by None state)))
prompt-by (Some vector) state = refl

-- that event leaves no interrupt waiting
pub cycle-prompt : (state : State) → IsTrue (is_prompt (next_event state) state)
cycle-prompt state = prompt-by (chosen state) state
