-- What the next instruction is, from what its parts gave.
use Rattle.std.proofs.Common.{◌≡◌, ℕ, true, false, Option, Some, None, Err, IfSome, option_map, refl, sym, ap, ◌∙◌, subst}
use Rattle.mw_decode.specs.declared.insn.Decoded.{Decoded}
use Rattle.mw_decode.specs.declared.insn.Decoded.TheVariants.{Insn as Is, Unavailable, Alignment, Illegal}
use Rattle.mw_decode.specs.Decode.{IsInsn, is_insn}
use Rattle.mw_isa.specs.declared.access.Kind.TheVariants.{Fetch}
use Rattle.mw_isa.specs.declared.fetched.Fetched.{Fetched}
use Rattle.mw_isa.specs.declared.outcome.Operands.{Operands}
use Rattle.mw_isa.specs.declared.pages.StorageFault.{StorageFault}
use Rattle.mw_isa.specs.declared.raised.Raised.{Raised}
use Rattle.mw_isa.specs.declared.slot.Slot.{Slot}
use Rattle.mw_isa.specs.State.{State}
use Rattle.mw_isa.specs.Faults.{fault_raises}
use Rattle.mw_isa.specs.Fetch.{fetch_at, fetched, is_cut}
use Rattle.mw_isa.specs.Raises.{Placed, cut_raised, decoded_raises, words_raise}
use Rattle.mw_isa.specs.Reads.{operands_of}
use Rattle.mw_isa.specs.Slots.{get_slot}
use Rattle.mw_isa.specs.Long.{IsStarted}
use Rattle.mw_isa.specs.Execute.{exec_of}
use Rattle.mw_isa.specs.Storage.{IsSized, OnMemory, IsPlaced}
use Rattle.mw_isa.specs.Step.{IsKnown, OnLong, OnPlaced, step, marked, end_raises, placed_of, state_behind}
use Rattle.mw_isa.specs.Take.{IsCause, IsUnmarked}
use Rattle.mw_isa.specs.Translate.{page_real}
use Rattle.mw_isa.specs.Words.{decoded_of, insn_in, insn_of}
use Rattle.mw_isa.proofs.RaiseLaws.{end-calm}
use Rattle.mw_isa.specs.Discipline.{next_packet, packet_coming, packet_raising}
use Rattle.mw_isa.proofs.PacketLaws.{packet-fault, packet-known, packet-words}
use Rattle.mw_isa.proofs.StepLaws.{after-known, insn_of-cut, insn_of-whole, trap-known, trapped-cut, trapped-fault, trapped-words}
use Rattle.mw_step.specs.declared.prepared.Prepared.{Prepared}
use Rattle.mw_step.specs.Prepared.{ComesTo, IsPrepared}

-- an interrupt that is there is prepared
trapped-is : (state : State) (prepared : Prepared) (raised : Raised) → (step state).trap ≡ Some raised → prepared.raised ≡ Some raised → IfSome prepared.raised (λ (it : Raised). IsCause it.cause) → prepared.packet ≡ next_packet state → IsPrepared prepared state
trapped-is state prepared raised trap is cause packet = record {
  raised = trap ∙ sym is;
  cause = cause;
  comes = λ none.
      let no : Some raised ≡ None = sym is ∙ none in
      cc;
  packet = packet;
}

-- a fetch that fails raises the interrupt of its fault
pub prepared-fault : (state : State) (prepared : Prepared) (fault : StorageFault) (raised : Raised) → fetch_at state.ram state.regs ≡ Err fault → raised ≡ fault_raises fault Fetch state.regs.cia → IsUnmarked raised.cause → prepared.raised ≡ Some raised → prepared.packet ≡ packet_raising state.regs.cia None prepared.raised → IsPrepared prepared state
prepared-fault state prepared fault raised failed r cause is seen =
    let trap : (step state).trap ≡ Some raised = trapped-fault fault state failed ∙ ap Some (sym r) in
    trapped-is state prepared raised trap is (subst (λ (o : Option Raised). IfSome o (λ (it : Raised). IsCause it.cause)) (sym is) cause.is)
    (seen ∙ ap (packet_raising state.regs.cia None) is ∙ sym (packet-fault fault raised state failed trap))

-- a prefix that is cut off raises the interrupt of a cut prefix
pub prepared-cut : (state : State) (prepared : Prepared) (cut marked_cut : Raised) → fetched state ≡ Some prepared.words → is_cut prepared.words ≡ true → cut ≡ cut_raised → marked_cut ≡ marked (Some prepared.words) cut → prepared.raised ≡ Some marked_cut → IfSome prepared.raised (λ (it : Raised). IsCause it.cause) → prepared.packet ≡ packet_raising state.regs.cia (Some prepared.words) prepared.raised → IsPrepared prepared state
prepared-cut state prepared cut marked_cut there is_cut c m r cause seen =
    let raised : prepared.raised ≡ Some (marked (Some prepared.words) cut_raised) = r ∙ ap Some (m ∙ ap (marked (Some prepared.words)) c) in
    let trap = trapped-cut prepared.words state there is_cut in
    trapped-is state prepared (marked (Some prepared.words) cut_raised) trap raised cause
    (seen ∙ ap (packet_raising state.regs.cia (Some prepared.words)) raised ∙ sym (packet-words prepared.words (marked (Some prepared.words) cut_raised) state there (insn_of-cut prepared.words is_cut) trap))

-- words that are no instruction raise an interrupt
some-raised : (what : Decoded) (view : Slot → ℕ) → is_insn what ≡ false → (raised : Raised) × (decoded_raises what view ≡ Some raised)
some-raised (Is insn) view e = cc
some-raised (Unavailable facility) view e = (_, refl)
some-raised (Alignment ra rb disp) view e = (_, refl)
some-raised Illegal view e = (_, refl)

-- words that are no instruction by the test are no instruction
none-insn : (what : Decoded) → is_insn what ≡ false → insn_in what ≡ None
none-insn (Is insn) e = cc
none-insn (Unavailable facility) e = refl
none-insn (Alignment ra rb disp) e = refl
none-insn Illegal e = refl

-- words that are no instruction are prepared with the interrupt that they raise
pub prepared-words : (state : State) (prepared : Prepared) (raised : Option Raised) → fetched state ≡ Some prepared.words → is_cut prepared.words ≡ false → is_insn (decoded_of prepared.words) ≡ false → raised ≡ words_raise prepared.words (get_slot state.regs) → prepared.raised ≡ option_map (marked (Some prepared.words)) raised → IfSome prepared.raised (λ (it : Raised). IsCause it.cause) → prepared.packet ≡ packet_raising state.regs.cia (Some prepared.words) prepared.raised → IsPrepared prepared state
prepared-words state prepared raised there whole none w r cause seen =
    let some = some-raised (decoded_of prepared.words) (get_slot state.regs) none in
    let is : prepared.raised ≡ Some (marked (Some prepared.words) some.0) = r ∙ ap (option_map (marked (Some prepared.words))) (w ∙ some.1) in
    let trap = trapped-words prepared.words some.0 state there whole some.1 in
    let nothing = insn_of-whole prepared.words (decoded_of prepared.words) whole refl ∙ none-insn (decoded_of prepared.words) none in
    trapped-is state prepared (marked (Some prepared.words) some.0) trap is cause
    (seen ∙ ap (packet_raising state.regs.cia (Some prepared.words)) is ∙ sym (packet-words prepared.words (marked (Some prepared.words) some.0) state there nothing trap))

-- what was found of an instruction, part by part
pub record Looked (state : State) (prepared : Prepared) (operands : Operands) (raised : Option Raised) : Type 0 where
  pub there : fetched state ≡ Some prepared.words
  pub insn_is : insn_of prepared.words ≡ Some prepared.insn
  pub operands_are : operands ≡ operands_of prepared.insn state.regs
  pub outcome : exec_of prepared.insn operands state.regs.cia ≡ Some prepared.outcome
  pub placed : prepared.placed ≡ placed_of (page_real state.ram state.regs) prepared.outcome
  pub raises : raised ≡ end_raises prepared.outcome prepared.placed state.regs.msr
  pub marks : prepared.raised ≡ option_map (marked (Some prepared.words)) raised
  pub cause : IfSome prepared.raised (λ it. IsCause it.cause)
  pub is : IsInsn prepared.insn
  pub started : OnLong IsStarted prepared.outcome
  pub sized : OnMemory IsSized prepared.outcome
  pub stands : OnPlaced IsPlaced prepared.outcome prepared.placed
  pub seen : prepared.packet ≡ packet_coming state.regs.cia prepared.words prepared.outcome prepared.placed prepared.raised state.regs.reserve

-- an instruction that was looked at is known
looked-known : (state : State) (prepared : Prepared) (operands : Operands) (raised : Option Raised) → Looked state prepared operands raised → IsKnown prepared.words prepared.insn prepared.outcome state
looked-known state prepared operands raised l = record {
  words_are = l.there;
  insn_is = l.insn_is;
  outcome_is = ap (λ (v : Operands). exec_of prepared.insn v state.regs.cia) (sym l.operands_are) ∙ l.outcome;
}

-- an interrupt that isn't there once it is marked isn't there before
none-marked : (words : Fetched) (raised : Option Raised) → option_map (marked (Some words)) raised ≡ None → raised ≡ None
none-marked words None e = refl
none-marked words (Some raised) e = cc

looked-comes : (state : State) (prepared : Prepared) (operands : Operands) (raised : Option Raised) → Looked state prepared operands raised → prepared.raised ≡ None → ComesTo prepared state
looked-comes state prepared operands raised l calm = record {
  known = looked-known state prepared operands raised l;
  placed = l.placed;
  is = l.is;
  can = record {
    started = l.started;
    sized = l.sized;
    stands = l.stands;
    calm = end-calm prepared.outcome prepared.placed state.regs.msr (sym l.raises ∙ none-marked prepared.words raised (sym l.marks ∙ calm));
  };
}

-- an instruction that was looked at raises the interrupt that was found
looked-trap : (state : State) (prepared : Prepared) (operands : Operands) (raised : Option Raised) → Looked state prepared operands raised → (step state).trap ≡ prepared.raised
looked-trap state prepared operands raised l =
    trap-known prepared.words prepared.insn prepared.outcome state (looked-known state prepared operands raised l)
    ∙ ap (λ (place : Option Placed). option_map (marked (Some prepared.words)) (end_raises prepared.outcome place state.regs.msr)) (sym l.placed)
    ∙ ap (option_map (marked (Some prepared.words))) (sym l.raises)
    ∙ sym l.marks

-- the discipline sees of an instruction that was looked at what was found
looked-packet : (state : State) (prepared : Prepared) (operands : Operands) (raised : Option Raised) → Looked state prepared operands raised → prepared.packet ≡ next_packet state
looked-packet state prepared operands raised l =
    l.seen
    ∙ ap (λ (place : Option Placed). packet_coming state.regs.cia prepared.words prepared.outcome place prepared.raised state.regs.reserve) l.placed
    ∙ sym (packet-known prepared.words prepared.insn prepared.outcome prepared.raised state (looked-known state prepared operands raised l) (looked-trap state prepared operands raised l))

-- an instruction that was looked at is prepared
pub looked-prepared : (state : State) (prepared : Prepared) (operands : Operands) (raised : Option Raised) → Looked state prepared operands raised → IsPrepared prepared state
looked-prepared state prepared operands raised l = record {
  raised = looked-trap state prepared operands raised l;
  cause = l.cause;
  comes = looked-comes state prepared operands raised l;
  packet = looked-packet state prepared operands raised l;
}

-- the step of what is prepared leaves what its outcome leaves
pub prepared-after : (prepared : Prepared) (state : State) → IsPrepared prepared state → prepared.raised ≡ None → (step state).after ≡ state_behind (Some prepared.insn) (Some prepared.outcome) prepared.placed state.regs.cia state
prepared-after prepared state p calm =
    let to = p.comes calm in
    after-known prepared.words prepared.insn prepared.outcome state to.known (p.raised ∙ calm)
    ∙ ap (λ (v : Option Placed). state_behind (Some prepared.insn) (Some prepared.outcome) v state.regs.cia state) (sym to.placed)
