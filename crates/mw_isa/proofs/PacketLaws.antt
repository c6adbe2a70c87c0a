-- What the update discipline sees of the next instruction, from its parts.
use Rattle.std.proofs.Common.{◌≡◌, ℕ, Option, Some, None, Result, Err, option_map, option_and_then, refl, ap, ◌∙◌}
use Rattle.mw_decode.specs.declared.insn.Insn.{Insn}
use Rattle.mw_isa.specs.declared.access.Deed.{Deed}
use Rattle.mw_isa.specs.declared.fetched.Fetched.{Fetched}
use Rattle.mw_isa.specs.declared.outcome.Outcome.{Outcome}
use Rattle.mw_isa.specs.declared.packet.Packet.{Packet}
use Rattle.mw_isa.specs.declared.pages.StorageFault.{StorageFault}
use Rattle.mw_isa.specs.declared.raised.Raised.{Raised}
use Rattle.mw_isa.specs.Discipline.{deed_unless, next_packet, packet_coming, packet_raising}
use Rattle.mw_isa.specs.Fetch.{fetch_at, fetched, fetched_by, suffix_of, word_of}
use Rattle.mw_isa.specs.State.{State}
use Rattle.mw_isa.specs.Step.{IsKnown, UnderWay, deed_of, outcome_of, placed_of, step, touches_by, under_way}
use Rattle.mw_isa.specs.Translate.{page_real}
use Rattle.mw_isa.specs.Words.{insn_of}
use Rattle.mw_isa.proofs.StepLaws.{known, under_way-known}

-- what the discipline sees of an instruction that carries this and raises this
packet_with : UnderWay → Option Raised → Option ℕ → Packet
packet_with it trap reserve = record {
  cia = it.cia;
  word = word_of it.words;
  suffix = suffix_of it.words;
  touches = record { items = touches_by it };
  deed = deed_of trap it reserve;
  trap = option_map (λ raised. raised.vector) trap;
}

packet-parts : (trap : Option Raised) (state : State) → (step state).trap ≡ trap → next_packet state ≡ packet_with (under_way state) trap state.regs.reserve
unfolding step under_way packet_with
packet-parts trap state e = ap (λ (raises : Option Raised). packet_with (under_way state) raises state.regs.reserve) e

-- what an instruction carries that has these words and is nothing
nothing : Result ℕ StorageFault → Option Fetched → Option Insn → State → UnderWay
nothing fetch words insn state = record {
  cia = state.regs.cia;
  real = fetch;
  words = words;
  insn = insn;
  outcome = outcome_of insn state.regs.cia state.regs;
  placed = option_and_then (placed_of (page_real state.ram state.regs)) (outcome_of insn state.regs.cia state.regs);
}

-- of an instruction whose fetch fails the discipline sees its address and its interrupt
pub packet-fault : (fault : StorageFault) (raised : Raised) (state : State) → fetch_at state.ram state.regs ≡ Err fault → (step state).trap ≡ Some raised → next_packet state ≡ packet_raising state.regs.cia None (Some raised)
unfolding packet_with under_way nothing outcome_of
packet-fault fault raised state failed trap =
    packet-parts (Some raised) state trap
    ∙ ap (λ (fetch : Result ℕ StorageFault). packet_with (nothing fetch (fetched_by state.ram fetch) (option_and_then insn_of (fetched_by state.ram fetch)) state) (Some raised) state.regs.reserve) failed

-- of words that are no instruction it sees them and their interrupt
pub packet-words : (words : Fetched) (raised : Raised) (state : State) → fetched state ≡ Some words → insn_of words ≡ None → (step state).trap ≡ Some raised → next_packet state ≡ packet_raising state.regs.cia (Some words) (Some raised)
unfolding packet_with under_way nothing outcome_of
packet-words words raised state there none trap =
    packet-parts (Some raised) state trap
    ∙ ap (λ (w : Option Fetched). packet_with (nothing (fetch_at state.ram state.regs) w (option_and_then insn_of w) state) (Some raised) state.regs.reserve) there
    ∙ ap (λ (insn : Option Insn). packet_with (nothing (fetch_at state.ram state.regs) (Some words) insn state) (Some raised) state.regs.reserve) none

-- that is the deed of an instruction that comes to the outcome
deed-known : (trap : Option Raised) (words : Fetched) (insn : Insn) (outcome : Outcome) (state : State) → deed_of trap (known words insn outcome state) state.regs.reserve ≡ deed_unless trap outcome (placed_of (page_real state.ram state.regs) outcome) state.regs.reserve
deed-known None words insn outcome state = refl
deed-known (Some raised) words insn outcome state = refl

-- of an instruction that comes to an outcome the discipline sees its words, accesses, deed and interrupt
pub packet-known : (words : Fetched) (insn : Insn) (outcome : Outcome) (trap : Option Raised) (state : State) → IsKnown words insn outcome state → (step state).trap ≡ trap → next_packet state ≡ packet_coming state.regs.cia words outcome (placed_of (page_real state.ram state.regs) outcome) trap state.regs.reserve
unfolding packet_with
packet-known words insn outcome trap state k raises =
    packet-parts trap state raises
    ∙ ap (λ (it : UnderWay). packet_with it trap state.regs.reserve) (under_way-known words insn outcome state k)
    ∙ ap (λ (deed : Deed). record (packet_coming state.regs.cia words outcome (placed_of (page_real state.ram state.regs) outcome) trap state.regs.reserve) { deed = deed }) (deed-known trap words insn outcome state)
