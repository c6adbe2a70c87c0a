-- What is known of the next instruction before anything changes.
use Rattle.std.specs.Prelude.{◌≡◌, [], None, IfSome}
use Rattle.mw_decode.specs.Blank.{no_insn}
use Rattle.mw_decode.specs.Decode.{IsInsn}
use Rattle.mw_isa.specs.declared.access.Deed.TheVariants.{Plain}
use Rattle.mw_isa.specs.declared.outcome.Outcome.TheVariants.{Done}
use Rattle.mw_isa.specs.declared.packet.Packet.{Packet}
use Rattle.mw_isa.specs.Discipline.{next_packet}
use Rattle.mw_isa.specs.State.{State}
use Rattle.mw_isa.specs.Step.{IsKnown, CanFinish, placed_of, step}
use Rattle.mw_isa.specs.Take.{IsCause}
use Rattle.mw_isa.specs.Translate.{page_real}
use Rattle.mw_step.specs.declared.prepared.Prepared.{Prepared}

-- what is seen of no instruction
abbrev pub no_packet : Packet
no_packet = record { cia = 0; word = 0; suffix = None; touches = record { items = [] }; deed = Plain; trap = None }

-- what is to be written over, at which no instruction is known
abbrev pub blank : Prepared
blank = record { words = record { word = 0; suffix = None }; insn = no_insn; outcome = Done (record { items = [] }) 0; placed = None; raised = None; packet = no_packet }

-- this is what the next instruction of a state is and comes to
pub record ComesTo (prepared : Prepared) (state : State) : Type 0 where
  pub known : IsKnown prepared.words prepared.insn prepared.outcome state
  pub placed : prepared.placed ≡ placed_of (page_real state.ram state.regs) prepared.outcome
  -- the instruction is one of the table
  pub is : IsInsn prepared.insn
  -- the outcome is one that can be carried out
  pub can : CanFinish prepared.outcome prepared.placed

-- this is told of the next instruction of a state: it raises this interrupt, or none, and then is and comes to this; and what
-- the update discipline sees of it
pub record IsPrepared (prepared : Prepared) (state : State) : Type 0 where
  pub raised : (step state).trap ≡ prepared.raised
  pub cause : IfSome prepared.raised (λ raised. IsCause raised.cause)
  pub comes : prepared.raised ≡ None → ComesTo prepared state
  pub packet : prepared.packet ≡ next_packet state
