use Rattle.mw_isa.specs.State.{seen}
use Rattle.mw_step.proofs.StepLemmas.{looked-prepared}
use Rattle.mw_step.proofs.look.prepare_insn.Goals as goal

pub returns : goal.returns
returns c =
    looked-prepared (seen c.args.state.now) (record { words = c.args.prepared.now.words; insn = c.args.prepared.now.insn; outcome = c.exec_into.new.outcome; placed = c.placed_of.new.placed; raised = c.marked_if-prepared.result; packet = c.set_coming.new.packet }) c.operands-found.result c.end_raises.result (record {
      there = c.requires.words;
      insn_is = c.requires.is;
      operands_are = c.operands-found.ensures;
      outcome = c.exec_into.ensures.outcome;
      placed = c.placed_of.ensures.value;
      raises = c.end_raises.ensures.value;
      marks = c.marked_if-prepared.ensures.value;
      cause = c.marked_if-prepared.ensures.cause;
      is = c.requires.insn;
      started = c.exec_into.ensures.started;
      sized = c.exec_into.ensures.sized;
      stands = c.placed_of.ensures.stands;
      seen = c.set_coming.ensures;
    })
