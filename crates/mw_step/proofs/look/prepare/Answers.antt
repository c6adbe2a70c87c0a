use Rattle.std.proofs.Common.{Some, sym, ◌∙◌, refl}
use Rattle.mw_isa.specs.State.{seen}
use Rattle.mw_step.proofs.StepLemmas.{prepared-fault}
use Rattle.mw_step.proofs.look.prepare.Goals as goal

pub returns-in-Err : goal.returns-in-Err
returns-in-Err c =
    prepared-fault (seen c.args.state.now) (record { words = c.args.prepared.now.words; insn = c.args.prepared.now.insn; outcome = c.args.prepared.now.outcome; placed = c.args.prepared.now.placed; raised = Some c.fault_raises.result; packet = c.set_failing.new.packet }) c.in-Err.fault c.fault_raises.result (sym c.fetch_at.ensures.value ∙ c.in-Err.is) c.fault_raises.ensures.value c.fault_raises.ensures.cause refl c.set_failing.ensures
