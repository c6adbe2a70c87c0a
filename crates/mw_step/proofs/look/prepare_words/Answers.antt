use Rattle.std.proofs.Common.{Some, sym, refl}
use Rattle.mw_isa.specs.State.{seen}
use Rattle.mw_step.proofs.StepLemmas.{prepared-cut, prepared-words}
use Rattle.mw_step.proofs.look.prepare_words.Goals as goal

pub returns-then-is_cut : goal.returns-then-is_cut
returns-then-is_cut c =
    prepared-cut (seen c.args.state.now) (record { words = c.args.prepared.now.words; insn = c.args.prepared.now.insn; outcome = c.args.prepared.now.outcome; placed = c.args.prepared.now.placed; raised = Some c.marked.result; packet = c.set_raising.new.packet }) c.cut_raised.result c.marked.result c.requires.words (sym c.if-is_cut.ensures) c.cut_raised.ensures.value c.marked.ensures.value refl c.marked.ensures.cause c.set_raising.ensures

pub returns-else-decode_into : goal.returns-else-decode_into
returns-else-decode_into c =
    prepared-words (seen c.args.state.now) (record { words = c.args.prepared.now.words; insn = c.decode_into.new.insn; outcome = c.args.prepared.now.outcome; placed = c.args.prepared.now.placed; raised = c.marked_if-prepared.result; packet = c.set_raising-else-decode_into.new.packet }) c.words_raise.result c.requires.words (sym c.if-is_cut.ensures) c.if-decode_into.ensures.value c.words_raise.ensures.value c.marked_if-prepared.ensures.value c.marked_if-prepared.ensures.cause c.set_raising-else-decode_into.ensures
