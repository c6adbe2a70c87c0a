use Rattle.mw_trace.proofs.CutLemmas.{words_by}
use Rattle.mw_trace.proofs.reading.cut_word.Goals as goal

pub returns : goal.returns
returns c = words_by c.args.line.now c.cut.result c.cut.ensures
