use Rattle.mw_trace.proofs.CutLemmas.{lines_by}
use Rattle.mw_trace.proofs.reading.cut_line.Goals as goal

pub returns-clause-lines : goal.returns-clause-lines
returns-clause-lines c = lines_by c.args.text.now c.cut.result c.cut.ensures
