use Rattle.mw_trace.proofs.ReadLaws.{lines_read, lines_refused}
use Rattle.mw_trace.proofs.laws.lines_read.Goals as goal

pub returns-clause-read : goal.returns-clause-read
returns-clause-read c = lines_read

pub returns-clause-refused : goal.returns-clause-refused
returns-clause-refused c = lines_refused
