use Rattle.std.proofs.Common.{length}
use Rattle.mw_trace.proofs.ReadLemmas.{ReadSo}
use Rattle.mw_trace.proofs.reading.read.Given as goal

-- the events so far, with those in front of what is left, are those in front of the text; their lines, with what is
-- left, are the text
abbrev pub invariant-loop-event : goal.invariant-loop-event
invariant-loop-event l = ReadSo l.fn.text l.events l.before l.rest

abbrev pub decreases-loop-event : goal.decreases-loop-event
decreases-loop-event l = length l.rest
