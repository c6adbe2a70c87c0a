use Rattle.std.proofs.Common.{ℕ, ◌<◌, get_or}
use Rattle.mw_isa.specs.declared.event.Event.{Event}
use Rattle.mw_isa.specs.Reading.{FitsEvent}
use Rattle.mw_trace.proofs.piece.events_fit.Given as goal

-- the events so far fit
abbrev pub invariant-loop-event : goal.invariant-loop-event
invariant-loop-event l = (k : ℕ) (d : Event) → k < l.event-index → FitsEvent (get_or l.events k d)
