use Rattle.std.proofs.Common.{◌≡◌, ◌++◌, ℕ, ◌<◌, drop, map, get_or}
use Rattle.std.specs.List.{flat_map}
use Rattle.mw_isa.specs.declared.event.Event.{Event}
use Rattle.mw_isa.specs.Text.{line, event_words}
use Rattle.mw_isa.specs.Reading.{FitsEvent}
use Rattle.mw_trace.proofs.lines.add_events.Given as goal

-- what is written, with the lines of the events that are left, is the whole; the events so far fit
abbrev pub invariant-loop-event : goal.invariant-loop-event
invariant-loop-event l =
    (l.text ++ flat_map line (map event_words (drop l.event-index l.events)) ≡ l.fn.text ++ flat_map line (map event_words l.events)) × ((k : ℕ) (d : Event) → k < l.event-index → FitsEvent (get_or l.events k d))
