use Rattle.std.proofs.Common.{sym, ◌∙◌}
use Rattle.mw_trace.proofs.ReadLemmas.{nothing, rising-none, rising-other, rising-late, rising-line, text-line}
use Rattle.mw_trace.proofs.reading.next_event.Goals as goal

pub returns-in_err-first-clause-front : goal.returns-in_err-first-clause-front
returns-in_err-first-clause-front c =
    nothing _ _ c.from_residual.result (rising-none c.args.before c.args.text.now c.in_err-first.ensures.lines)
    c.from_residual.ensures

pub returns-in_err-event-clause-front : goal.returns-in_err-event-clause-front
returns-in_err-event-clause-front c =
    nothing _ _ c.from_residual-in_err-event.result
    (rising-other c.args.before c.args.text.now c.in_ok-first.first.now c.in_ok-first.behind.now
    c.in_ok-first.ensures.lines (sym c.event_in.ensures ∙ c.in_err-event.was))
    c.from_residual-in_err-event.ensures

pub returns-then-comes_behind-clause-front : goal.returns-then-comes_behind-clause-front
returns-then-comes_behind-clause-front c =
    rising-line c.args.before c.args.text.now c.in_ok-first.first.now c.in_ok-first.behind.now c.in_ok-event.event
    c.in_ok-first.ensures.lines (sym c.event_in.ensures ∙ c.in_ok-event.was) (sym c.if-comes_behind.ensures)

pub returns-then-comes_behind-clause-whole : goal.returns-then-comes_behind-clause-whole
returns-then-comes_behind-clause-whole c =
    text-line c.args.text.now c.in_ok-first.first.now c.in_ok-first.behind.now c.in_ok-event.event
    c.in_ok-first.ensures.whole (sym c.event_in.ensures ∙ c.in_ok-event.was)

pub returns-else-comes_behind-clause-front : goal.returns-else-comes_behind-clause-front
returns-else-comes_behind-clause-front c =
    rising-late c.args.before c.args.text.now c.in_ok-first.first.now c.in_ok-first.behind.now c.in_ok-event.event
    c.in_ok-first.ensures.lines (sym c.event_in.ensures ∙ c.in_ok-event.was) (sym c.if-comes_behind.ensures)
