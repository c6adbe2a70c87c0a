use Rattle.std.proofs.Common.{sym, ◌∙◌}
use Rattle.mw_trace.proofs.EventLemmas.{line-four, line-five, line-more}
use Rattle.mw_trace.proofs.reading.event_in.Goals as goal

pub returns-in_default : goal.returns-in_default
returns-in_default c =
    c.event_of_four.ensures
    ∙ sym
    (line-four c.args.line.now c.in_ok-kind.kind.now c.in_ok-cycle.cycle.now c.in_ok-at.at.now c.in_ok-kind.rest.now
    c.in_ok-cycle.rest.now c.in_ok-at.rest.now
    c.in_ok-kind.ensures c.in_ok-cycle.ensures c.in_ok-at.ensures c.in_default.ensures)

pub returns-then-is_some : goal.returns-then-is_some
returns-then-is_some c =
    sym
    (line-more c.args.line.now c.in_ok-kind.kind.now c.in_ok-cycle.cycle.now c.in_ok-at.at.now c.in_ok-kind.rest.now
    c.in_ok-cycle.rest.now c.in_ok-at.rest.now
    c.in-Some.word.now c.in-Some.suffix.now c.cut_word-5.result c.in_ok-kind.ensures c.in_ok-cycle.ensures
    c.in_ok-at.ensures c.in-Some.ensures c.cut_word-5.ensures (sym c.if-is_some.ensures))

pub returns : goal.returns
returns c =
    c.event_of_five.ensures
    ∙ sym
    (line-five c.args.line.now c.in_ok-kind.kind.now c.in_ok-cycle.cycle.now c.in_ok-at.at.now c.in_ok-kind.rest.now
    c.in_ok-cycle.rest.now c.in_ok-at.rest.now
    c.in-Some.word.now c.in-Some.suffix.now c.cut_word-5.result c.in_ok-kind.ensures c.in_ok-cycle.ensures
    c.in_ok-at.ensures c.in-Some.ensures c.cut_word-5.ensures (sym c.if-is_some.ensures))
