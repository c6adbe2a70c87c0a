use Rattle.std.proofs.Common.{length, sym, ap, ◌+◌, ◌∙◌, arith, Err}
use Rattle.std.proofs.lemmas.Bool.{eqb-true, eqb-false}
use Rattle.mw_trace.proofs.ReadLemmas.{read-none, read-more, read-whole, read-refused}
use Rattle.mw_trace.proofs.reading.read.Goals as goal

pub loop-event-init : goal.loop-event-init
loop-event-init c = read-none c.args.text.now c.new-events.result c.new-events.ensures

pub loop-event-smaller : goal.loop-event-smaller
loop-event-smaller c =
    (read-more c.args.text.now c.loop-event.events c.loop-event.before c.loop-event.rest.now c.in-Some.behind.now
    c.in-Some.event c.push.new.self c.cycle_of.result
    c.loop-event.invariant c.in-Some.ensures.front c.in-Some.ensures.whole c.in-Ok.ensures.ok c.cycle_of.ensures).1

pub loop-event-preserved : goal.loop-event-preserved
loop-event-preserved c =
    (read-more c.args.text.now c.loop-event.events c.loop-event.before c.loop-event.rest.now c.in-Some.behind.now
    c.in-Some.event c.push.new.self c.cycle_of.result
    c.loop-event.invariant c.in-Some.ensures.front c.in-Some.ensures.whole c.in-Ok.ensures.ok c.cycle_of.ensures).0

pub returns-then-is_empty-clause-ok : goal.returns-then-is_empty-clause-ok
returns-then-is_empty-clause-ok c =
    read-whole c.args.text.now c.loop-event.events c.loop-event.before c.loop-event.rest.now c.loop-event.invariant
    c.in_default.ensures.front (eqb-true _ _ (sym c.if-is_empty.ensures))

pub returns-else-is_empty-clause-bad : goal.returns-else-is_empty-clause-bad
returns-else-is_empty-clause-bad c =
    read-refused c.args.text.now c.loop-event.events c.loop-event.before c.loop-event.rest.now c.loop-event.invariant
    c.in_default.ensures.front
    (let some = eqb-false (length c.loop-event.rest.now) 0 (sym c.if-is_empty.ensures) in omega arith)
    ∙ ap (λ es. Err (length es + 1)) (sym c.as_slice.ensures)
