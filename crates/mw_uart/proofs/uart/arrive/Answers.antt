use Rattle.std.proofs.Common.{arith}
use Rattle.mw_uart.proofs.ArrivalLemmas.{count-more, received-more, late-count, late-received, end-count, end-received}
use Rattle.mw_uart.proofs.uart.arrive.Goals as goal

pub returns-then-pair-cycle-clause-count : goal.returns-then-pair-cycle-clause-count
returns-then-pair-cycle-clause-count c = late-count c.args.cycle c.loop-count.count c.args.pending.now _ c.loop-count-test.true c.if-pair-cycle.true c.loop-count.invariant.count

pub returns-then-pair-cycle-clause-items : goal.returns-then-pair-cycle-clause-items
returns-then-pair-cycle-clause-items c = late-received c.args.cycle c.loop-count.count c.args.pending.now c.loop-count.received.items _ c.loop-count-test.true c.if-pair-cycle.true c.loop-count.invariant.queue.1 c.loop-count.invariant.items

pub loop-count-preserved : goal.loop-count-preserved
loop-count-preserved c = record {
  queue = c.receive.ensures.queue;
  count = count-more c.args.cycle c.loop-count.count c.args.pending.now _ c.loop-count-test.true c.if-pair-cycle.false c.loop-count.invariant.count;
  items = received-more c.args.cycle c.loop-count.count c.args.pending.now c.loop-count.received.items c.receive.new.received.items _ c.loop-count-test.true c.if-pair-cycle.false c.loop-count.invariant.queue.1 c.receive.ensures.items c.loop-count.invariant.items;
}

pub returns-clause-count : goal.returns-clause-count
returns-clause-count c =
    let all = end-count c.args.cycle c.loop-count.count c.args.pending.now _ c.loop-count-test.false c.loop-count.invariant.count in
    omega (arith, all, c.loop-count.auto.count-end)

pub returns-clause-items : goal.returns-clause-items
returns-clause-items c = end-received c.args.cycle c.loop-count.count c.args.pending.now c.loop-count.received.items _ c.loop-count-test.false c.loop-count.invariant.queue.1 c.loop-count.invariant.items
