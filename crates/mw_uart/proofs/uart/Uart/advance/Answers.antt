use Rattle.std.proofs.Common.{rules, ◌≡◌, ℕ, ◌+◌, ◌<◌, ◌≤◌, List, ◌++◌, length, vec_capacity, arith, ap, ◌∙◌, drop, take, length-drop}
use Rattle.std.proofs.lemmas.Grind.{common_steps}
use Rattle.mw_uart.specs.UartData.{period_of}
use Rattle.mw_uart.specs.UartAt.{arrivals, sent_by, next_due}
use Rattle.mw_uart.proofs.SentLemmas.{room_enough, timed_lists, advanced}
use Rattle.mw_uart.proofs.ArrivalLemmas.{pending-is, rest-after}
use Rattle.mw_uart.specs.Inside.{roomy}
use Rattle.mw_uart.proofs.uart.Uart.advance.Goals as goal

pub transmit-requires-clause-room : goal.transmit-requires-clause-room
transmit-requires-clause-room c =
    let small : c.self.inside.div < 65536 = search rules in
    let after : c.self.inside.cycle ≤ c.args.cycle = search rules in
    let count : c.sent_by-count.result ≡ sent_by (length c.self.inside.sending.items) c.self.inside.due (period_of c.self.inside.div) c.args.cycle = search rules in
    let enough = room_enough (length c.self.inside.output.items) (length c.self.inside.sending.items) c.self.inside.due c.self.inside.cycle c.self.inside.room c.args.cycle c.sent_by-count.result c.self.inside.div c.self.invariant.5 after (search rules) small count in
    let room : c.self.inside.room ≤ vec_capacity c.self.inside.output = c.self.invariant.4 in
    omega (arith, c.self.inside.output.ok)

pub invariant_of-self : goal.invariant_of-self
invariant_of-self c =
    let small : c.self.inside.div < 65536 = search rules in
    let after : c.self.inside.cycle ≤ c.args.cycle = search rules in
    let counts : c.sent_by-count.result ≡ sent_by (length c.self.inside.sending.items) c.self.inside.due (period_of c.self.inside.div) c.args.cycle = search rules in
    let dues : c.next_due-self-inside.result ≡ next_due (length c.self.inside.sending.items) c.self.inside.due (period_of c.self.inside.div) c.sent_by-count.result = search rules in
    let sends : c.transmit.new.sending.items ≡ drop c.sent_by-count.result c.self.inside.sending.items = search rules in
    let times = timed_lists c.self.inside.cycle c.self.inside.room c.args.cycle c.sent_by-count.result c.self.inside.div c.self.inside.due c.next_due-self-inside.result c.self.inside.sending.items c.self.inside.output.items c.transmit.new.sending.items c.transmit.new.output.items c.self.invariant.5 after (search rules) small counts dues sends c.transmit.ensures.output in
    let pending = pending-is c.as_slice.result.now c.self.inside.script c.self.inside.next c.as_slice.ensures in
    let within : c.self.inside.next + c.arrive.result ≤ length c.self.inside.script = omega (arith, c.arrive.ensures.within, ap length pending, length-drop c.self.inside.next c.self.inside.script, c.self.invariant.0) in
    (within, c.arrive.ensures.queue, (search rules, grind (arith, common_steps)), c.self.invariant.3, search rules, times)

pub returns : goal.returns
returns c =
    let counts : c.sent_by-count.result ≡ sent_by (length c.self.inside.sending.items) c.self.inside.due (period_of c.self.inside.div) c.args.cycle = search rules in
    let dues : c.next_due-self-inside.result ≡ next_due (length c.self.inside.sending.items) c.self.inside.due (period_of c.self.inside.div) c.sent_by-count.result = search rules in
    let sends : c.transmit.new.sending.items ≡ drop c.sent_by-count.result c.self.inside.sending.items = search rules in
    let pending = pending-is c.as_slice.result.now c.self.inside.script c.self.inside.next c.as_slice.ensures in
    let comes = rest-after c.args.cycle c.self.inside.next c.arrive.result c.self.inside.script _ pending c.arrive.ensures.count in
    let receives : c.arrive.new.received.items ≡ take 16 (c.self.inside.received.items ++ arrivals c.args.cycle (drop c.self.inside.next c.self.inside.script)) =
    c.arrive.ensures.items ∙ ap (λ (pairs : List (ℕ × ℕ)). take 16 (c.self.inside.received.items ++ arrivals c.args.cycle pairs)) pending in
    rw (← c.self.view_is)
    (ap (roomy c.self.inside.room)
    (advanced c.self.inside.cycle c.args.cycle c.self.inside.due c.self.inside.div c.self.inside.enable c.sent_by-count.result c.next_due-self-inside.result (drop c.self.inside.next c.self.inside.script) _ c.self.inside.received.items c.self.inside.sending.items c.self.inside.output.items c.arrive.new.received.items c.transmit.new.sending.items c.transmit.new.output.items
    comes receives counts dues sends c.transmit.ensures.output))
