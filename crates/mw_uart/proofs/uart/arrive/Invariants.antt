use Rattle.std.proofs.Common.{◌≡◌, ◌+◌, ◌++◌, drop, take}
use Rattle.mw_uart.specs.UartAt.{arrived_by, arrivals}
use Rattle.mw_uart.specs.Inside.{IsQueue}
use Rattle.mw_uart.proofs.uart.arrive.Given as goal

-- the bytes that are left, received behind those so far, give what all bytes give
abbrev pub invariant-loop-count : goal.invariant-loop-count
invariant-loop-count l = record {
  queue : IsQueue l.received;
  count : l.count + arrived_by l.cycle (drop l.count l.pending) ≡ arrived_by l.cycle l.pending;
  items : take 16 (l.received.items ++ arrivals l.cycle (drop l.count l.pending)) ≡ take 16 (l.initial.received.items ++ arrivals l.cycle l.pending);
}
