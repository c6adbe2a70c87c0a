use Rattle.std.proofs.Common.{◌≡◌}
use Rattle.mw_trace_tests.proofs.trace.given.Given as goal

-- the UART's room for output stays
abbrev pub invariant-loop-byte : goal.invariant-loop-byte
invariant-loop-byte g l = l.devices.room ≡ 64
