use Rattle.std.proofs.Common.{◌≡◌}
use Rattle.mw_base_tests.proofs.uart.seventeen_bytes_keep_sixteen.Given as goal

abbrev pub invariant-loop-byte : goal.invariant-loop-byte
invariant-loop-byte g l = l.uart.room ≡ 64
