use Rattle.std.proofs.Common.{◌≡◌}
use Rattle.mw_base_tests.proofs.uart.one_step_is_many.Given as goal

abbrev pub invariant-loop-byte : goal.invariant-loop-byte
invariant-loop-byte g l = (l.one.room ≡ 64) × (l.many.room ≡ 64)

abbrev pub invariant-loop-cycle : goal.invariant-loop-cycle
invariant-loop-cycle g l = l.many.room ≡ 64
