use Rattle.std.proofs.Common.{◌≡◌}
use Rattle.mw_isa.specs.Condition.{byte_at, has_byte}
use Rattle.mw_exec.proofs.bits.has_byte.Given as goal

-- whether the byte is one of those so far
abbrev pub invariant-loop-place : goal.invariant-loop-place
invariant-loop-place l = (l.found ≡ has_byte l.x l.bytes l.place) × (l.low ≡ byte_at l.x 0)
