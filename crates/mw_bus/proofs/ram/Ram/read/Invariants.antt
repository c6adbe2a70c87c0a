-- The bytes up to the index stand in the array, with zeros behind them.
use Rattle.std.proofs.Common.{◌≡◌}
use Rattle.mw_bus.specs.Memory.{bytes_at, padded}
use Rattle.mw_bus.proofs.ram.Ram.read.Given as goal

abbrev pub invariant-loop-i : goal.invariant-loop-i
invariant-loop-i l = l.bytes ≡ padded (bytes_at l.self l.at l.i)
