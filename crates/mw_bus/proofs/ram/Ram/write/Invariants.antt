-- What is left of the piece gives RAM as the whole piece does.
use Rattle.std.proofs.Common.{◌≡◌, ◌<◌, ◌^◌, drop}
use Rattle.mw_bus.specs.Memory.{laid}
use Rattle.mw_bus.proofs.ram.Ram.write.Given as goal

abbrev pub invariant-loop-byte : goal.invariant-loop-byte
invariant-loop-byte l = (l.place < 2 ^ 60) × (laid l.self l.place (drop l.byte-index l.piece) ≡ laid l.initial.self l.initial.place l.piece)
