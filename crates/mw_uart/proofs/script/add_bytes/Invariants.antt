use Rattle.std.proofs.Common.{◌≡◌, ◌++◌, take}
use Rattle.mw_uart.specs.Script.{pairs_of}
use Rattle.mw_uart.specs.Pairs.{RisesTo}
use Rattle.mw_uart.proofs.script.add_bytes.Given as goal

abbrev pub invariant-loop-byte : goal.invariant-loop-byte
invariant-loop-byte l = record {
  added : l.pairs.items ≡ l.initial.pairs.items ++ pairs_of l.cycle (take l.byte-index l.bytes);
  rises : RisesTo 0 l.cycle l.pairs.items;
}
