use Rattle.std.proofs.Common.{◌≡◌, ◌+◌, ◌≤◌, length}
use Rattle.mw_uart.specs.Script.{lines_of, last_of, text_limit}
use Rattle.mw_uart.proofs.script.place_behind.Given as goal

abbrev pub invariant-loop-behind : goal.invariant-loop-behind
invariant-loop-behind l = record {
  numbered : l.line + length l.rest ≤ text_limit + 1;
  counted : l.line + length (lines_of l.rest) ≡ 1 + length (lines_of l.fn.text);
  last : last_of (lines_of l.rest) ≡ last_of (lines_of l.fn.text);
}

abbrev pub decreases-loop-behind : goal.decreases-loop-behind
decreases-loop-behind l = length l.rest
