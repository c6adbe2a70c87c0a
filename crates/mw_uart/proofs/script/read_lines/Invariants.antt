use Rattle.std.proofs.Common.{◌≡◌, ◌+◌, ◌≤◌, [], length}
use Rattle.mw_uart.specs.Script.{last_cycle, lines_of, read_from, text_limit}
use Rattle.mw_uart.specs.Pairs.{RisesTo}
use Rattle.mw_uart.proofs.script.read_lines.Given as goal

-- what is left of the text, behind these pairs, gives what the whole text gives
abbrev pub invariant-loop-cycle : goal.invariant-loop-cycle
invariant-loop-cycle l = record {
  short : length l.rest ≤ text_limit;
  numbered : l.number + length l.rest ≤ text_limit + 1;
  low : l.before ≤ last_cycle;
  rises : RisesTo 0 l.before l.pairs.items;
  same : read_from l.number l.before l.pairs.items (lines_of l.rest) ≡ read_from 1 0 [] (lines_of l.fn.text);
}

abbrev pub decreases-loop-cycle : goal.decreases-loop-cycle
decreases-loop-cycle l = length l.rest
