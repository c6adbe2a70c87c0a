use Rattle.std.proofs.Common.{◌≡◌, ◌+◌, ◌≤◌, length}
use Rattle.mw_asm.specs.Assembled.{lines_of, last_of, source_limit}
use Rattle.mw_asm.proofs.assembler.behind_text.Given as goal

abbrev pub invariant-loop-behind : goal.invariant-loop-behind
invariant-loop-behind l = record {
  numbered : l.line + length l.rest ≤ source_limit + 1;
  counted : l.line + length (lines_of l.rest) ≡ 1 + length (lines_of l.fn.text);
  last : last_of (lines_of l.rest) ≡ last_of (lines_of l.fn.text);
}

abbrev pub decreases-loop-behind : goal.decreases-loop-behind
decreases-loop-behind l = length l.rest
