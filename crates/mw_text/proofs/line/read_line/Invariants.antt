use Rattle.std.proofs.Common.{◌≡◌, ◌-◌, ◌≤◌, length, drop}
use Rattle.mw_text.specs.Lines.{tokens_from, tokens_of}
use Rattle.mw_text.proofs.LineLemmas.{with_tokens}
use Rattle.mw_text.proofs.line.read_line.Given as goal

-- the tokens so far, in front of those of the bytes that are left, are the line's
abbrev pub invariant-loop-at : goal.invariant-loop-at
invariant-loop-at l = record {
  within : l.at ≤ length l.line;
  same : with_tokens l.tokens (tokens_from (drop l.at l.line) 0 l.at) ≡ tokens_of l.line;
}

abbrev pub decreases-loop-at : goal.decreases-loop-at
decreases-loop-at l = length l.line - l.at
