use Rattle.std.proofs.Common.{◌≡◌, ◌%◌, ◌^◌, take, sum}
use Rattle.mw_trace.proofs.summaries.sum_of.Given as goal

-- the contents so far are added
abbrev pub invariant-loop-content : goal.invariant-loop-content
invariant-loop-content l = l.sum ≡ sum (take l.content-index l.contents) % 2 ^ 64
