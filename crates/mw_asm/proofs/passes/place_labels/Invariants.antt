use Rattle.std.proofs.Common.{◌+◌, ◌≤◌, length}
use Rattle.mw_asm.specs.Assembled.{first_pass, image_limit, lines_of}
use Rattle.mw_asm.specs.Passes.{start}
use Rattle.mw_asm.proofs.PassLemmas.{Left}
use Rattle.mw_asm.proofs.passes.place_labels.Given as goal

abbrev pub invariant-loop-next : goal.invariant-loop-next
invariant-loop-next l = record {
  numbered : l.number + length l.rest ≤ length l.fn.source + 1;
  inside : l.at ≤ image_limit;
  left : Left l.labels l.number l.at (lines_of l.rest) (first_pass 1 start (lines_of l.fn.source));
}

abbrev pub decreases-loop-next : goal.decreases-loop-next
decreases-loop-next l = length l.rest
