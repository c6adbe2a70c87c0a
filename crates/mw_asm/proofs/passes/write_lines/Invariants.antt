use Rattle.std.proofs.Common.{◌≡◌, ◌+◌, ◌≤◌, length}
use Rattle.mw_asm.specs.Assembled.{lines_of, in_front, second_pass}
use Rattle.mw_asm.proofs.SecondLemmas.{Stands}
use Rattle.mw_asm.proofs.passes.write_lines.Given as goal

abbrev pub invariant-loop-fault : goal.invariant-loop-fault
invariant-loop-fault l = record {
  numbered : l.number + length l.rest ≤ length l.fn.source + 1;
  stands : Stands l.labels l.number (length l.image) (lines_of l.rest);
  same : in_front l.image (second_pass l.number l.labels (length l.image) (lines_of l.rest)) ≡ second_pass 1 l.labels 0 (lines_of l.fn.source);
}

abbrev pub decreases-loop-fault : goal.decreases-loop-fault
decreases-loop-fault l = length l.rest
