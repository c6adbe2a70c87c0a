use Rattle.std.proofs.Common.{◌≡◌, ◌+◌, ◌-◌, ◌*◌, length}
use Rattle.mw_generator.specs.Generated.{with_words, program}
use Rattle.mw_generator.proofs.image.lay_program.Given as goal

-- what is left gives the same end
abbrev pub invariant-loop-done : goal.invariant-loop-done
invariant-loop-done l = record {
  place : l.next ≡ l.at + 4 * l.done;
  whole : length l.image ≡ length l.fn.image;
  same : with_words l.next (program (l.count - l.done) l.draws) l.image ≡ with_words l.at (program l.count l.fn.draws) l.fn.image;
}
