use Rattle.std.proofs.Common.{◌≡◌, ◌+◌, ◌*◌, length, drop}
use Rattle.mw_generator.specs.Generated.{with_words}
use Rattle.mw_generator.proofs.laying.lay_words.Given as goal

-- what is left gives the same end
abbrev pub invariant-loop-word : goal.invariant-loop-word
invariant-loop-word l = record {
  place : l.next ≡ l.at + 4 * l.word-index;
  whole : length l.image ≡ length l.fn.image;
  same : with_words l.next (drop l.word-index l.words) l.image ≡ with_words l.at l.words l.fn.image;
}
