use Rattle.std.proofs.Common.{◌≡◌, map, string_bytes, drop}
use Rattle.mw_words.specs.Grammar.{all_said, idle, unsaid}
use Rattle.mw_words.specs.Commands.{reading_in}
use Rattle.mw_words.proofs.said.are_said.Given as goal

abbrev pub invariant-loop-word : goal.invariant-loop-word
invariant-loop-word l = all_said l.verb (reading_in l.reading) (map string_bytes (drop l.word-index l.words)) ≡ all_said l.verb (idle unsaid) (map string_bytes l.words)
