use Rattle.std.proofs.Common.{◌≡◌, ◌-◌, ◌*◌, ◌++◌}
use Rattle.mw_asm.specs.Disassembly.{word_count, disassembly}
use Rattle.mw_asm.proofs.DisassemblyLemmas.{lines_from}
use Rattle.mw_asm.proofs.disassembly.print_lines.Given as goal

-- the lines that are written, with those of the words that are left, are the whole disassembly
abbrev pub invariant-loop-place : goal.invariant-loop-place
invariant-loop-place l = l.text ++ lines_from (word_count l.image - l.place) l.is_suffix l.image (4 * l.place) ≡ disassembly l.image
