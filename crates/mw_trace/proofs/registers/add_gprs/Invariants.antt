use Rattle.std.proofs.Common.{◌≡◌, ◌++◌, drop, map}
use Rattle.std.specs.List.{flat_map, enumerate_from}
use Rattle.mw_isa.specs.Text.{line, gpr_words}
use Rattle.mw_trace.proofs.registers.add_gprs.Given as goal

-- what is written, with the lines of the registers that are left, is the whole
abbrev pub invariant-loop-number : goal.invariant-loop-number
invariant-loop-number l =
    l.text ++ flat_map line (map gpr_words (enumerate_from l.number (drop l.number l.gpr))) ≡ l.fn.text ++ flat_map line (map gpr_words (enumerate_from 0 l.gpr))
