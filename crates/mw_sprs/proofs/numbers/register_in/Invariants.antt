use Rattle.std.proofs.Common.{◌≡◌, drop}
use Rattle.mw_isa.specs.Sprs.{register_in}
use Rattle.mw_sprs.proofs.numbers.register_in.Given as goal

-- the lines that are left have the register that all lines have for the number and the use
abbrev pub invariant-loop-line : goal.invariant-loop-line
invariant-loop-line l = register_in (drop l.line-index l.lines) l.way l.number ≡ register_in l.lines l.way l.number
