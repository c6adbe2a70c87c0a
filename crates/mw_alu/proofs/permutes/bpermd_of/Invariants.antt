use Rattle.mw_alu.specs.Permutes.{bpermd_part}
use Rattle.mw_alu.proofs.Parts.{Parts}
use Rattle.mw_alu.proofs.permutes.bpermd_of.Given as goal

-- the parts of the places so far are put together
abbrev pub invariant-loop-place : goal.invariant-loop-place
invariant-loop-place l = Parts (bpermd_part l.s l.b) 1 l.place l.bits
