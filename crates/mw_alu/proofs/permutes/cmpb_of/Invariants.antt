use Rattle.mw_alu.specs.Permutes.{cmpb_part}
use Rattle.mw_alu.proofs.Parts.{Parts}
use Rattle.mw_alu.proofs.permutes.cmpb_of.Given as goal

-- the parts of the places so far are put together
abbrev pub invariant-loop-place : goal.invariant-loop-place
invariant-loop-place l = Parts (cmpb_part l.s l.b) 8 l.place l.agreed
