use Rattle.mw_alu.specs.Permutes.{brh_part}
use Rattle.mw_alu.proofs.Parts.{Parts}
use Rattle.mw_alu.proofs.permutes.brh_of.Given as goal

-- the parts of the places so far are put together
abbrev pub invariant-loop-place : goal.invariant-loop-place
invariant-loop-place l = Parts (brh_part l.s) 16 l.place l.reversed
