use Rattle.mw_alu.proofs.Gathered.{Gathered}
use Rattle.mw_alu.proofs.permutes.pextd_of.Given as goal

-- the bits at the places so far are gathered
abbrev pub invariant-loop-place : goal.invariant-loop-place
invariant-loop-place l = Gathered l.s l.mask l.place l.taken l.gathered
