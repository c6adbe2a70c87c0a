use Rattle.mw_alu.proofs.Gathered.{Spread}
use Rattle.mw_alu.proofs.permutes.pdepd_of.Given as goal

-- the places so far have their bits
abbrev pub invariant-loop-place : goal.invariant-loop-place
invariant-loop-place l = Spread l.s l.mask l.place l.taken l.spread
