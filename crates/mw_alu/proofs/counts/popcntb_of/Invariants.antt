use Rattle.mw_alu.specs.Counts.{popcntb_part}
use Rattle.mw_alu.proofs.Parts.{Parts}
use Rattle.mw_alu.proofs.counts.popcntb_of.Given as goal

-- the parts of the places so far are put together
abbrev pub invariant-loop-place : goal.invariant-loop-place
invariant-loop-place l = Parts (popcntb_part l.s) 8 l.place l.counts
