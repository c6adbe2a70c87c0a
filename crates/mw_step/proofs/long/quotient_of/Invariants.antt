use Rattle.std.proofs.Common.{◌≡◌, ◌-◌, ◌<◌}
use Rattle.mw_muldiv.specs.Division.{quotient_of}
use Rattle.mw_step.proofs.long.quotient_of.Given as goal

-- the numbers that the divider was started with stay, and its last tick isn't done
abbrev pub invariant-loop-answer : goal.invariant-loop-answer
invariant-loop-answer l = (quotient_of l.unit ≡ quotient_of l.initial.unit) × (l.unit.ticks < 65)

abbrev pub decreases-loop-answer : goal.decreases-loop-answer
decreases-loop-answer l = 65 - l.unit.ticks
