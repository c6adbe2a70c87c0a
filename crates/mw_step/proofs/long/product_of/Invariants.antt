use Rattle.std.proofs.Common.{◌≡◌, ◌-◌, ◌<◌}
use Rattle.mw_muldiv.specs.Multiplication.{product_of}
use Rattle.mw_step.proofs.long.product_of.Given as goal

-- the numbers that the multiplier was started with stay, and its last tick isn't done
abbrev pub invariant-loop-answer : goal.invariant-loop-answer
invariant-loop-answer l = (product_of l.unit ≡ product_of l.initial.unit) × (l.unit.ticks < 4)

abbrev pub decreases-loop-answer : goal.decreases-loop-answer
decreases-loop-answer l = 4 - l.unit.ticks
