use Rattle.std.proofs.Common.{◌≡◌}
use Rattle.mw_isa.specs.Reads.{chosen_digits}
use Rattle.mw_isa.proofs.reading.chosen_digits.Given as goal

-- the fields so far stand in as many digits
abbrev pub invariant-loop-number : goal.invariant-loop-number
invariant-loop-number g l = l.cr ≡ chosen_digits (g.V.SlotView.view l.fn.view) l.fn.mask l.number
