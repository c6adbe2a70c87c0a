use Rattle.std.proofs.Common.{◌≡◌, ◌≤◌}
use Rattle.mw_isa.specs.Slots.{bits_upon}
use Rattle.mw_isa.specs.Special.{fields_in}
use Rattle.mw_isa.proofs.reading.with_fields.Given as goal

-- the fields that are left give of the set so far what all fields give of the first set
abbrev pub invariant-loop-number : goal.invariant-loop-number
invariant-loop-number l = (bits_upon (fields_in l.mask l.number) l.set.bits ≡ bits_upon (fields_in l.mask 8) l.fn.set.bits) × (l.number ≤ 8)

abbrev pub decreases-loop-number : goal.decreases-loop-number
decreases-loop-number l = l.number
