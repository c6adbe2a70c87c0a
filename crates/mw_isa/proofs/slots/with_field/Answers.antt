-- A number of 32 bits keeps to them when one of its digits is set.
use Rattle.std.proofs.Common.{ℕ, ◌≡◌, ◌<◌, ◌^◌, arith}
use Rattle.mw_isa.specs.Slots.{field_unit, with_digit}
use Rattle.mw_isa.proofs.SlotLaws.{digit-fits}
use Rattle.mw_isa.proofs.slots.with_field.Goals as goal

-- the sum that the code makes of a digit keeps to 32 bits
sum-fits : (cr number digit x unit : ℕ) → x ≡ cr → unit ≡ field_unit number → cr < 2 ^ 32 → digit < 16 → with_digit x unit digit < 2 ^ 32
sum-fits cr number digit x unit same at below fits = rw (same, at) (digit-fits cr number digit below fits)

pub overflow_add-result-2 : goal.overflow_add-result-2
overflow_add-result-2 c = omega (arith, sum-fits c.args.cr c.args.number c.args.digit _ _ c.from-cr.ensures c.field_unit-unit.ensures c.ranges.cr.fits c.requires)

pub overflow_cast-result : goal.overflow_cast-result
overflow_cast-result c = omega (arith, sum-fits c.args.cr c.args.number c.args.digit _ _ c.from-cr.ensures c.field_unit-unit.ensures c.ranges.cr.fits c.requires)
