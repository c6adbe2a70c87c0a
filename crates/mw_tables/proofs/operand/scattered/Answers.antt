use Rattle.std.proofs.Common.{ℕ, ◌≡◌, bit_or}
use Rattle.std.specs.Int.Bits.{or_zero_r}
use Rattle.mw_tables.proofs.operand.scattered.Goals as goal

joined : (a b c x y z : ℕ) → a ≡ x → b ≡ y → c ≡ z → bit_or a (bit_or b c) ≡ bit_or x (bit_or y (bit_or z 0))
joined a b c x y z p q r = let last = or_zero_r z in cc

pub returns : goal.returns
returns c =
    joined c.placed-low.result c.placed-middle.result c.placed-high.result _ _ _ c.placed-low.ensures c.placed-middle.ensures c.placed-high.ensures
