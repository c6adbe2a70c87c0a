use Rattle.mw_alu.proofs.Gathered.{spread_none, spread_or}
use Rattle.mw_alu.proofs.permutes.pdepd_of.Goals as goal

pub loop-place-init : goal.loop-place-init
loop-place-init c = spread_none c.args.s c.args.mask

pub loop-place-preserved : goal.loop-place-preserved
loop-place-preserved c =
    spread_or c.args.s c.args.mask c.loop-place.place c.loop-place.taken c.loop-place.spread _ _ c.loop-place-test.true c.bit_at-chosen.ensures.value c.bit_at.ensures.value c.loop-place.invariant
