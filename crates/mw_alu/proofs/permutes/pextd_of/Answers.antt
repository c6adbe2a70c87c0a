use Rattle.mw_alu.proofs.Gathered.{gathered_none, gathered_or}
use Rattle.mw_alu.proofs.permutes.pextd_of.Goals as goal

pub loop-place-init : goal.loop-place-init
loop-place-init c = gathered_none c.args.s c.args.mask

pub loop-place-preserved : goal.loop-place-preserved
loop-place-preserved c =
    gathered_or c.args.s c.args.mask c.loop-place.place c.loop-place.taken c.loop-place.gathered _ _ c.loop-place-test.true c.bit_at-chosen.ensures.value c.bit_at.ensures.value c.loop-place.invariant
