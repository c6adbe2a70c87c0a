use Rattle.mw_alu.proofs.Gathered.{fused}
use Rattle.mw_alu.proofs.OnesLemmas.{ones_below-all}
use Rattle.mw_alu.proofs.permutes.cfuged_of.Goals as goal

pub returns : goal.returns
returns c = cc (fused c.args.s c.args.mask c.ranges.mask.fits, ones_below-all c.args.mask c.ranges.mask.fits)
