use Rattle.std.proofs.Common.{◌*◌, arith}
use Rattle.mw_alu.specs.Permutes.{cmpb_part}
use Rattle.mw_alu.proofs.Parts.{parts_none, parts_or}
use Rattle.mw_alu.proofs.permutes.cmpb_of.Goals as goal

pub loop-place-init : goal.loop-place-init
loop-place-init c = parts_none (cmpb_part c.args.s c.args.b) 8

pub loop-place-preserved : goal.loop-place-preserved
loop-place-preserved c =
    parts_or (cmpb_part c.args.s c.args.b) 8 c.loop-place.place (8 * c.loop-place.place) _ c.loop-place.agreed (omega arith) (omega arith) (omega arith) (grind arith) c.loop-place.invariant
