use Rattle.std.proofs.Common.{◌*◌, arith}
use Rattle.mw_alu.specs.Permutes.{brh_part}
use Rattle.mw_alu.proofs.Parts.{parts_none, parts_or}
use Rattle.mw_alu.proofs.permutes.brh_of.Goals as goal

pub loop-place-init : goal.loop-place-init
loop-place-init c = parts_none (brh_part c.args.s) 16

pub loop-place-preserved : goal.loop-place-preserved
loop-place-preserved c =
    parts_or (brh_part c.args.s) 16 c.loop-place.place (16 * c.loop-place.place) _ c.loop-place.reversed (omega arith) (omega arith) (omega arith) (grind arith) c.loop-place.invariant
