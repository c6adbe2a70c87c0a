use Rattle.std.proofs.Common.{arith}
use Rattle.mw_alu.specs.Permutes.{bpermd_part}
use Rattle.mw_alu.proofs.Parts.{parts_none, parts_or}
use Rattle.mw_alu.proofs.permutes.bpermd_of.Goals as goal

pub loop-place-init : goal.loop-place-init
loop-place-init c = parts_none (bpermd_part c.args.s c.args.b) 1

pub loop-place-preserved : goal.loop-place-preserved
loop-place-preserved c =
    parts_or (bpermd_part c.args.s c.args.b) 1 c.loop-place.place c.loop-place.place _ c.loop-place.bits (omega arith) (omega arith) (omega arith) (grind arith) c.loop-place.invariant
