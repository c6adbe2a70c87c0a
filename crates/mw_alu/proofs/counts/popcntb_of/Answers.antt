use Rattle.std.proofs.Common.{◌*◌, arith}
use Rattle.mw_alu.specs.Counts.{popcntb_part}
use Rattle.mw_alu.proofs.OnesLemmas.{ones-byte}
use Rattle.mw_alu.proofs.Parts.{parts_none, parts_or}
use Rattle.mw_alu.proofs.counts.popcntb_of.Goals as goal

pub loop-place-init : goal.loop-place-init
loop-place-init c = parts_none (popcntb_part c.args.s) 8

pub loop-place-preserved : goal.loop-place-preserved
loop-place-preserved c =
    parts_or (popcntb_part c.args.s) 8 c.loop-place.place (8 * c.loop-place.place) _ c.loop-place.counts (omega arith) (omega arith) (omega (arith, ones-byte c.byte_at.result c.byte_at.type_inv)) (grind arith) c.loop-place.invariant
