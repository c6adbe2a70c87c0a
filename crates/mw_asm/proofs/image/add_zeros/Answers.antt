use Rattle.std.proofs.Common.{arith}
use Rattle.mw_asm.proofs.ImageLemmas.{zeros-more}
use Rattle.mw_asm.proofs.image.add_zeros.Goals as goal

pub loop-left-preserved : goal.loop-left-preserved
loop-left-preserved c = zeros-more c.loop-left.image c.add.new.self c.zeros.result.now _ c.loop-left.left c.min-piece.result c.zeros.ensures (omega (arith, c.min-piece.ensures)) c.in_ok-add.ensures.ok c.loop-left.invariant
