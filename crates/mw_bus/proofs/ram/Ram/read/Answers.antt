use Rattle.std.proofs.Common.{◌<◌, refl, arith}
use Rattle.mw_bus.specs.Memory.{bytes_at}
use Rattle.mw_bus.proofs.StorageLemmas.{padded-bytes_at}
use Rattle.mw_bus.proofs.ram.Ram.read.Goals as goal

pub loop-i-init : goal.loop-i-init
unfolding bytes_at
loop-i-init c = refl

pub loop-i-preserved : goal.loop-i-preserved
loop-i-preserved c =
    let below : c.loop-i.i < 8 = omega arith in
    padded-bytes_at c.args.self.now c.args.at c.loop-i.i _ c.loop-i.bytes c.loop-i.invariant below c.byte_at.ensures
