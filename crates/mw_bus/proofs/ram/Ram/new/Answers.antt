use Rattle.mw_bus.proofs.RamLemmas.{filled}
use Rattle.mw_bus.proofs.ram.Ram.new.Goals as goal

pub returns : goal.returns
returns c =
    filled 16777216 _ c.args.image.now _ _ c.requires c.in_ok-bytes.ensures.items c.in_ok-bytes.ensures.len c.in_ok-resize.ensures.items
