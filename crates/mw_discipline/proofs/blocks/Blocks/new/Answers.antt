use Rattle.mw_discipline.proofs.BlockLaws.{filled-seen}
use Rattle.mw_discipline.proofs.blocks.Blocks.new.Goals as goal

pub returns : goal.returns
returns c =
    filled-seen 262144 _ _ _ c.new-places.ensures.items c.new-places.ensures.len c.in_ok-resize.ensures.items
