use Rattle.mw_discipline.proofs.BlockLaws.{stored-seen}
use Rattle.mw_discipline.proofs.blocks.Blocks.change.Goals as goal

pub returns : goal.returns
returns c =
    rw (← c.self.view_is) (stored-seen c.self.inside.places.items c.args.block c.index.result.now c.stored.result c.stored.ensures)
