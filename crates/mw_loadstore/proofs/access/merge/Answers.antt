use Rattle.mw_loadstore.proofs.PieceLemmas.{merged}
use Rattle.mw_loadstore.proofs.access.merge.Goals as goal

pub returns : goal.returns
returns c =
    merged c.args.first.now c.args.second.now _ _ _ c.copy_from_slice.ensures.after c.copy_from_slice-2.ensures.after c.split_at_mut-front.ensures.back
