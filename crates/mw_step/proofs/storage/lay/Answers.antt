use Rattle.std.proofs.Common.{◌∙◌}
use Rattle.mw_step.proofs.StorageLemmas.{lay-pieces}
use Rattle.mw_step.proofs.storage.lay.Goals as goal

pub returns : goal.returns
returns c =
    c.write.ensures
    ∙ lay-pieces c.args.ram.now c.args.bytes.now c.args.op.now c.args.at.now c.pieces_in.result c.requires.size c.requires.few c.requires.stands c.requires.in_ram c.pieces_in.ensures.value
