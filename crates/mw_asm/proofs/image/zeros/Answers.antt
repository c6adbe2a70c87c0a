use Rattle.std.proofs.lemmas.List.{take-replicate}
use Rattle.mw_asm.proofs.image.zeros.Goals as goal

pub returns : goal.returns
returns c = take-replicate c.args.count 256 0 c.requires
