use Rattle.std.proofs.Common.{◌∙◌}
use Rattle.mw_step.proofs.StorageLemmas.{two-read}
use Rattle.mw_step.proofs.storage.read.Goals as goal

pub returns-in-Some : goal.returns-in-Some
returns-in-Some c =
    c.merge.ensures
    ∙ two-read c.args.ram.now c.read-front.result c.read-back.result c.args.at.now c.in-Some.second c.from.result c.from-in-Some.result c.from-in-Some-2.result c.from-in-Some-3.result c.in-Some.is c.from.ensures c.from-in-Some-2.ensures c.read-front.ensures c.from-in-Some.ensures c.from-in-Some-3.ensures c.read-back.ensures
