use Rattle.std.proofs.Common.{sym, ◌∙◌}
use Rattle.mw_step.proofs.StorageLemmas.{found-real}
use Rattle.mw_step.proofs.place.page_real.Goals as goal

pub returns-in-Ok-clause-bound : goal.returns-in-Ok-clause-bound
returns-in-Ok-clause-bound c =
    found-real c.new.result.ram.now c.args.regs.now c.args.page.now c.in-Ok.there (sym c.translate.ensures.value ∙ c.in-Ok.is)
