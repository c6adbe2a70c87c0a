use Rattle.std.proofs.Common.{◌∙◌, sym}
use Rattle.mw_xics.proofs.PendingLemmas.{pending-small}
use Rattle.mw_xics.proofs.xics.Xics.pending_source.Goals as goal

pub returns-in-Some-clause-small : goal.returns-in-Some-clause-small
returns-in-Some-clause-small c = pending-small c.args.self.now c.args.line c.in-Some.candidate (sym c.pending.ensures ∙ c.in-Some.is)
