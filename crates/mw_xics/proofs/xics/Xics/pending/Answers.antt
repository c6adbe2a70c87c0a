use Rattle.std.proofs.Common.{Some, ap, ◌∙◌}
use Rattle.mw_xics.specs.Pending.{below}
use Rattle.mw_xics.proofs.PendingLemmas.{pending-better}
use Rattle.mw_xics.proofs.xics.Xics.pending.Goals as goal

pub returns : goal.returns
returns c = c.below.ensures.value ∙ ap (λ candidate. below c.args.self.now.cppr (Some candidate)) c.better.ensures ∙ pending-better c.args.self.now c.args.line c.below.ensures.byte
