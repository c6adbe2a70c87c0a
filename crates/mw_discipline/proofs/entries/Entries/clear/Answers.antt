use Rattle.mw_discipline.proofs.EntryLemmas.{kept-none}
use Rattle.mw_discipline.proofs.entries.Entries.clear.Goals as goal

pub invariant_of-self : goal.invariant_of-self
invariant_of-self c = kept-none _ c.clear.ensures.items
