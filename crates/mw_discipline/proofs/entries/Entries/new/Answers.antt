use Rattle.mw_discipline.proofs.EntryLemmas.{kept-none}
use Rattle.mw_discipline.proofs.entries.Entries.new.Goals as goal

pub invariant_of-result : goal.invariant_of-result
invariant_of-result c = kept-none _ c.new.ensures.items
