use Rattle.std.proofs.Common.{rules}
use Rattle.std.proofs.lemmas.List.Sorted.{IsPartitionPoint-from_clause}
use Rattle.mw_discipline.specs.Inside.{is_before}
use Rattle.mw_discipline.proofs.EntryLemmas.{before-first}
use Rattle.mw_discipline.proofs.entries.Entries.first_of.Goals as goal

pub returns-clause-parted : goal.returns-clause-parted
returns-clause-parted c =
    let before = before-first c.self.inside.items.items c.args.pid c.args.page c.self.invariant.ordered in
    rw (← c.self.view_is, ← c.deref.ensures.value) (IsPartitionPoint-from_clause (is_before c.args.pid c.args.page) _ _ c.partition_point.ensures.partitioned (rw (c.deref.ensures.value) before) (λ a r g called. (search rules, search rules)))
