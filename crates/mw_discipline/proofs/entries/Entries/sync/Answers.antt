use Rattle.std.proofs.Common.{rules}
use Rattle.std.proofs.lemmas.Fn.{filter_same}
use Rattle.mw_discipline.proofs.EntryLemmas.{kept-synced, none-gone}
use Rattle.mw_discipline.proofs.entries.Entries.sync.Goals as goal

pub invariant_of-self : goal.invariant_of-self
invariant_of-self c =
    kept-synced c.self.inside.items.items _ c.self.inside.leaving c.self.invariant (filter_same _ _ _ (λ x b f k. search rules) _ _ c.retain.ensures.filtered)

pub returns-then-self : goal.returns-then-self
returns-then-self c =
    rw (← c.self.view_is) (filter_same _ _ _ (λ x b f k. search rules) _ _ c.retain.ensures.filtered)

pub returns-else-self : goal.returns-else-self
returns-else-self c =
    rw (← c.self.view_is) (none-gone c.self.inside.items.items (c.self.invariant.still c.if-self.false))
