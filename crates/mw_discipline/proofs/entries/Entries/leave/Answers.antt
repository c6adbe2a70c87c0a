use Rattle.std.proofs.Common.{sym, ap, ◌∙◌, List, map}
use Rattle.mw_bits.specs.declared.scope.Scope.{Scope}
use Rattle.mw_isa.specs.Entries.{left_by}
use Rattle.mw_discipline.proofs.EntryLemmas.{kept-left, none-left}
use Rattle.mw_discipline.proofs.entries.Entries.leave.Goals as goal

pub invariant_of-self : goal.invariant_of-self
invariant_of-self c = kept-left c.self.inside.items.items _ c.self.inside.leaving c.args.scope c.self.invariant c.mark.ensures

pub returns-in-Nothing : goal.returns-in-Nothing
returns-in-Nothing c =
    none-left c.args.self.now.items ∙ ap (λ (scope : Scope). map (left_by scope) c.args.self.now.items) (sym c.in-Nothing.is)
