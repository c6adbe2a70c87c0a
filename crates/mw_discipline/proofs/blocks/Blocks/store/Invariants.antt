-- The stretches that are left change the blocks as all do.
use Rattle.std.proofs.Common.{◌≡◌, drop}
use Rattle.mw_isa.specs.Discipline.{changed_by}
use Rattle.mw_discipline.proofs.blocks.Blocks.store.Given as goal

abbrev pub invariant-loop-span : goal.invariant-loop-span
invariant-loop-span l = changed_by (drop l.span-index l.spans) l.self ≡ changed_by l.spans l.initial.self
