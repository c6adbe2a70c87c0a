-- The blocks that are left are changed as all are.
use Rattle.std.proofs.Common.{◌≡◌, ◌-◌, ◌/◌}
use Rattle.mw_isa.specs.Discipline.{blocks_in, changed_from}
use Rattle.mw_discipline.proofs.blocks.Blocks.store_span.Given as goal

abbrev pub invariant-loop-block : goal.invariant-loop-block
invariant-loop-block l =
    changed_from (l.block-end - l.block) l.block l.self ≡ changed_from (blocks_in l.fn.span) (l.fn.span.at / 64) l.initial.self
