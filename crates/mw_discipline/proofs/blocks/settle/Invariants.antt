-- What is left of the list settles the blocks as the whole list does.
use Rattle.std.proofs.Common.{◌≡◌, length, drop}
use Rattle.mw_isa.specs.Discipline.{block_count}
use Rattle.mw_discipline.specs.Inside.{settled_at}
use Rattle.mw_discipline.proofs.blocks.settle.Given as goal

abbrev pub invariant-loop-block : goal.invariant-loop-block
invariant-loop-block l =
    (length l.places.items ≡ block_count) × (settled_at (drop l.block-index l.waiting) l.places.items ≡ settled_at l.waiting l.initial.places.items)
