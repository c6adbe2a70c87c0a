-- Those before a place are marked, and the others as they were.
use Rattle.std.proofs.Common.{◌≡◌, ◌++◌, ◌≤◌, drop, length, map, take}
use Rattle.mw_isa.specs.Entries.{left_by}
use Rattle.mw_discipline.proofs.entries.mark.Given as goal

abbrev pub invariant-loop-place : goal.invariant-loop-place
invariant-loop-place l =
    l.items.items ≡ take l.place (map (left_by l.fn.scope) l.initial.items.items) ++ drop l.place l.initial.items.items
