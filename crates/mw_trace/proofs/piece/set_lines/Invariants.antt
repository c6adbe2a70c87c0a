use Rattle.std.proofs.Common.{◌≡◌, ◌++◌, ◌*◌, ◌≤◌, drop, map, length}
use Rattle.std.specs.List.{flat_map}
use Rattle.mw_isa.specs.Text.{line, event_words}
use Rattle.mw_trace.proofs.piece.set_lines.Given as goal

-- what is there, with the lines of the events that are left, is the whole, and each line so far took 58 bytes at most
abbrev pub invariant-loop-event : goal.invariant-loop-event
invariant-loop-event l =
    (l.piece.items ++ flat_map line (map event_words (drop l.event-index l.events)) ≡ flat_map line (map event_words l.events)) × (length l.piece.items ≤ 58 * l.event-index)
