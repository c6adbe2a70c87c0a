use Rattle.std.proofs.Common.{◌≡◌, ◌++◌, map}
use Rattle.std.specs.List.{flat_map, range_with_len}
use Rattle.mw_isa.specs.Text.{line, row_words}
use Rattle.mw_trace.proofs.dump.add_rows.Given as goal

-- the lines of the dump so far are written
abbrev pub invariant-loop-row : goal.invariant-loop-row
invariant-loop-row l = l.text ≡ l.fn.text ++ flat_map line (map (row_words l.ram l.span) (range_with_len 0 l.row))
