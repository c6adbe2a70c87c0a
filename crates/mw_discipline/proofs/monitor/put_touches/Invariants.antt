-- What is kept of the accesses from one on is what is kept of all; the tables' RAM stays.
use Rattle.std.proofs.Common.{◌≡◌, ◌+◌, ◌≤◌, drop, length}
use Rattle.mw_isa.specs.Discipline.{with_used}
use Rattle.mw_discipline.proofs.monitor.put_touches.Given as goal

abbrev pub invariant-loop-touch : goal.invariant-loop-touch
invariant-loop-touch g l =
    (with_used (g.T.Tables.ram l.fn.tables) l.fn.regs (drop l.touch-index l.fn.touches) l.entries.items ≡ with_used (g.T.Tables.ram l.fn.tables) l.fn.regs l.fn.touches l.fn.entries.items)
    × (g.T.Tables.ram l.tables ≡ g.T.Tables.ram l.fn.tables)
    × (g.T.Tables.reads l.fn.tables ≤ g.T.Tables.reads l.tables)
    × (length l.fn.touches ≤ l.entries.room + l.touch-index)
    × (l.count ≤ l.touch-index)
