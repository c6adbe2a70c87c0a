-- From an access on the first that breaks the discipline is the first of all; the tables' RAM stays.
use Rattle.std.proofs.Common.{◌≡◌, ◌≤◌, drop}
use Rattle.mw_isa.specs.Discipline.{first_of}
use Rattle.mw_discipline.proofs.monitor.Monitor.examine_all.Given as goal

abbrev pub invariant-loop-touch : goal.invariant-loop-touch
invariant-loop-touch g l =
    (first_of l.fn.self.kept (g.T.Tables.ram l.fn.tables) l.fn.regs (drop l.touch-index l.fn.touches) ≡ first_of l.fn.self.kept (g.T.Tables.ram l.fn.tables) l.fn.regs l.fn.touches)
    × (g.T.Tables.ram l.tables ≡ g.T.Tables.ram l.fn.tables)
    × (g.T.Tables.reads l.fn.tables ≤ g.T.Tables.reads l.tables)
