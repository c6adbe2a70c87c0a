use Rattle.std.proofs.Common.{refl}
use Rattle.mw_tables.specs.Rows.{lines, table, layouts}
use Rattle.mw_tables.proofs.Places.{table-AreApart, table-AreNamed}
use Rattle.mw_tables.proofs.table.rows.Goals as goal

pub returns-clause-value : goal.returns-clause-value
unfolding table lines
returns-clause-value c = refl

pub returns-clause-apart : goal.returns-clause-apart
unfolding table lines
returns-clause-apart c = table-AreApart

pub returns-clause-laid_out : goal.returns-clause-laid_out
unfolding layouts lines
returns-clause-laid_out c = refl

pub returns-clause-named : goal.returns-clause-named
unfolding table lines
returns-clause-named c = table-AreNamed
