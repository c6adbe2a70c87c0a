use Rattle.std.proofs.Common.{refl}
use Rattle.mw_tables.specs.Rows.{lines, layouts}
use Rattle.mw_tables.proofs.table.layouts.Goals as goal

pub returns-clause-value : goal.returns-clause-value
unfolding layouts lines
returns-clause-value c = refl
