use Rattle.std.proofs.Common.{refl}
use Rattle.mw_tables.specs.Rows.{table, lines}
use Rattle.mw_decode.proofs.groups.plain_groups.Goals as goal

pub returns-clause-fit : goal.returns-clause-fit
unfolding table lines
returns-clause-fit c = refl
