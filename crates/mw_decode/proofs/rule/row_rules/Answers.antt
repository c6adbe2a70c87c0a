use Rattle.std.proofs.Common.{refl}
use Rattle.mw_tables.specs.Rows.{table, lines}
use Rattle.mw_decode.specs.Rules.{row_rules}
use Rattle.mw_decode.proofs.rule.row_rules.Goals as goal

pub returns-clause-value : goal.returns-clause-value
unfolding row_rules table lines
returns-clause-value c = refl
