use Rattle.std.proofs.Common.{ℕ, ◌<◌}
use Rattle.mw_tables.specs.Rows.{table}
use Rattle.mw_tables.specs.Matching.{IsNamedAt}
use Rattle.mw_tables.proofs.table.by_name.Given as goal

-- no row that was passed has the name
abbrev pub invariant-loop-place : goal.invariant-loop-place
invariant-loop-place l = (k : ℕ) → k < l.place → IsNamedAt table l.name k → ⊥
