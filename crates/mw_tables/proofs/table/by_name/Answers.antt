use Rattle.std.proofs.Common.{◌<◌, arith}
use Rattle.mw_tables.specs.Rows.{row_count}
use Rattle.mw_tables.proofs.Places.{IsNamedAt-below}
use Rattle.mw_tables.proofs.table.by_name.Goals as goal

-- a row with the name stands in the table, and the loop passed each of those
pub returns-clause-none : goal.returns-clause-none
returns-clause-none c place there =
    let within : place < row_count = IsNamedAt-below c.args.name.now place there in
    let passed : place < c.loop-place.place = omega arith in
    c.loop-place.invariant place passed there
