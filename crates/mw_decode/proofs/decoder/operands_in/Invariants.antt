use Rattle.std.proofs.Common.{◌≡◌, take}
use Rattle.mw_tables.specs.Layouts.{operands_in}
use Rattle.mw_decode.proofs.decoder.operands_in.Given as goal

-- the operands that were read are those of the fields so far
abbrev pub invariant-loop-field : goal.invariant-loop-field
invariant-loop-field l = l.found.items ≡ operands_in l.code (take l.field-index l.fields)
