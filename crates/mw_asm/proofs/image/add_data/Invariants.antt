use Rattle.std.proofs.Common.{◌≡◌, Ok, drop}
use Rattle.mw_asm.specs.Values.{and_bytes, data_bytes}
use Rattle.mw_asm.proofs.image.add_data.Given as goal

abbrev pub invariant-loop-value : goal.invariant-loop-value
invariant-loop-value l = and_bytes (Ok l.image) (data_bytes l.labels l.at l.line l.unit (drop l.value-index l.values)) ≡ and_bytes (Ok l.fn.image) (data_bytes l.labels l.at l.line l.unit l.values)
