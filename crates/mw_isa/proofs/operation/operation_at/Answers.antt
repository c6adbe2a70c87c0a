use Rattle.std.proofs.lemmas.Option.{slice_get-get_or}
use Rattle.mw_isa.specs.Operations.{operations, operation_lines}
use Rattle.mw_isa.proofs.operation.operation_at.Goals as goal

pub returns : goal.returns
unfolding operations operation_lines
returns c = slice_get-get_or operations c.args.row _ c.requires
