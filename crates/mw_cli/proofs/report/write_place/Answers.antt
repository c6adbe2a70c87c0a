use Rattle.std.proofs.Common.{◌++◌, codes}
use Rattle.std.specs.Fmt.{decimal}
use Rattle.mw_cli.proofs.WritingLemmas.{both-cases}
use Rattle.mw_cli.proofs.report.write_place.Goals as goal

pub returns-then-write_number-clause-cases : goal.returns-then-write_number-clause-cases
returns-then-write_number-clause-cases g c =
    both-cases c.write_number-then-write_number.result _ _ _ (decimal c.args.line ++ codes ":") (decimal c.args.column ++ codes ": bad input\n") c.write_number.ensures.faults c.write_number.ensures.wants c.if-write_number.ensures.cases c.write_number-then-write_number.ensures.cases
