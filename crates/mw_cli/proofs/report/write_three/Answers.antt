use Rattle.std.proofs.Common.{◌++◌}
use Rattle.mw_cli.proofs.WritingLemmas.{both-cases}
use Rattle.mw_cli.proofs.report.write_three.Goals as goal

pub returns-then-write_both-clause-cases : goal.returns-then-write_both-clause-cases
returns-then-write_both-clause-cases g c =
    both-cases c.write_piece.result _ _ _ (c.args.first.now ++ c.args.second.now) c.args.third.now c.write_both.ensures.faults c.write_both.ensures.wants c.if-write_both.ensures.cases c.write_piece.ensures.cases
