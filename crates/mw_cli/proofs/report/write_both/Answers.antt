use Rattle.mw_cli.proofs.WritingLemmas.{both-cases}
use Rattle.mw_cli.proofs.report.write_both.Goals as goal

pub returns-then-write_piece-clause-cases : goal.returns-then-write_piece-clause-cases
returns-then-write_piece-clause-cases g c =
    both-cases c.write_piece-then-write_piece.result _ _ _ c.args.first.now c.args.second.now c.write_piece.ensures.faults c.write_piece.ensures.wants c.if-write_piece.ensures.cases c.write_piece-then-write_piece.ensures.cases
