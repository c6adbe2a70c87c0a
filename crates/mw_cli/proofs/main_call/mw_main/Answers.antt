use Rattle.mw_cli.proofs.AnswerLemmas.{answers}
use Rattle.mw_cli.proofs.main_call.mw_main.Goals as goal

pub returns-clause-answers : goal.returns-clause-answers
returns-clause-answers g c = answers _ c.obey.result c.obey.ensures.says c.obey.ensures.faults
