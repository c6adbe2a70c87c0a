use Rattle.std.proofs.Common.{List, ℕ, sym, ◌≤◌, length, subst}
use Rattle.mw_words.specs.Grammar.{Run}
use Rattle.mw_words.specs.Commands.{run_in}
use Rattle.mw_cli.specs.Files.{files_of}
use Rattle.mw_cli.specs.Outside.{change}
use Rattle.mw_cli.specs.Stages.{IsStart}
use Rattle.mw_cli.proofs.VerdictLemmas.{run-gives, run-refused, run-calm, stayed}
use Rattle.mw_cli.proofs.GoesLemmas.{goes-run}
use Rattle.mw_cli.proofs.run.run.Goals as goal

pub text_of_run-requires-clause-fits : goal.text_of_run-requires-clause-fits
text_of_run-requires-clause-fits g c = subst (λ (xs : List ℕ). length xs ≤ 16777216) (sym c.as_slice.ensures.value) c.in-Ok.ensures.start.image_fits

pub returns-clause-gives : goal.returns-clause-gives
returns-clause-gives g c =
    let host = change (g.H.Host.state c.args.host.now) (g.H.Host.state c.read_start.new.host) in
    let is = subst (λ (xs : List ℕ). IsStart host (run_in c.args.command.now) xs c.in-Ok.start.script) (sym c.as_slice.ensures.value) c.in-Ok.ensures.start in
    run-gives host (run_in c.args.command.now) c.as_slice.result.now c.in-Ok.start.script c.text_of_run.result is c.text_of_run.ensures.text c.text_of_run.ensures.end

pub returns-clause-refused : goal.returns-clause-refused
returns-clause-refused g c =
    run-refused (change (g.H.Host.state c.args.host.now) (g.H.Host.state c.read_start.new.host)) (Run (run_in c.args.command.now)) c.text_of_run.result c.text_of_run.ensures.refused

pub returns-clause-faults : goal.returns-clause-faults
returns-clause-faults g c =
    run-calm (g.H.Host.state c.args.host.now).faults (g.H.Host.state c.read_start.new.host).faults c.text_of_run.result (stayed _ _ c.in-Ok.ensures.faults) c.text_of_run.ensures.refused

pub returns-clause-goes : goal.returns-clause-goes
returns-clause-goes g c =
    goes-run (change (g.H.Host.state c.args.host.now) (g.H.Host.state c.read_start.new.host)) (files_of (Run (run_in c.args.command.now))) c.text_of_run.result c.text_of_run.ensures.refused c.in-Ok.ensures.goes
