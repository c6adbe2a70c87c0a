use Rattle.std.proofs.Common.{IfOk, refl, sym, ap, subst}
use Rattle.mw_words.specs.Grammar.{Order, SeedOrder}
use Rattle.mw_words.specs.Commands.{order_in}
use Rattle.mw_cli.specs.Files.{files_of}
use Rattle.mw_cli.specs.Outside.{change}
use Rattle.mw_cli.specs.Products.{bytes_of}
use Rattle.mw_cli.specs.Answers.{Gives, Goes}
use Rattle.mw_cli.specs.Stages.{ending}
use Rattle.mw_cli.proofs.VerdictLemmas.{gives-seed, run-refused, run-calm}
use Rattle.mw_cli.proofs.GoesLemmas.{goes-without}
use Rattle.mw_cli.proofs.main_call.output_of.Goals as goal

pub returns-in-Generate-clause-gives : goal.returns-in-Generate-clause-gives
returns-in-Generate-clause-gives g c =
    let host = change (g.H.Host.state c.args.host.now) (g.H.Host.state c.args.host.now) in
    let order : SeedOrder = record { seed = c.in-Generate.seed; cycles = c.in-Generate.cycles } in
    subst (λ (o : Order). IfOk c.run_of_seed.result (λ product. Gives host o (bytes_of product) product.end)) (sym (ap order_in c.in-Generate.is)) (gives-seed host order c.run_of_seed.result c.run_of_seed.ensures.sums)

pub returns-in-Generate-clause-refused : goal.returns-in-Generate-clause-refused
returns-in-Generate-clause-refused g c =
    run-refused (change (g.H.Host.state c.args.host.now) (g.H.Host.state c.args.host.now)) (order_in c.args.command.now) c.run_of_seed.result c.run_of_seed.ensures.refused

pub returns-in-Generate-clause-faults : goal.returns-in-Generate-clause-faults
returns-in-Generate-clause-faults g c =
    run-calm (g.H.Host.state c.args.host.now).faults (g.H.Host.state c.args.host.now).faults c.run_of_seed.result refl c.run_of_seed.ensures.refused

pub returns-in-Generate-clause-goes : goal.returns-in-Generate-clause-goes
returns-in-Generate-clause-goes g c =
    let host = g.H.Host.state c.args.host.now in
    subst (λ (o : Order). Goes (change host host) (files_of o) (ending c.run_of_seed.result)) (sym (ap order_in c.in-Generate.is)) (goes-without host c.run_of_seed.result c.run_of_seed.ensures.refused)
