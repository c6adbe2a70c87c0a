use Rattle.std.proofs.Common.{refl, sym, map, string_bytes, subst}
use Rattle.mw_words.specs.Commands.{order_in}
use Rattle.mw_cli.specs.Files.{files_by}
use Rattle.mw_cli.specs.Outside.{change}
use Rattle.mw_cli.specs.Answers.{Call, Says}
use Rattle.mw_cli.proofs.CauseLemmas.{says-refused, says-written}
use Rattle.mw_cli.specs.Numbers.{status_of}
use Rattle.mw_cli.proofs.GoesLemmas.{goes-by, goes-nowhere, stays-by}
use Rattle.mw_cli.proofs.main_call.obey.Goals as goal

pub returns-in-Err-NoMemory-clause-goes_through : goal.returns-in-Err-NoMemory-clause-goes_through
returns-in-Err-NoMemory-clause-goes_through g c =
    (goes-nowhere (g.H.Host.state c.args.host.now) (files_by (map string_bytes c.args.words.now)), λ e. refl)

pub returns-in-Ok-fulfil-clause-goes_through : goal.returns-in-Ok-fulfil-clause-goes_through
returns-in-Ok-fulfil-clause-goes_through g c =
    let host = change (g.H.Host.state c.args.host.now) (g.H.Host.state c.fulfil.new.host) in (
      goes-by host (map string_bytes c.args.words.now) (order_in c.in-Ok.command) c.in-Ok-fulfil.status c.in-Ok-fulfil.status c.in-Ok.ensures.value refl c.in-Ok-fulfil.ensures.goes,
      stays-by host (map string_bytes c.args.words.now) (order_in c.in-Ok.command) c.in-Ok.ensures.value c.in-Ok-fulfil.ensures.without,
    )

pub returns-in-Ok-fulfil-clause-says : goal.returns-in-Ok-fulfil-clause-says
returns-in-Ok-fulfil-clause-says g c =
    let call : Call = record {
      words = map string_bytes c.args.words.now;
      host = change (g.H.Host.state c.args.host.now) (g.H.Host.state c.fulfil.new.host);
      out = change (g.O.Sink.state c.args.out.now) (g.O.Sink.state c.fulfil.new.out);
      err = change (g.E.Sink.state c.args.err.now) (g.E.Sink.state c.args.err.now);
    } in
    says-written call (order_in c.in-Ok.command) c.in-Ok-fulfil.status c.in-Ok.ensures.value refl c.in-Ok-fulfil.ensures.written

pub returns-in-Err-clause-goes_through : goal.returns-in-Err-clause-goes_through
returns-in-Err-clause-goes_through g c =
    let host = change (g.H.Host.state c.args.host.now) (g.H.Host.state c.fulfil.new.host) in (
      goes-by host (map string_bytes c.args.words.now) (order_in c.in-Ok.command) (status_of c.in-Err.refusal) c.status_of.result c.in-Ok.ensures.value c.status_of.ensures c.in-Err.ensures.goes,
      stays-by host (map string_bytes c.args.words.now) (order_in c.in-Ok.command) c.in-Ok.ensures.value c.in-Err.ensures.without,
    )

pub returns-in-Err-clause-says : goal.returns-in-Err-clause-says
returns-in-Err-clause-says g c =
    let call : Call = record {
      words = map string_bytes c.args.words.now;
      host = change (g.H.Host.state c.args.host.now) (g.H.Host.state c.fulfil.new.host);
      out = change (g.O.Sink.state c.args.out.now) (g.O.Sink.state c.fulfil.new.out);
      err = change (g.E.Sink.state c.args.err.now) (g.E.Sink.state c.report-in-Err.new.err);
    } in
    subst (Says call) (sym c.status_of.ensures) (says-refused call (order_in c.in-Ok.command) c.in-Err.refusal c.in-Ok.ensures.value c.in-Err.ensures.refused c.report-in-Err.ensures.took)
