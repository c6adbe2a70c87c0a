use Rattle.std.proofs.Common.{refl}
use Rattle.mw_words.specs.Commands.{order_in}
use Rattle.mw_cli.specs.Files.{files_of}
use Rattle.mw_cli.specs.Outside.{change}
use Rattle.mw_cli.specs.Products.{bytes_of}
use Rattle.mw_cli.proofs.VerdictLemmas.{stayed}
use Rattle.mw_cli.proofs.CauseLemmas.{nothing-cause, nothing-faults, ended-faults, unwritten, unwanted}
use Rattle.mw_cli.proofs.GoesLemmas.{goes-ended}
use Rattle.mw_cli.proofs.main_call.fulfil.Goals as goal

pub returns-in-Err-clause-refused : goal.returns-in-Err-clause-refused
returns-in-Err-clause-refused g c =
    nothing-cause (change (g.H.Host.state c.args.host.now) (g.H.Host.state c.output_of.new.host)) (change (g.S.Sink.state c.args.out.now) (g.S.Sink.state c.args.out.now)) (order_in c.args.command.now) c.in-Err.refusal refl c.in-Err.ensures.refused

pub returns-in-Err-clause-faults : goal.returns-in-Err-clause-faults
returns-in-Err-clause-faults g c =
    nothing-faults (change (g.H.Host.state c.args.host.now) (g.H.Host.state c.output_of.new.host)) (g.S.Sink.state c.args.out.now) (order_in c.args.command.now) c.in-Err.refusal c.in-Err.ensures.faults c.in-Err.ensures.refused

pub returns-in-Ok-write_product-clause-written : goal.returns-in-Ok-write_product-clause-written
returns-in-Ok-write_product-clause-written g c =
    (bytes_of c.in-Ok.product, c.in-Ok.product.end, c.in-Ok.ensures.gives, c.in-Ok-write_product.ensures.took, c.ended.ensures)

pub returns-in-Ok-write_product-clause-faults : goal.returns-in-Ok-write_product-clause-faults
returns-in-Ok-write_product-clause-faults g c =
    ended-faults (change (g.H.Host.state c.args.host.now) (g.H.Host.state c.output_of.new.host)) (change (g.S.Sink.state c.args.out.now) (g.S.Sink.state c.write_product.new.out)) c.in-Ok.product.end c.ended.result c.ended.ensures
    (stayed _ _ c.in-Ok.ensures.faults) (unwritten _ _ c.in-Ok-write_product.ensures.faults) (unwanted _ _ c.in-Ok-write_product.ensures.wants)

pub returns-in-Ok-write_product-clause-goes : goal.returns-in-Ok-write_product-clause-goes
returns-in-Ok-write_product-clause-goes g c =
    goes-ended (change (g.H.Host.state c.args.host.now) (g.H.Host.state c.output_of.new.host)) (files_of (order_in c.args.command.now)) c.in-Ok.product.end c.ended.result c.ended.ensures c.in-Ok.ensures.goes
