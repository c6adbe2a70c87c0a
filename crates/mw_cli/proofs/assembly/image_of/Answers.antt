use Rattle.std.proofs.Common.{◌≡◌, sym, ap, ◌∙◌, subst, Ok, Err}
use Rattle.mw_asm.specs.Assembled.{assembled}
use Rattle.mw_asm.specs.declared.fault.AsmFault.{AsmFault}
use Rattle.mw_asm.specs.declared.fault.Place.{Place}
use Rattle.mw_asm.specs.Passes.{IfBad}
use Rattle.mw_cli.specs.Outside.{change}
use Rattle.mw_cli.proofs.AssemblyLemmas.{source-gives}
use Rattle.mw_cli.proofs.VerdictLemmas.{gives-source, source-bad, source-unread}
use Rattle.mw_cli.proofs.assembly.image_of.Goals as goal

pub returns-in-Ok-assemble-clause-gives : goal.returns-in-Ok-assemble-clause-gives
returns-in-Ok-assemble-clause-gives g c =
    gives-source (change (g.H.Host.state c.args.host.now) (g.H.Host.state c.read_file.new.host)) c.args.source.now c.in-Ok-assemble.image
    (source-gives _ c.args.source.now c.in-Ok.bytes.items (Ok c.in-Ok-assemble.image) c.in-Ok.ensures.front (ap assembled (sym c.as_slice.ensures.value) ∙ c.in-Ok-assemble.ensures.ok))

pub returns-in-Err-Bad-clause-refused : goal.returns-in-Err-Bad-clause-refused
returns-in-Err-Bad-clause-refused g c =
    let told = subst (λ (fault : AsmFault). IfBad fault (λ place. assembled c.as_slice.result.now ≡ Err place)) c.in-Err-Bad.field-0-is c.in-Err-Bad.ensures.bad in
    let place : Place = record { line = c.in-Err-Bad.line; column = c.in-Err-Bad.column; what = c.in-Err-Bad.field-0-2 } in
    source-bad (change (g.H.Host.state c.args.host.now) (g.H.Host.state c.read_file.new.host)) c.args.source.now place
    (source-gives _ c.args.source.now c.in-Ok.bytes.items (Err place) c.in-Ok.ensures.front (ap assembled (sym c.as_slice.ensures.value) ∙ told))

pub returns-in-Err-clause-refused : goal.returns-in-Err-clause-refused
returns-in-Err-clause-refused g c =
    source-unread (change (g.H.Host.state c.args.host.now) (g.H.Host.state c.read_file.new.host)) c.args.source.now c.in-Err.refusal c.in-Err.ensures.opens.opened c.in-Err.ensures.refused
