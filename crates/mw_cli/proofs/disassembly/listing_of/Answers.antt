use Rattle.std.proofs.Common.{ap, ◌∙◌}
use Rattle.mw_asm.specs.Disassembly.{disassembly}
use Rattle.mw_cli.specs.Outside.{change}
use Rattle.mw_cli.proofs.VerdictLemmas.{gives-listing, listing-unread}
use Rattle.mw_cli.proofs.disassembly.listing_of.Goals as goal

pub returns-in-Ok-disassemble-clause-gives : goal.returns-in-Ok-disassemble-clause-gives
returns-in-Ok-disassemble-clause-gives g c =
    gives-listing (change (g.H.Host.state c.args.host.now) (g.H.Host.state c.read_image.new.host)) c.args.image.now c.in-Ok.bytes.items c.in-Ok-disassemble.text c.in-Ok.ensures.image c.in-Ok.ensures.fits (c.in-Ok-disassemble.ensures.text ∙ ap disassembly c.as_slice.ensures.value)

pub returns-in-Err-clause-refused : goal.returns-in-Err-clause-refused
returns-in-Err-clause-refused g c =
    listing-unread (change (g.H.Host.state c.args.host.now) (g.H.Host.state c.read_image.new.host)) c.args.image.now c.in-Err.refusal c.in-Err.ensures.opens.opened c.in-Err.ensures.refused
