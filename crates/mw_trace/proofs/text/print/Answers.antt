use Rattle.std.proofs.Common.{◌≡◌, arith}
use Rattle.std.proofs.lemmas.Grind.{common_steps}
use Rattle.mw_isa.specs.State.{seen}
use Rattle.mw_isa.specs.Text.{text_of}
use Rattle.mw_trace.proofs.SpellLemmas.{spells_from_text}
use Rattle.mw_trace.proofs.text.print.Goals as goal

pub returns-clause-spells : goal.returns-clause-spells
unfolding text_of
returns-clause-spells c =
    let is : c.add_dump.new.text ≡ text_of c.args.events.now c.args.end.now (seen c.args.state.now) c.args.dump = grind (arith, common_steps) in
    spells_from_text c.add_dump.new.text c.args.events.now c.args.end.now (seen c.args.state.now) c.args.dump is c.in_ok-text.ensures.fit c.in_ok-add_end.ensures.fits
